use Rattle.std.proofs.Common.{subst}
use Rattle.ea_laws.specs.InOrder.{IsInOrder}
use Rattle.ea_laws.specs.Kept.{Stands}
use Rattle.ea_laws.proofs.Standing.{Stands-IsInOrder}
use Rattle.ea_instance.proofs.instance.Instance.stands.Goals as goal

pub returns-clause-stands : goal.returns-clause-stands
returns-clause-stands c = subst Stands c.self.view_is c.self.invariant.stands

pub returns-clause-order : goal.returns-clause-order
returns-clause-order c =
    subst IsInOrder c.self.view_is (Stands-IsInOrder _ c.self.invariant.stands)
