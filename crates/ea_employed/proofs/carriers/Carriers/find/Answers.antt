use Rattle.std.proofs.Common.{ap}
use Rattle.ea_employed.specs.Listed.{CarrierList}
use Rattle.ea_employed.proofs.Finding.{find-number, find-there, found-stands}
use Rattle.ea_employed.proofs.carriers.Carriers.find.Goals as goal

pub returns-clause-there : goal.returns-clause-there
returns-clause-there c =
    find-there c.args.number c.self.inside.list.items _ _ _ c.self.invariant.listed.held
    (ap (λ (l : CarrierList). l.contents) c.self.view_is) c.find.ensures.carrier

pub returns-clause-number : goal.returns-clause-number
returns-clause-number c =
    find-number c.args.number c.self.inside.list.items _ _ _ c.self.invariant.listed.held
    (ap (λ (l : CarrierList). l.contents) c.self.view_is) c.find.ensures.carrier

pub returns-clause-stands : goal.returns-clause-stands
returns-clause-stands c =
    found-stands c.find.result _ _ c.self.inside.set c.self.invariant.listed.held
    (ap (λ (l : CarrierList). l.contents) c.self.view_is) c.find.ensures.stands
