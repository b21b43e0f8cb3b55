use Rattle.std.proofs.Common.{ap, ◌∙◌, sym}
use Rattle.ea_model.specs.Instance.{content_of, employed}
use Rattle.ea_instance.proofs.Keeping.{found-dismissed, kept-single-dismissed}
use Rattle.ea_instance.proofs.Keeping.{seen-single-dismissed}
use Rattle.ea_instance.proofs.instance.Instance.give_up_single.Goals as goal

pub invariant_of-self : goal.invariant_of-self
invariant_of-self c = kept-single-dismissed _ _ _ _ _ _ _ c.self.invariant c.args.number
    c.leave.result
    c.leave.ensures.carrier _ c.leave.ensures.rest

pub returns-clause-carrier : goal.returns-clause-carrier
returns-clause-carrier c = ap (λ i. content_of (employed i) c.args.number) (sym c.self.view_is)
    ∙ found-dismissed _ _ _ _ _ _ _ c.self.invariant c.args.number c.leave.result
    c.leave.ensures.carrier _ c.leave.ensures.rest

pub returns-clause-rest : goal.returns-clause-rest
returns-clause-rest c = seen-single-dismissed _ _ _ _ _ _ _ c.self.invariant c.args.number
    c.leave.result
    c.leave.ensures.carrier _ c.leave.ensures.rest _ c.self.view_is
