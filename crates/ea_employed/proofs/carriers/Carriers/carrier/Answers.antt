use Rattle.std.proofs.Common.{ap, ◌∙◌}
use Rattle.std.specs.Prelude.{option_map}
use Rattle.ea_employed.specs.Listed.{CarrierList}
use Rattle.ea_employed.proofs.Finding.{find-none, find-some}
use Rattle.ea_employed.proofs.carriers.Carriers.carrier.Goals as goal

pub returns-in_err-index : goal.returns-in_err-index
returns-in_err-index c =
    ap (option_map (λ x. x.now)) c.from_residual.ensures
    ∙ find-none c.args.number c.self.inside.list.items _ _ _ c.self.invariant.listed.held
    (ap (λ (l : CarrierList). l.contents) c.self.view_is) c.find.ensures.carrier c.in_err-index.was

pub returns : goal.returns
returns c =
    find-some c.args.number c.self.inside.list.items _ _ _ c.self.invariant.listed.held
    (ap (λ (l : CarrierList). l.contents) c.self.view_is) c.find.ensures.carrier
    c.in_ok-index.field-0 c.in_ok-index.was c.find.ensures.rising c.find.ensures.stands
    c.index.result.now c.index.ensures
