use Rattle.std.proofs.Common.{sym, ap, ◌∙◌}
use Rattle.ea_employed.specs.Choices.{candidate_of}
use Rattle.ea_employed.specs.Listed.{CarrierList}
use Rattle.ea_employed.proofs.Finding.{found-stands}
use Rattle.ea_employed.proofs.AddressFit.{af-none, af-small, af-large, lowest-found}
use Rattle.ea_employed.proofs.carriers.Carriers.lowest.Goals as goal

pub choice_in-requires-clause-stands : goal.choice_in-requires-clause-stands
choice_in-requires-clause-stands c =
    found-stands c.first.result _ _ c.self.inside.set c.self.invariant.listed.held
    (ap (λ (l : CarrierList). l.contents) c.self.view_is) c.first.ensures.stands

pub returns-in_err-found-clause-chosen : goal.returns-in_err-found-clause-chosen
returns-in_err-found-clause-chosen c = λ depth.
    ap candidate_of c.from_residual.ensures
    ∙ sym (af-none depth c.args.need c.args.self.now.contents
    (sym (lowest-found _ _ _ _ _ _ c.self.invariant.listed
    (ap (λ (l : CarrierList). l.contents) c.self.view_is) c.requires.laid _
    (ap (λ (l : CarrierList). l.strategy) c.self.view_is) c.requires.strategy _ _
    c.first.ensures.found c.choice_in.ensures.chosen)
    ∙ ap candidate_of c.in_err-found.was))

pub returns-then-found-need-clause-chosen : goal.returns-then-found-need-clause-chosen
returns-then-found-need-clause-chosen c = λ depth.
    sym (af-small depth c.args.need c.args.self.now.contents c.in_ok-found.found.candidate
    (sym (lowest-found _ _ _ _ _ _ c.self.invariant.listed
    (ap (λ (l : CarrierList). l.contents) c.self.view_is) c.requires.laid _
    (ap (λ (l : CarrierList). l.strategy) c.self.view_is) c.requires.strategy _ _
    c.first.ensures.found c.choice_in.ensures.chosen)
    ∙ ap candidate_of c.in_ok-found.was) c.if-found-need.true)

pub returns-clause-chosen : goal.returns-clause-chosen
returns-clause-chosen c = λ depth.
    sym (af-large depth c.args.need c.args.self.now.contents c.in_ok-found.found.candidate
    (sym (lowest-found _ _ _ _ _ _ c.self.invariant.listed
    (ap (λ (l : CarrierList). l.contents) c.self.view_is) c.requires.laid _
    (ap (λ (l : CarrierList). l.strategy) c.self.view_is) c.requires.strategy _ _
    c.first.ensures.found c.choice_in.ensures.chosen)
    ∙ ap candidate_of c.in_ok-found.was) c.if-found-need.false)
