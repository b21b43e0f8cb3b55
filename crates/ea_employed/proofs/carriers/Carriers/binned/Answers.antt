use Rattle.std.proofs.Common.{get_or, map, refl, sym, ap, ◌∙◌, subst}
use Rattle.std.specs.Prelude.{IsNone}
use Rattle.std.specs.Option.{option_copied}
use Rattle.ea_employed.specs.Choices.{candidate_of}
use Rattle.ea_employed.specs.Listed.{CarrierList, held_of}
use Rattle.ea_employed.specs.Searches.{order_among}
use Rattle.ea_employed.proofs.Choosing.{bins-Address}
use Rattle.ea_employed.proofs.GapCarrier.{binned-chosen, gap-chosen, gap-IsChoice, gap-spans}
use Rattle.ea_employed.proofs.GapCarrier.{has-carrier, none-chosen}
use Rattle.ea_employed.proofs.carriers.Carriers.binned.Goals as goal

pub last_up_to-requires : goal.last_up_to-requires
last_up_to-requires c =
    c.self.invariant.listed.order
    ∙ ap (λ (l : CarrierList). order_among l.strategy) c.self.view_is
    ∙ bins-Address c.args.self.now.strategy c.requires.bins

pub returns-in_err-gap-clause-chosen : goal.returns-in_err-gap-clause-chosen
returns-in_err-gap-clause-chosen c =
    let is = binned-chosen _ c.args.self.now c.self.inside.set c.self.inside.bins
    c.in_ok-as_ref.field-0.now c.args.depth c.args.need c.find.result c.self.view_is
    c.self.invariant.listed (sym c.as_ref.ensures.value ∙ ap option_copied c.in_ok-as_ref.was)
    c.find.ensures.order in
    ap candidate_of c.from_residual-in_err-gap.ensures
    ∙ sym (none-chosen c.find.result _ is c.in_err-gap.was)

pub returns-in_err-index-clause-chosen : goal.returns-in_err-index-clause-chosen
returns-in_err-index-clause-chosen c =
    let is = binned-chosen _ c.args.self.now c.self.inside.set c.self.inside.bins
    c.in_ok-as_ref.field-0.now c.args.depth c.args.need c.find.result c.self.view_is
    c.self.invariant.listed (sym c.as_ref.ensures.value ∙ ap option_copied c.in_ok-as_ref.was)
    c.find.ensures.order in
    absurd (has-carrier c.args.depth c.args.need c.args.self.now c.requires.laid c.find.result
    c.in_ok-gap.gap c.in_ok-gap.was is c.self.inside.set.held
    (c.self.invariant.listed.held ∙ ap (λ (l : CarrierList). map held_of l.contents) c.self.view_is)
    (c.last_up_to.ensures.none.0 (subst (λ o. IsNone o) (sym c.in_err-index.was) refl)))

pub located-candidate-requires-clause-spans : goal.located-candidate-requires-clause-spans
located-candidate-requires-clause-spans c =
    let is = binned-chosen _ c.args.self.now c.self.inside.set c.self.inside.bins
    c.in_ok-as_ref.field-0.now c.args.depth c.args.need c.find.result c.self.view_is
    c.self.invariant.listed (sym c.as_ref.ensures.value ∙ ap option_copied c.in_ok-as_ref.was)
    c.find.ensures.order in
    gap-spans c.args.depth c.args.need c.args.self.now c.requires.laid c.find.result
    c.in_ok-gap.gap c.in_ok-gap.was is c.self.inside.set.held
    (c.self.invariant.listed.held ∙ ap (λ (l : CarrierList). map held_of l.contents) c.self.view_is)
    c.last_up_to.result c.in_ok-index.field-0 c.in_ok-index.was c.last_up_to.ensures.last
    c.last_up_to.ensures.stands c.index.result.now
    (c.index.ensures ∙ ap (λ (l : CarrierList). get_or l.contents c.in_ok-index.field-0.index
    c.index.result.now) c.self.view_is)

pub returns-clause-chosen : goal.returns-clause-chosen
returns-clause-chosen c =
    let is = binned-chosen _ c.args.self.now c.self.inside.set c.self.inside.bins
    c.in_ok-as_ref.field-0.now c.args.depth c.args.need c.find.result c.self.view_is
    c.self.invariant.listed (sym c.as_ref.ensures.value ∙ ap option_copied c.in_ok-as_ref.was)
    c.find.ensures.order in
    gap-chosen c.args.depth c.args.need c.args.self.now c.requires.laid c.find.result
    c.in_ok-gap.gap c.in_ok-gap.was is c.self.inside.set.held
    (c.self.invariant.listed.held ∙ ap (λ (l : CarrierList). map held_of l.contents) c.self.view_is)
    c.last_up_to.result c.in_ok-index.field-0 c.in_ok-index.was c.last_up_to.ensures.last
    c.last_up_to.ensures.stands c.index.result.now
    (c.index.ensures ∙ ap (λ (l : CarrierList). get_or l.contents c.in_ok-index.field-0.index
    c.index.result.now) c.self.view_is)
    c.located-candidate.result c.located-candidate.ensures

pub returns-clause-choice : goal.returns-clause-choice
returns-clause-choice c =
    let is = binned-chosen _ c.args.self.now c.self.inside.set c.self.inside.bins
    c.in_ok-as_ref.field-0.now c.args.depth c.args.need c.find.result c.self.view_is
    c.self.invariant.listed (sym c.as_ref.ensures.value ∙ ap option_copied c.in_ok-as_ref.was)
    c.find.ensures.order in
    gap-IsChoice c.args.depth c.args.need c.args.self.now c.requires.laid c.find.result
    c.in_ok-gap.gap c.in_ok-gap.was is c.self.inside.set.held
    (c.self.invariant.listed.held ∙ ap (λ (l : CarrierList). map held_of l.contents) c.self.view_is)
    c.last_up_to.result c.in_ok-index.field-0 c.in_ok-index.was c.last_up_to.ensures.last
    c.last_up_to.ensures.stands c.index.result.now
    (c.index.ensures ∙ ap (λ (l : CarrierList). get_or l.contents c.in_ok-index.field-0.index
    c.index.result.now) c.self.view_is)
    c.located-candidate.result c.located-candidate.ensures
