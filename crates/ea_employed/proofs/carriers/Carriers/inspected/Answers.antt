use Rattle.std.proofs.Common.{◌≡◌, sym, ap, ◌∙◌, subst}
use Rattle.ea_model.specs.Strategies.{choice_among}
use Rattle.ea_cset.specs.Carriers.{comes_first, number_found}
use Rattle.ea_employed.specs.Choices.{candidate_of}
use Rattle.ea_employed.specs.Listed.{CarrierList}
use Rattle.ea_employed.specs.Searches.{order_among, search_of}
use Rattle.ea_employed.specs.declared.strategies.Search.TheVariants.{First, Lowest}
use Rattle.ea_employed.proofs.ByCarrier.{choice-first}
use Rattle.ea_employed.proofs.Choosing.{bins-has_bins, choice-all, first-miss_none, lowest-af}
use Rattle.ea_employed.proofs.Finding.{found-stands}
use Rattle.ea_employed.proofs.TwoCarriers.{first-GoesBy, GoesBy}
use Rattle.ea_employed.proofs.carriers.Carriers.inspected.Goals as goal

pub choice_in-requires-clause-stands : goal.choice_in-requires-clause-stands
choice_in-requires-clause-stands c =
    found-stands c.first.result _ _ c.self.inside.set c.self.invariant.listed.held
    (ap (λ (l : CarrierList). l.contents) c.self.view_is) c.first.ensures.stands

pub returns-in-First-clause-chosen : goal.returns-in-First-clause-chosen
returns-in-First-clause-chosen c =
    let s = c.args.self.now.strategy in
    let order = c.self.inside.set.order in
    let search : search_of s ≡ First = ap (λ (l : CarrierList). search_of l.strategy)
    (sym c.self.view_is) ∙ sym c.search_of.ensures ∙ c.in-First.is in
    choice-all s c.args.depth c.args.need c.args.self.now.contents (candidate_of c.choice_in.result)
    (first-miss_none s search)
    (choice-first s (comes_first order) (subst (λ o. GoesBy s (comes_first o))
    (sym (c.self.invariant.listed.order
    ∙ ap (λ (l : CarrierList). order_among l.strategy) c.self.view_is))
    (first-GoesBy s search)) c.args.need c.requires.some _ _ _ _ _ _
    c.self.invariant.listed (ap (λ (l : CarrierList). l.contents) c.self.view_is) c.requires.laid
    (number_found c.first.result) (candidate_of c.choice_in.result)
    c.first.ensures.found c.choice_in.ensures.chosen)

pub binned-requires-clause-bins : goal.binned-requires-clause-bins
binned-requires-clause-bins c =
    bins-has_bins c.args.self.now.strategy (ap (λ (l : CarrierList). search_of l.strategy)
    (sym c.self.view_is) ∙ sym c.search_of.ensures ∙ c.in-Bins.is)

pub returns-in-Lowest-clause-chosen : goal.returns-in-Lowest-clause-chosen
returns-in-Lowest-clause-chosen c =
    let now = c.args.self.now in
    let search : search_of now.strategy ≡ Lowest = ap (λ (l : CarrierList). search_of l.strategy)
    (sym c.self.view_is) ∙ sym c.search_of.ensures ∙ c.in-Lowest.is in
    c.lowest.ensures.chosen c.args.depth
    ∙ ap (λ t. choice_among t c.args.depth c.args.need now.contents)
    (sym (lowest-af now.strategy search))
