use Rattle.std.proofs.Common.{◌≡◌, get_or, map, sym, ap, ◌∙◌, subst}
use Rattle.std.specs.Prelude.{IfSome}
use Rattle.std.specs.Option.{option_and_then}
use Rattle.ea_model.specs.Strategies.{inner_of}
use Rattle.ea_cset.specs.Carriers.{number_found, StandsIn}
use Rattle.ea_employed.specs.Listed.{CarrierList, candidate_in, chosen_in, held_of}
use Rattle.ea_employed.proofs.Finding.{found-there}
use Rattle.ea_employed.proofs.carriers.Carriers.choice_in.Goals as goal

pub returns-clause-chosen : goal.returns-clause-chosen
returns-clause-chosen c =
    let now = c.args.self.now in
    let need = c.args.need in
    let item = c.index.result.now in
    let there = found-there now.contents c.in_ok-index.field-0 item c.requires.laid.rising
    (subst (λ o. IfSome o (StandsIn (map held_of now.contents))) c.in_ok-index.was
    c.requires.stands) (c.index.ensures
    ∙ ap (λ (l : CarrierList). get_or l.contents c.in_ok-index.field-0.index item) c.self.view_is)
    in
    let inner : c.inner_of.result ≡ inner_of now.strategy =
    c.inner_of.ensures ∙ ap (λ (l : CarrierList). inner_of l.strategy) c.self.view_is in
    c.choose.ensures.found ∙ ap (λ i. chosen_in i need item) inner
    ∙ sym (ap (λ o. option_and_then (candidate_in (inner_of now.strategy) need now.contents)
    (number_found o)) c.in_ok-index.was
    ∙ ap (option_and_then (chosen_in (inner_of now.strategy) need)) there)
