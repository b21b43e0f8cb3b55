use Rattle.std.proofs.Common.{◌≡◌, ap, ◌∙◌, sym}
use Rattle.std.specs.Prelude.{get_or, option_map, Some}
use Rattle.ea_cset.specs.declared.keys.CarrierFit.{CarrierFit}
use Rattle.ea_cset.specs.Carriers.{carrier_found, carrier_of, Carriers}
use Rattle.ea_cset.proofs.Rising.{no_carrier}
use Rattle.ea_cset.proofs.set.CarrierSet.find.Goals as goal
use Rattle.ea_cset.proofs.set.CarrierSet.find.Goals.{After-find_in}

item : (c : After-find_in) (d : CarrierFit) → carrier_of c.args.self.now.held c.args.number
    ≡ option_map (λ i. get_or c.args.self.now.held i d) c.find_in.result
item c d =
    let seen = c.deref.ensures.value ∙ ap (λ (s : Carriers). s.held) c.self.view_is in
    ap (λ hs. carrier_of hs c.args.number) (sym seen) ∙ c.find_in.ensures.item d
    ∙ ap (λ hs. option_map (λ i. get_or hs i d) c.find_in.result) seen

pub returns-in_err-index-clause-carrier : goal.returns-in_err-index-clause-carrier
returns-in_err-index-clause-carrier c =
    ap carrier_found c.from_residual.ensures
    ∙ sym (item (goal.at.returns-in_err-index-clause-carrier c).After-find_in no_carrier ∙ ap
    (option_map _) c.in_err-index.was)

pub returns-clause-carrier : goal.returns-clause-carrier
returns-clause-carrier c =
    let x = c.at.result.carrier in
    let held = c.args.self.now.held in
    sym (item (goal.at.returns-clause-carrier c).After-find_in x ∙ ap (option_map (λ i. get_or held
    i x)) c.in_ok-index.was
    ∙ ap (λ i. Some (get_or held i x)) (sym c.at.ensures.index) ∙ ap Some c.at.ensures.stands.1)
