use Rattle.std.proofs.Common.{rules, ◌≡◌, ◌≤◌, ◌<◌, ◌↔◌, All, ap, subst, ◌∙◌}
use Rattle.std.specs.Prelude.{IfSome, IsNone, IsSomeAnd, MatchOption, Option, None, Some}
use Rattle.std.specs.Prelude.{option_map}
use Rattle.ea_cset.specs.declared.keys.CarrierFit.{CarrierFit}
use Rattle.ea_cset.specs.declared.ranking.Rank.{Rank}
use Rattle.ea_cset.specs.Carriers.{carrier_found, Carriers}
use Rattle.ea_cset.specs.Ranks.{order_key, IsRankedBy}
use Rattle.ea_cset.specs.declared.keys.Order.TheVariants.{Address}
use Rattle.ea_cset.proofs.Lasts.{last-none, last-ranked}
use Rattle.ea_cset.proofs.set.CarrierSet.last_up_to.Goals as goal

mapped : (P : Rank → CarrierFit → Type 0) → ((x : Rank) (y : CarrierFit) → P x y → y ≡ x.carrier)
    → (r : Option Rank) (h : Option CarrierFit)
    → MatchOption r (h ≡ None) (λ x. IsSomeAnd h (P x))
    → h ≡ option_map (λ (x : Rank). x.carrier) r
mapped P is None h e = e
mapped P is (Some r) None e = absurd e
mapped P is (Some r) (Some h) e = ap Some (is r h e)

same : (c : goal.After-found) → carrier_found c.found.result
    ≡ option_map (λ (r : Rank). r.carrier) c.last_up_to-last.result
same c =
    c.found.ensures.carrier
    ∙ mapped _ (λ x y called. search rules) c.last_up_to-last.result c.map.result
    c.map.ensures.cases

ranked : (c : goal.After-found) → IsRankedBy (order_key Address) c.self.inside.room
    c.self.inside.held.items c.self.inside.ranking
ranked c = subst (λ o. IsRankedBy (order_key o) c.self.inside.room c.self.inside.held.items
    c.self.inside.ranking) (ap (λ (s : Carriers). s.order) c.self.view_is ∙ c.requires)
    c.self.invariant.ranked

pub returns-clause-last : goal.returns-clause-last
returns-clause-last c =
    subst (λ (s : Carriers). IfSome c.found.result (λ f. (f.carrier.key.base ≤ c.args.base)
    × All (λ h. h.key.base ≤ c.args.base → h.key.base ≤ f.carrier.key.base) s.held))
    c.self.view_is
    (last-ranked (order_key Address) c.self.inside.room c.args.base c.self.inside.held.items
    c.self.inside.ranking c.self.invariant.rising (ranked c) c.found.result
    c.last_up_to-last.result (same c) c.last_up_to-last.ensures.last)

pub returns-clause-none : goal.returns-clause-none
returns-clause-none c =
    subst (λ (s : Carriers). IsNone c.found.result ↔ All (λ h. c.args.base < h.key.base) s.held)
    c.self.view_is
    (last-none (order_key Address) c.self.inside.room c.args.base c.self.inside.held.items
    c.self.inside.ranking c.self.invariant.rising (ranked c) c.found.result
    c.last_up_to-last.result (same c) c.last_up_to-last.ensures.none)
