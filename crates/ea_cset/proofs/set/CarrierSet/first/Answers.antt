use Rattle.std.proofs.Common.{◌≡◌, ◌<◌, ◌↔◌, All, sym, subst, ap, ◌∙◌}
use Rattle.std.specs.Prelude.{IfSome, IsNone, Some}
use Rattle.ea_cset.specs.Carriers.{comes_first, first_number, number_found, carrier_of, Carriers}
use Rattle.ea_cset.specs.Carriers.{IsFirstOf}
use Rattle.ea_cset.specs.Ranks.{order_key}
use Rattle.ea_cset.proofs.First.{first-order, first_number-none, first_number-IsFirstOf}
use Rattle.ea_cset.proofs.First.{number_found-IsNone, number_found-IfSome}
use Rattle.ea_cset.proofs.Firsts.{first-held, first-ranked, order-compares}
use Rattle.ea_cset.proofs.set.CarrierSet.first.Goals as goal

pub found-requires : goal.found-requires
found-requires c =
    subst (λ (s : Carriers). IfSome c.first.result (λ h. carrier_of s.held h.key.number ≡ Some h))
    c.self.view_is
    (subst (λ f. IfSome f (λ h. carrier_of c.self.inside.held.items h.key.number ≡ Some h))
    (sym c.first.ensures)
    (first-held (order_key c.self.inside.order) c.self.inside.room c.args.need
    c.self.inside.held.items c.self.inside.ranking c.self.invariant.rising c.self.invariant.ranked))

-- the number is that of the first carrier that fits
found : (c : goal.After-found) → number_found c.found.result
    ≡ first_number (comes_first c.args.self.now.order) c.args.need c.args.self.now.held
found c =
    let order = c.self.inside.order in
    first-ranked (order_key order) c.self.inside.room c.args.need c.self.inside.held.items
    c.self.inside.ranking c.self.invariant.rising c.self.invariant.ranked (comes_first order)
    (first-order order) (order-compares order) c.self.invariant.small c.found.result
    (c.found.ensures.carrier ∙ c.first.ensures)
    ∙ ap (λ (s : Carriers). first_number (comes_first s.order) c.args.need s.held) c.self.view_is

pub returns-clause-found : goal.returns-clause-found
returns-clause-found c = found c

pub returns-clause-none : goal.returns-clause-none
returns-clause-none c =
    let now = c.args.self.now in
    number_found-IsNone (All (λ h. h.fit < c.args.need) now.held) c.found.result
    (subst (λ r. IsNone r ↔ All (λ h. h.fit < c.args.need) now.held) (sym (found c))
    (first_number-none (comes_first now.order) c.args.need now.held))

pub returns-clause-first : goal.returns-clause-first
returns-clause-first c =
    let now = c.args.self.now in
    number_found-IfSome (IsFirstOf (comes_first now.order) c.args.need now.held) c.found.result
    (subst (λ r. IfSome r (IsFirstOf (comes_first now.order) c.args.need now.held)) (sym (found c))
    (first_number-IsFirstOf (comes_first now.order) (first-order now.order) c.args.need now.held))
