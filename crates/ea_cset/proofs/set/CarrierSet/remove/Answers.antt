use Rattle.std.proofs.Common.{◌≡◌, ◌+◌, ◌^◌, ◌<◌, All, length, sym, ap, ◌∙◌, subst, refl, arith}
use Rattle.std.specs.Prelude.{remove, AllPairs, None, ◌==◌, if◌then◌else◌}
use Rattle.std.proofs.lemmas.List.Edits.{length-remove}
use Rattle.std.proofs.lemmas.List.Elements.{All-filter}
use Rattle.std.proofs.lemmas.List.Kept.{AllPairs-filter}
use Rattle.ea_model.specs.Keyed.{without}
use Rattle.ea_model.proofs.Rising.{item_at-without, remove-without}
use Rattle.ea_cset.specs.declared.keys.CarrierFit.{CarrierFit}
use Rattle.ea_cset.specs.Carriers.{Carriers, number_of, carrier_of, IsBefore}
use Rattle.ea_cset.specs.Ranks.{order_key, rank_key, IsRankedBy}
use Rattle.ea_cset.proofs.Orders.{key-there, ranked-without}
use Rattle.ea_cset.proofs.Rising.{found-index, found-there, seen-stands, rising}
use Rattle.ea_cset.proofs.set.CarrierSet.remove.Goals as goal

pub leave-requires : goal.leave-requires
leave-requires c =
    let order = c.self.inside.order in
    let hs = c.self.inside.held.items in
    record {
      there = key-there (order_key order) c.self.inside.room hs c.self.inside.ranking
          c.self.invariant.ranked c.args.found.carrier.key.number c.args.found.carrier
          (found-there hs c.args.found c.self.invariant.rising
          (seen-stands _ c.args.self.now c.args.found c.self.view_is c.requires)) c.order_key.result
          c.order_key.ensures.key;
    }

rest : (c : goal.After-leave) → c.remove.new.self.items
    ≡ without number_of c.args.found.carrier.key.number c.self.inside.held.items
rest c =
    let hs = c.self.inside.held.items in
    let stands = seen-stands _ c.args.self.now c.args.found c.self.view_is c.requires in
    let index = found-index hs c.args.found c.self.invariant.rising stands in
    c.remove.ensures.items ∙ ap (remove hs) index
    ∙ remove-without number_of c.args.found.carrier.key.number hs (rising hs
    c.self.invariant.rising)
    (subst (λ k. k < length hs) index stands.0)

still_rising : (c : goal.After-leave) → AllPairs IsBefore c.remove.new.self.items
still_rising c = subst (AllPairs IsBefore) (sym (rest c))
    (AllPairs-filter IsBefore _ c.self.inside.held.items c.self.invariant.rising)

pub invariant_of-self : goal.invariant_of-self
invariant_of-self c =
    let hs = c.self.inside.held.items in
    let n = c.args.found.carrier.key.number in
    let stands = seen-stands _ c.args.self.now c.args.found c.self.view_is c.requires in
    let count = ap length c.remove.ensures.items in
    let one = length-remove hs c.args.found.index stands.0 in
    let less : length (without number_of n hs) + 1 ≡ length hs =
    omega (arith, count, one, ap length (rest c)) in
    record {
      rising = still_rising c;
      small =
          subst (All (λ (h : CarrierFit). h.key.number < 2 ^ 32)) (sym (rest c))
          (All-filter _ (λ (h : CarrierFit). h.key.number < 2 ^ 32) hs c.self.invariant.small);
      within = omega (arith, c.self.invariant.within, count, one);
      reserved = omega (arith, c.self.invariant.reserved, c.remove.ensures.capacity);
      ranked =
          let o = c.self.inside.ranking in
          let order = c.self.inside.order in
          let room = c.self.inside.room in
          subst (λ ys. IsRankedBy (order_key order) room ys c.leave.new.self) (sym (rest c))
          (ranked-without (order_key order) room hs o c.self.invariant.ranked n c.args.found.carrier
          (found-there hs c.args.found c.self.invariant.rising stands) c.leave.new.self
          (c.leave.ensures.rest
          ∙ ap (λ k. record o { ranks = without rank_key k o.ranks }) c.order_key.ensures.key)
          c.leave.ensures.count less);
    }

pub returns-clause-removed : goal.returns-clause-removed
returns-clause-removed c = rw (rest c, ← c.self.view_is) refl

pub returns-clause-rising : goal.returns-clause-rising
returns-clause-rising c = still_rising c

pub returns-clause-carriers : goal.returns-clause-carriers
returns-clause-carriers c = λ n.
    let number = c.args.found.carrier.key.number in
    ap (λ hs. carrier_of hs n) (rest c)
    ∙ item_at-without number_of n number c.self.inside.held.items
    ∙ ap (λ (s : Carriers). if n == number then None else carrier_of s.held n) c.self.view_is
