use Rattle.std.proofs.Common.{◌≡◌, ◌<◌, ◌^◌, All, AllPairs, length, get_or, set, sym, ap, ◌∙◌}
use Rattle.std.proofs.Common.{subst, refl, arith}
use Rattle.std.specs.Prelude.{option_map}
use Rattle.std.proofs.lemmas.List.{length-map}
use Rattle.ea_model.specs.Keyed.{changed_at}
use Rattle.ea_model.proofs.Rising.{set-changed, item_at-changed}
use Rattle.ea_cset.specs.declared.keys.CarrierFit.{CarrierFit}
use Rattle.ea_cset.specs.Carriers.{Carriers, number_of, carrier_of, with_fit, refitted, IsBefore}
use Rattle.ea_cset.specs.Ranks.{order_key, rank_key, refit, IsRankedBy}
use Rattle.ea_cset.proofs.Orders.{key-there, ranked-changed}
use Rattle.ea_cset.proofs.Rising.{found-index, found-there, key-stays, rising, rising-refitted}
use Rattle.ea_cset.proofs.Rising.{seen-stands, small-refitted}
use Rattle.ea_cset.proofs.set.CarrierSet.update.Goals as goal

pub update-requires : goal.update-requires
update-requires c =
    let order = c.self.inside.order in
    let hs = c.self.inside.held.items in
    record {
      there = key-there (order_key order) c.self.inside.room hs c.self.inside.ranking
          c.self.invariant.ranked c.args.found.carrier.key.number c.args.found.carrier
          (found-there hs c.args.found c.self.invariant.rising
          (seen-stands _ c.args.self.now c.args.found c.self.view_is c.requires)) c.order_key.result
          c.order_key.ensures.key;
    }

updated : (c : goal.After-self-1)
    → set c.self.inside.held.items c.args.found.index
    (record { key = c.index_mut.result.now.key; fit = c.args.fit })
    ≡ refitted c.args.found.carrier.key.number c.args.fit c.self.inside.held.items
updated c =
    let hs = c.self.inside.held.items in
    let stands = seen-stands _ c.args.self.now c.args.found c.self.view_is c.requires in
    let index = found-index hs c.args.found c.self.invariant.rising stands in
    ap (λ (y : CarrierFit). set hs c.args.found.index
    (record { key = y.key; fit = c.args.fit })) c.index_mut.ensures.value
    ∙ ap (λ k. set hs k
    (record { key = (get_or hs k c.index_mut.result.now).key; fit = c.args.fit })) index
    ∙ set-changed number_of (λ (h : CarrierFit). record { key = h.key; fit = c.args.fit })
    c.args.found.carrier.key.number c.index_mut.result.now hs (rising hs c.self.invariant.rising)
    (subst (λ k. k < length hs) index stands.0)

pub invariant_of-self : goal.invariant_of-self
invariant_of-self c =
    let hs = c.self.inside.held.items in
    let n = c.args.found.carrier.key.number in
    let fit = c.args.fit in
    let stands = seen-stands _ c.args.self.now c.args.found c.self.view_is c.requires in
    let is = sym (updated c) in
    let long = length-map hs (with_fit n fit) in
    record {
      rising = subst (AllPairs IsBefore) is (rising-refitted n fit hs c.self.invariant.rising);
      small = subst (All (λ (h : CarrierFit). h.key.number < 2 ^ 32)) is
          (small-refitted n fit hs c.self.invariant.small);
      within = omega (arith, c.self.invariant.within, ap length is, long);
      reserved = c.self.invariant.reserved;
      ranked =
          let o = c.self.inside.ranking in
          let order = c.self.inside.order in
          let room = c.self.inside.room in
          subst (λ ys. IsRankedBy (order_key order) room ys c.update.new.self) is
          (ranked-changed (order_key order) room hs o c.self.invariant.ranked n c.args.found.carrier
          (found-there hs c.args.found c.self.invariant.rising stands) fit
          (key-stays order fit) c.update.new.self (c.update.ensures.updated
          ∙ ap (λ k. record o { ranks = changed_at rank_key (refit fit) k o.ranks })
          c.order_key.ensures.key));
    }

pub returns-clause-updated : goal.returns-clause-updated
returns-clause-updated c = rw (updated c, ← c.self.view_is) refl

pub returns-clause-carriers : goal.returns-clause-carriers
returns-clause-carriers c = λ n.
    let number = c.args.found.carrier.key.number in
    ap (λ hs. carrier_of hs n) (updated c)
    ∙ item_at-changed number_of (λ (h : CarrierFit). record { key = h.key; fit = c.args.fit })
    number (λ h. refl) n c.self.inside.held.items
    ∙ ap (λ (s : Carriers). option_map (with_fit number c.args.fit) (carrier_of s.held n))
    c.self.view_is
