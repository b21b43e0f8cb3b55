use Rattle.std.proofs.Common.{◌≡◌, ◌≢◌, ◌^◌, ◌<◌, sym, ap, ◌∙◌, subst, All, arith}
use Rattle.std.specs.Prelude.{Some, AllPairs, length, ◌==◌, if◌then◌else◌}
use Rattle.ea_model.specs.Keyed.{entered}
use Rattle.ea_model.proofs.Rising.{item_at-entered, All-entered}
use Rattle.ea_cset.specs.declared.keys.CarrierFit.{CarrierFit}
use Rattle.ea_cset.specs.declared.keys.CarrierKey.{CarrierKey}
use Rattle.ea_cset.specs.Carriers.{Carriers, number_of, carrier_of, IsBefore}
use Rattle.ea_cset.specs.Ranks.{order_key, rank_key, IsRankedBy}
use Rattle.ea_cset.proofs.Orders.{key-free, ranked-entered}
use Rattle.ea_cset.proofs.Rising.{keys-differ, rising-entered}
use Rattle.ea_cset.proofs.set.CarrierSet.add.Goals as goal
use Rattle.ea_cset.proofs.set.CarrierSet.add.Goals.{After-order_key}

-- no carrier has the number, or the base
new_number : (s now : Carriers) (k : CarrierKey) → s ≡ now
    → All (λ h. h.key.number ≢ k.number) now.held → All (λ h. h.key.number ≢ k.number) s.held
new_number s now k is new =
    subst (λ (x : Carriers). All (λ h. h.key.number ≢ k.number) x.held) (sym is) new

new_base : (s now : Carriers) (k : CarrierKey) → s ≡ now
    → All (λ h. h.key.base ≢ k.base) now.held → All (λ h. h.key.base ≢ k.base) s.held
new_base s now k is new =
    subst (λ (x : Carriers). All (λ h. h.key.base ≢ k.base) x.held) (sym is) new

-- nor its key in the order
new_key : (c : After-order_key) → All (λ r. r.key
    ≢ order_key c.self.inside.order (record { key = c.args.key; fit = c.args.fit }))
    c.self.inside.ranking.ranks
new_key c =
    let x : CarrierFit = record { key = c.args.key; fit = c.args.fit } in
    let order = c.self.inside.order in
    let hs = c.self.inside.held.items in
    key-free (order_key order) c.self.inside.room hs c.self.inside.ranking c.self.invariant.ranked
    (order_key order x)
    (keys-differ order x hs c.self.invariant.small c.order_key.ensures.small
    (new_number _ c.args.self.now c.args.key c.self.view_is c.requires.number)
    (new_base _ c.args.self.now c.args.key c.self.view_is c.requires.base))

pub enter-requires-clause-new : goal.enter-requires-clause-new
enter-requires-clause-new c =
    subst (λ k. All (λ r. r.key ≢ k) c.self.inside.ranking.ranks) (sym c.order_key.ensures.key)
    (new_key (goal.at.enter-requires-clause-new c).After-order_key)

still_rising : (c : goal.After-enter_within) → AllPairs IsBefore c.enter_within.new.items.items
still_rising c =
    subst (AllPairs IsBefore) (sym c.enter_within.ensures.items)
    (rising-entered (record { key = c.args.key; fit = c.args.fit }) c.self.inside.held.items
    c.self.invariant.rising
    (new_number _ c.args.self.now c.args.key c.self.view_is c.requires.number)
    (new_base _ c.args.self.now c.args.key c.self.view_is c.requires.base))

pub invariant_of-self : goal.invariant_of-self
invariant_of-self c =
    let x : CarrierFit = record { key = c.args.key; fit = c.args.fit } in
    let hs = c.self.inside.held.items in
    let room = c.self.inside.room in
    record {
      rising = still_rising c;
      small =
          subst (All (λ (h : CarrierFit). h.key.number < 2 ^ 32)) (sym c.enter_within.ensures.items)
          (All-entered number_of (λ (h : CarrierFit). h.key.number < 2 ^ 32) x hs
          c.order_key.ensures.small c.self.invariant.small);
      within = omega (
        arith,
        c.enter_within.ensures.len,
        c.requires.room,
        c.self.invariant.within,
        ap (λ (s : Carriers). length s.held) c.self.view_is,
        ap (λ (s : Carriers). s.room) c.self.view_is,
      );
      reserved = omega (arith, c.self.invariant.reserved, c.enter_within.ensures.capacity);
      ranked =
          let o = c.self.inside.ranking in
          let order = c.self.inside.order in
          subst (λ ys. IsRankedBy (order_key order) room ys c.enter.new.self)
          (sym c.enter_within.ensures.items)
          (ranked-entered (order_key order) room hs o c.self.invariant.ranked x
          (new_number _ c.args.self.now c.args.key c.self.view_is c.requires.number)
          (new_key (goal.at.invariant_of-self c).After-order_key)
          c.enter.new.self (c.enter.ensures.entered
          ∙ ap (λ k. record o {
            ranks = entered rank_key (record { key = k; carrier = x }) o.ranks;
          })
          c.order_key.ensures.key));
    }

pub returns-clause-rising : goal.returns-clause-rising
returns-clause-rising c = still_rising c

pub returns-clause-carriers : goal.returns-clause-carriers
returns-clause-carriers c = λ n.
    ap (λ hs. carrier_of hs n) c.enter_within.ensures.items
    ∙ item_at-entered number_of n (record { key = c.args.key; fit = c.args.fit })
    c.self.inside.held.items
    (new_number _ c.args.self.now c.args.key c.self.view_is c.requires.number)
    ∙ ap (λ (s : Carriers). if n == c.args.key.number then Some
    (record { key = c.args.key; fit = c.args.fit }) else carrier_of s.held n) c.self.view_is
