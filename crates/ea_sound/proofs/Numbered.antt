-- Contents of one number: their weight at all schedulers is that of the word of their carrier, or
-- where carriers don't migrate that of the own carriers of its owner.
use Rattle.std.proofs.Common.{◌≡◌, ◌≢◌, ℕ, ◌+◌, ◌<◌, ◌≤◌, Bool, true, false, refl, sym, ap, ◌∙◌}
use Rattle.std.proofs.Common.{subst, inl, inr, arith}
use Rattle.std.proofs.lemmas.Bool.{cases_lt}
use Rattle.std.proofs.lemmas.List.Elements.{All-weaker}
use Rattle.ea_model.specs.declared.units.TheConstants.{NUMBERS}
use Rattle.ea_model.specs.declared.carriers.OwnCarrier.{OwnCarrier}
use Rattle.ea_model.specs.Instance.{Instance, first_number, owner_of}
use Rattle.ea_laws.specs.Kept.{HasNumberIn}
use Rattle.ea_sound.specs.Contents.{seats, slots}
use Rattle.ea_machine.specs.Owners.{CarrierAt, Absent, Employed, Pooled, Busy, Returning}
use Rattle.ea_machine.specs.Setup.{Setup, is_scheduler, migration}
use Rattle.ea_machine.specs.State.{State}
use Rattle.ea_machine.specs.Sums.{sum_over, total_at}
use Rattle.ea_sound.specs.Rule.{Kept, Standing, employed_at, numbers_of, own_numbers, placed_by}
use Rattle.ea_sound.proofs.Plans.{numbered-owner}
use Rattle.ea_sound.proofs.Totals.{total_at-none, total_at-only, total_at-part}
use Rattle.ea_sound.proofs.Weights.{sum-zero}

-- a total where only one number weighs something
pub total_at-exact : {A : Type 0} (f : ℕ → A → ℕ) (m : ℕ → A) (c n : ℕ)
    → ((i : ℕ) → i ≢ c → f i (m i) ≡ 0) → (n ≤ c → f c (m c) ≡ 0) → total_at n f m ≡ f c (m c)
total_at-exact f m c n only beyond =
    elim (cases_lt c n) [
      | inl l ↦ omega
          (arith, total_at-only f m c n (λ i _ other. only i other), total_at-part f m c n l)
      | inr past ↦ total_at-none f m n (λ i l. only i (λ s. omega (arith, l, s, past)))
          ∙ sym (beyond past)
    ]

pub scheduler-seat : (e : Setup) (i : ℕ) → is_scheduler e i ≡ true → i < seats e
scheduler-seat e i is = grind (arith, is)

pub no_scheduler-beyond : (e : Setup) (i : ℕ) → seats e ≤ i → is_scheduler e i ≡ false
no_scheduler-beyond e i past = grind (arith, past)

-- only carrier c weighs something
abbrev pub OnlyOf : ℕ → (ℕ → ℕ → ℕ) → Type 0
OnlyOf c f = (i d : ℕ) → d ≢ c → f i d ≡ 0

module _ (b h : ℕ → ℕ → ℕ) (c : ℕ) (only_b : OnlyOf c b) (only_h : OnlyOf c h) where
  place-other : (d : ℕ) (p : CarrierAt) → d ≢ c → employed_at b h d p ≡ 0
  place-other d Absent other = refl
  place-other d (Employed i) other = only_h i d other
  place-other d (Pooled i g x) other = refl
  place-other d (Busy i) other = only_b i d other
  place-other d (Returning i x) other = refl

module _ (e : Setup) (w : State) (k : Kept e w) where
  placed-on : migration e ≡ true → (b h : ℕ → ℕ → ℕ)
      → total_at (seats e) (numbers_of b h) w.actors
      ≡ total_at (slots e) (employed_at b h) w.shared.places
  placed-on on b h = subst
      (λ m. total_at (seats e) (numbers_of b h) w.actors ≡ placed_by e b h w m) on
      (k.placed.contents b h)

  placed-off : migration e ≡ false → (b h : ℕ → ℕ → ℕ)
      → total_at (seats e) (numbers_of b h) w.actors
      ≡ total_at (seats e) (own_numbers h) w.actors
  placed-off off b h = subst
      (λ m. total_at (seats e) (numbers_of b h) w.actors ≡ placed_by e b h w m) off
      (k.placed.contents b h)

  -- a number is its owner's alone
  pub own-other : (h : ℕ → ℕ → ℕ) (c i : ℕ) → OnlyOf c h → i ≢ owner_of c
      → own_numbers h i (w.actors i) ≡ 0
  own-other h c i only other = by (is_scheduler e i) refl where
    by : (s : Bool) → is_scheduler e i ≡ s → own_numbers h i (w.actors i) ≡ 0
    by false none =
        ap (sum_over (λ (o : OwnCarrier). h i o.number)) (k.ranges.nobody i none).own
    by true is =
        let j : Instance = (w.actors i).instance in
        let stands : Standing e i j = k.ranges.instances i is in
        let kept = stands.order.kept in
        let low = first_number j.number in
        sum-zero (λ (o : OwnCarrier). h i o.number) j.own
        (All-weaker (HasNumberIn low (low + NUMBERS)) (λ (o : OwnCarrier). h i o.number ≡ 0)
        (λ o within. only i o.number (λ s. other (sym stands.number
        ∙ sym (numbered-owner j.number o.number kept.instance.0 within.0 within.1)
        ∙ ap owner_of s))) j.own kept.numbers)

  module _ (b h : ℕ → ℕ → ℕ) (c : ℕ) (only_b : OnlyOf c b) (only_h : OnlyOf c h) where
    -- where carriers migrate the word of the carrier tells
    pub numbered-on : migration e ≡ true
        → total_at (seats e) (numbers_of b h) w.actors ≡ employed_at b h c (w.shared.places c)
    numbered-on on = placed-on on b h
        ∙ total_at-exact (employed_at b h) w.shared.places c (slots e)
        (λ d other. place-other b h c only_b only_h d (w.shared.places d) other)
        (λ past. ap (employed_at b h c) (k.placed.beyond c past))

    -- where they don't, its owner
    pub numbered-off : migration e ≡ false
        → total_at (seats e) (numbers_of b h) w.actors
        ≡ own_numbers h (owner_of c) (w.actors (owner_of c))
    numbered-off off = placed-off off b h
        ∙ total_at-exact (own_numbers h) w.actors (owner_of c) (seats e)
        (λ i other. own-other h c i only_h other)
        (λ past. ap (sum_over (λ (o : OwnCarrier). h (owner_of c) o.number))
        (k.ranges.nobody (owner_of c) (no_scheduler-beyond e (owner_of c) past)).own)
