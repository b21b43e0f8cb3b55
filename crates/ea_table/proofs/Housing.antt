-- After a step of a scheduler, and after a look by which it claims a slot or gives it back, the
-- slots have the contents that are at home. Two schedulers never claim the same slot, since only
-- one has the carrier.
use Rattle.std.proofs.Common.{◌≡◌, ◌≢◌, ℕ, ◌*◌, ◌<◌, ◌≤◌, List, None, Some, length, set}
use Rattle.std.proofs.Common.{refl, sym, ap, ◌∙◌, subst, inl, inr, arith}
use Rattle.std.proofs.lemmas.Bool.{cases_eq}
use Rattle.std.proofs.lemmas.List.{length-set}
use mathlib.Core.Option.{none, some}
use mathlib.Core.Option as maybe
use lib.ListN.{get_elem?}
use Rattle.atomic_table.proofs.Lists.{set_else, set_here}
use Rattle.ea_model.specs.declared.units.TheConstants.{NUMBERS}
use Rattle.ea_model.specs.Content.{Content}
use Rattle.ea_model.specs.Instance.{owner_of}
use Rattle.ea_machine.specs.Owners.{CarrierAt, Absent, Employed, Pooled, Busy, Returning}
use Rattle.ea_machine.specs.Shared.{Shared, at_place, put}
use Rattle.ea_shared.specs.Carriers.{home_of}
use Rattle.ea_sound.proofs.Totals.{put-here, put-other}
use Rattle.ea_table.specs.Slots.{Has, Houses, IsEmpty, IsHome, IsSlot, Slot, slot_at}
use Rattle.ea_table.proofs.Coding.{put-again}

-- one scheduler alone has a carrier
has-one : (i j k : ℕ) (p : CarrierAt) → Has i k p → Has j k p → i ≡ j
has-one i j k Absent mine other = sym mine ∙ other
has-one i j k (Employed e) mine other = sym mine ∙ other
has-one i j k (Pooled e largest x) mine other = absurd mine
has-one i j k (Busy e) mine other = sym mine ∙ other
has-one i j k (Returning e x) mine other = absurd mine

-- and nobody has one whose content is at home
has-none : (i k : ℕ) (x : Content) (p : CarrierAt) → home_of p ≡ Some x → Has i k p → ⊥
has-none i k x Absent home mine = absurd cc
has-none i k x (Employed e) home mine = absurd cc
has-none i k x (Pooled e largest y) home mine = mine
has-none i k x (Busy e) home mine = absurd cc
has-none i k x (Returning e y) home mine = mine

module _ (hs : List (maybe.Option Slot)) (claim_of : ℕ → ℕ) where
  -- the slot of a carrier that the scheduler has
  slot-had : (i k : ℕ) (p : CarrierAt) → Has i k p → IsSlot hs claim_of k p
      → IsEmpty hs claim_of i k
  slot-had i k Absent mine slot = subst (λ j. IsEmpty hs claim_of j k) mine slot
  slot-had i k (Employed e) mine slot = subst (λ j. IsEmpty hs claim_of j k) mine slot
  slot-had i k (Pooled e largest x) mine slot = absurd mine
  slot-had i k (Busy e) mine slot = subst (λ j. IsEmpty hs claim_of j k) mine slot
  slot-had i k (Returning e x) mine slot = absurd mine

  had-slot : (i k : ℕ) (p : CarrierAt) → Has i k p → IsEmpty hs claim_of i k
      → IsSlot hs claim_of k p
  had-slot i k Absent mine slot = subst (λ j. IsEmpty hs claim_of j k) (sym mine) slot
  had-slot i k (Employed e) mine slot = subst (λ j. IsEmpty hs claim_of j k) (sym mine) slot
  had-slot i k (Pooled e largest x) mine slot = absurd mine
  had-slot i k (Busy e) mine slot = subst (λ j. IsEmpty hs claim_of j k) (sym mine) slot
  had-slot i k (Returning e x) mine slot = absurd mine

  -- and of one whose content is at home
  slot-home : (k : ℕ) (x : Content) (p : CarrierAt) → home_of p ≡ Some x
      → IsSlot hs claim_of k p → IsHome hs k (Some x)
  slot-home k x Absent home slot = absurd cc
  slot-home k x (Employed e) home slot = absurd cc
  slot-home k x (Pooled e largest y) home slot = slot ∙ ap (λ (o : Slot). some (some o)) home
  slot-home k x (Busy e) home slot = absurd cc
  slot-home k x (Returning e y) home slot = slot ∙ ap (λ (o : Slot). some (some o)) home

  home-slot : (k : ℕ) (x : Content) (p : CarrierAt) → home_of p ≡ Some x → IsHome hs k (Some x)
      → IsSlot hs claim_of k p
  home-slot k x Absent home slot = absurd cc
  home-slot k x (Employed e) home slot = absurd cc
  home-slot k x (Pooled e largest y) home slot =
      slot ∙ sym (ap (λ (o : Slot). some (some o)) home)
  home-slot k x (Busy e) home slot = absurd cc
  home-slot k x (Returning e y) home slot = slot ∙ sym (ap (λ (o : Slot). some (some o)) home)

  -- a slot stays with what is in it, and with who has claimed it
  module _ (now : List (maybe.Option Slot)) (claims : ℕ → ℕ) (k : ℕ)
      (same : get_elem? now (slot_at k) ≡ get_elem? hs (slot_at k))
      (kept : (i : ℕ) → claim_of i ≡ k → claims i ≡ k) where
    empty-stays : (i : ℕ) → IsEmpty hs claim_of i k → IsEmpty now claims i k
    empty-stays i (inl home) = inl (same ∙ home)
    empty-stays i (inr claimed) = inr (kept i claimed)

    slot-stays : (p : CarrierAt) → IsSlot hs claim_of k p → IsSlot now claims k p
    slot-stays Absent slot = empty-stays (owner_of k) slot
    slot-stays (Employed e) slot = empty-stays e slot
    slot-stays (Pooled e largest x) slot = same ∙ slot
    slot-stays (Busy e) slot = empty-stays e slot
    slot-stays (Returning e x) slot = same ∙ slot

module _ (hs : List (maybe.Option Slot)) (n : ℕ) (claim_of : ℕ → ℕ) (s : Shared)
    (h : Houses hs n claim_of s) (me : ℕ) where
  -- where one carrier changes, its slot, or what one scheduler has claimed
  module _ (k claim : ℕ) (now : List (maybe.Option Slot)) (u : Shared) where
    abbrev Claimed : ℕ → ℕ → Type 0
    Claimed i c = (c ≤ NUMBERS * n) × Has i c (u.places c)

    changed : length now ≡ length hs
        → ((j : ℕ) → 1 ≤ j → j ≢ k → get_elem? now (slot_at j) ≡ get_elem? hs (slot_at j))
        → ((j : ℕ) → j ≢ k → u.places j ≡ s.places j)
        → ((j : ℕ) → 1 ≤ j → j ≢ k → claim_of me ≡ j → claim ≡ j)
        → IsSlot now (put claim_of me claim) k (u.places k)
        → (claim ≢ 0 → (claim ≤ NUMBERS * n) × Has me claim (u.places claim))
        → ((i : ℕ) → i ≢ me → claim_of i ≡ k → Has i k (u.places k))
        → Houses now n (put claim_of me claim) u
    changed long same stay kept here mine others = record {
      count = long ∙ h.count;
      each = λ number low high. elim (cases_eq number k) [
        | inl q ↦ subst (λ j. IsSlot now (put claim_of me claim) j (u.places j)) (sym q) here
        | inr other ↦ subst (IsSlot now (put claim_of me claim) number) (sym (stay number other))
            (slot-stays hs claim_of now (put claim_of me claim) number (same number low other)
            (keeps_claim number low other) (s.places number) (h.each number low high))
      ];
      claims = λ i some_claim. elim (cases_eq i me) [
        | inl q ↦ subst (Claimed i) (sym (put-here claim_of me claim i q))
            (subst (λ j. Claimed j claim) (sym q)
            (mine (λ z. some_claim (put-here claim_of me claim i q ∙ z))))
        | inr other ↦ subst (Claimed i) (sym (put-other claim_of me claim i other))
            (claimed_by i other (λ z. some_claim (put-other claim_of me claim i other ∙ z)))
      ];
    } where
      keeps_claim : (number : ℕ) → 1 ≤ number → number ≢ k → (i : ℕ) → claim_of i ≡ number
          → put claim_of me claim i ≡ number
      keeps_claim number low other i is = elim (cases_eq i me) [
        | inl q ↦ put-here claim_of me claim i q
            ∙ kept number low other (ap claim_of (sym q) ∙ is)
        | inr ne ↦ put-other claim_of me claim i ne ∙ is
      ]

      claimed_by : (i : ℕ) → i ≢ me → claim_of i ≢ 0 → Claimed i (claim_of i)
      claimed_by i other is = (
        (h.claims i is).0,
        elim (cases_eq (claim_of i) k) [
          | inl q ↦ subst (λ c. Has i c (u.places c)) (sym q) (others i other q)
          | inr ne ↦ subst (Has i (claim_of i)) (sym (stay (claim_of i) ne)) (h.claims i is).1
        ],
      )

  abbrev ClaimedAt : (ℕ → ℕ) → (ℕ → CarrierAt) → ℕ → Type 0
  ClaimedAt f places i = (f i ≤ NUMBERS * n) × Has i (f i) (places (f i))

  -- a row that leaves all carriers where they are
  pub housed-same : (u : Shared) → u.places ≡ s.places
      → Houses hs n (put claim_of me (claim_of me)) u
  housed-same u same = record {
    count = h.count;
    each = λ number low high.
        subst (λ (f : ℕ → CarrierAt). IsSlot hs (put claim_of me (claim_of me)) number (f number))
        (sym same) (subst (λ f. IsSlot hs f number (s.places number)) (sym again)
        (h.each number low high));
    claims = λ i some_claim.
        subst (λ (f : ℕ → CarrierAt). ClaimedAt (put claim_of me (claim_of me)) f i)
        (sym same) (subst (λ f. ClaimedAt f s.places i) (sym again)
        (h.claims i (λ z. some_claim (ap (λ (f : ℕ → ℕ). f i) again ∙ z))));
  } where
    again : put claim_of me (claim_of me) ≡ claim_of
    again = put-again claim_of me (claim_of me) refl

  -- who has claimed the slot of a carrier has the carrier
  claimed-has : (i k : ℕ) → 1 ≤ k → claim_of i ≡ k → Has i k (s.places k)
  claimed-has i k low is = subst (λ c. Has i c (s.places c)) is
      (h.claims i (λ z. omega (arith, is, z, low))).1

  slot-within : (k : ℕ) → 1 ≤ k → k ≤ NUMBERS * n → slot_at k < length hs
  slot-within k low high = omega (arith, h.count, low, high)

  -- another slot than the one that changes is as it was
  elsewhere : (k : ℕ) (o : maybe.Option Slot) → 1 ≤ k → (j : ℕ) → 1 ≤ j → j ≢ k
      → get_elem? (set hs (slot_at k) o) (slot_at j) ≡ get_elem? hs (slot_at j)
  elsewhere k o low j from other = set_else hs (slot_at k) (slot_at j) o
      (λ e. other (omega (arith, e, from, low)))

  -- the row moves the carrier between states in which the scheduler has it
  pub housed-moved : (k : ℕ) → 1 ≤ k → k ≤ NUMBERS * n → (p : CarrierAt)
      → Has me k (s.places k) → Has me k p
      → Houses hs n (put claim_of me (claim_of me)) (at_place k p s)
  housed-moved k low high p had has = changed k (claim_of me) hs (at_place k p s) refl
      (λ j from other. refl)
      (λ j other. put-other s.places k p j other)
      (λ j from other is. is)
      (subst (IsSlot hs (put claim_of me (claim_of me)) k) (sym here)
      (had-slot hs (put claim_of me (claim_of me)) me k p has
      (subst (λ f. IsEmpty hs f me k) (sym (put-again claim_of me (claim_of me) refl))
      (slot-had hs claim_of me k (s.places k) had (h.each k low high)))))
      (λ some_claim. (
        (h.claims me some_claim).0,
        elim (cases_eq (claim_of me) k) [
          | inl q ↦ subst (λ c. Has me c (put s.places k p c)) (sym q)
              (subst (Has me k) (sym here) has)
          | inr other ↦ subst (Has me (claim_of me))
              (sym (put-other s.places k p (claim_of me) other)) (h.claims me some_claim).1
        ],
      ))
      (λ i other is. absurd (other (has-one i me k (s.places k) (claimed-has i k low is) had)))
    where
      here : put s.places k p k ≡ p
      here = put-here s.places k p k refl

  -- the content comes out of its slot, with the word
  pub housed-won : (k : ℕ) → 1 ≤ k → k ≤ NUMBERS * n → (x : Content)
      → home_of (s.places k) ≡ Some x → (p : CarrierAt) → Has me k p → claim_of me ≡ 0
      → (get_elem? hs (slot_at k) ≡ some (some (Some x)))
      × Houses (set hs (slot_at k) none) n (put claim_of me k) (at_place k p s)
  housed-won k low high x home p has free = (
    slot-home hs claim_of k x (s.places k) home (h.each k low high),
    changed k k (set hs (slot_at k) none) (at_place k p s)
        (length-set hs (slot_at k) none)
        (elsewhere k none low)
        (λ j other. put-other s.places k p j other)
        (λ j from other is. absurd (omega (arith, free, is, from)))
        (subst (IsSlot (set hs (slot_at k) none) (put claim_of me k) k) (sym here)
        (had-slot (set hs (slot_at k) none) (put claim_of me k) me k p has
        (inr (put-here claim_of me k me refl))))
        (λ some_claim. (high, subst (Has me k) (sym here) has))
        (λ i other is. absurd (has-none i k x (s.places k) home (claimed-has i k low is))),
  ) where
    here : put s.places k p k ≡ p
    here = put-here s.places k p k refl

  -- the content goes into the slot that was claimed, with the word
  pub housed-brought : (k : ℕ) → 1 ≤ k → k ≤ NUMBERS * n → (x : Content) (p : CarrierAt)
      → home_of p ≡ Some x → claim_of me ≡ k
      → Houses (set hs (slot_at k) (some (Some x))) n (put claim_of me 0) (at_place k p s)
  housed-brought k low high x p home mine = changed k 0 (set hs (slot_at k) (some (Some x)))
      (at_place k p s)
      (length-set hs (slot_at k) (some (Some x)))
      (elsewhere k (some (Some x)) low)
      (λ j other. put-other s.places k p j other)
      (λ j from other is. absurd (other (sym is ∙ mine)))
      (subst (IsSlot (set hs (slot_at k) (some (Some x))) (put claim_of me 0) k)
      (sym (put-here s.places k p k refl))
      (home-slot (set hs (slot_at k) (some (Some x))) (put claim_of me 0) k x p home
      (set_here hs (slot_at k) (some (Some x)) (slot-within k low high))))
      (λ some_claim. absurd (some_claim refl))
      (λ i other is. absurd (other (has-one i me k (s.places k) (claimed-has i k low is)
      (claimed-has me k low mine))))

  -- an empty slot is claimed
  pub housed-claimed : (k : ℕ) → 1 ≤ k → k ≤ NUMBERS * n → Has me k (s.places k)
      → claim_of me ≡ 0
      → (get_elem? hs (slot_at k) ≡ some (some None))
      × Houses (set hs (slot_at k) none) n (put claim_of me k) s
  housed-claimed k low high had free = (
    is_home (slot-had hs claim_of me k (s.places k) had (h.each k low high)),
    changed k k (set hs (slot_at k) none) s
        (length-set hs (slot_at k) none)
        (elsewhere k none low)
        (λ j other. refl)
        (λ j from other is. absurd (omega (arith, free, is, from)))
        (had-slot (set hs (slot_at k) none) (put claim_of me k) me k (s.places k) had
        (inr (put-here claim_of me k me refl)))
        (λ some_claim. (high, had))
        (λ i other is. claimed-has i k low is),
  ) where
    is_home : IsEmpty hs claim_of me k → IsHome hs k None
    is_home (inl home) = home
    is_home (inr claimed) = absurd (omega (arith, claimed, free, low))

  -- and given back, still empty
  pub housed-yielded : (k : ℕ) → 1 ≤ k → claim_of me ≡ k
      → Houses (set hs (slot_at k) (some None)) n (put claim_of me 0) s
  housed-yielded k low mine =
      let high : k ≤ NUMBERS * n = omega (arith, mine, (h.claims me is_some).0) in
      changed k 0 (set hs (slot_at k) (some None)) s
      (length-set hs (slot_at k) (some None))
      (elsewhere k (some None) low)
      (λ j other. refl)
      (λ j from other is. absurd (other (sym is ∙ mine)))
      (had-slot (set hs (slot_at k) (some None)) (put claim_of me 0) me k (s.places k)
      (claimed-has me k low mine)
      (inl (set_here hs (slot_at k) (some None) (slot-within k low high))))
      (λ some_claim. absurd (some_claim refl))
      (λ i other is. claimed-has i k low is)
    where
      is_some : claim_of me ≢ 0
      is_some z = omega (arith, mine, z, low)
