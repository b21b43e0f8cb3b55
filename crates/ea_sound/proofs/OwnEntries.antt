-- Each content, wherever it is, has its entry among the own carriers of its owner; a number that is
-- not in use there has no content.
use Rattle.std.proofs.Common.{◌≡◌, ◌≢◌, ℕ, ◌*◌, ◌≤◌, true, refl, sym, ap, ◌∙◌, inl, inr, arith}
use Rattle.std.specs.Prelude.{Option, Some, None, ◌==◌, ◌&&◌}
use Rattle.std.proofs.lemmas.Bool.{cases_Bool}
use Rattle.ea_model.specs.declared.carriers.OwnCarrier.{OwnCarrier}
use Rattle.ea_model.specs.Content.{Content}
use Rattle.ea_model.specs.Instance.{content_of, employed, own_at, own_of, owner_of}
use Rattle.ea_laws.specs.Kept.{own_number}
use Rattle.ea_sound.specs.Contents.{hand_sum, home_sum, seats, slots, sum_everywhere}
use Rattle.ea_sound.specs.NodePlaces.{anywhere}
use Rattle.ea_machine.specs.Owners.{CarrierAt, Absent, Employed, Pooled, Busy, Returning}
use Rattle.ea_sound.specs.Places.{has_number, is_there}
use Rattle.ea_machine.specs.Setup.{Setup, is_scheduler, migration}
use Rattle.ea_machine.specs.State.{State}
use Rattle.ea_machine.specs.Sums.{one_if, sum_over}
use Rattle.ea_sound.specs.Here.{Here}
use Rattle.ea_sound.specs.Rule.{Kept, of_own, of_owner, own_numbers}
use Rattle.ea_sound.proofs.Employers.{at_least_one, employed-here, found-counts, found-one}
use Rattle.ea_sound.proofs.Employers.{found-weighs, there-slot}
use Rattle.ea_sound.proofs.Global.{anywhere-only, sum-actor}
use Rattle.ea_sound.proofs.Homes.{sum-there}
use Rattle.ea_sound.proofs.KeyedWeights.{counts-other, sum-missing}
use Rattle.ea_sound.proofs.Numbered.{own-other}
use Rattle.ea_sound.proofs.OwnCarriers.{own-hit, this_own}
use Rattle.ea_sound.proofs.Totals.{total-part, total_at-only}
use Rattle.ea_sound.proofs.Weights.{sum-none, sum-zero}

-- 1 for this content at its owner, or for its entry there
abbrev pub this : Content → ℕ → ℕ → ℕ → ℕ → ℕ
this x i n b u =
    one_if ((i == x.owner) && ((n == x.number) && ((b == x.base) && (u == x.units))))

pub this-itself : (x : Content) → of_owner (this x) x ≡ 1
this-itself x = grind arith

this-other : (x : Content) (i n b u : ℕ) → i ≢ x.owner → this x i n b u ≡ 0
this-other x i n b u other = grind (arith, other)

this-own : (x : Content) (i : ℕ) (o : OwnCarrier) → this_own (own_of x) o ≡ 0
    → this x i o.number o.base (512 * o.pages) ≡ 0
this-own x i o z = grind (arith, z)

-- the content is somewhere
abbrev pub IsSomewhere : Setup → State → Content → Type 0
IsSomewhere e w x = 1 ≤ sum_everywhere e (of_owner (this x)) w

not_there : (p : CarrierAt) → one_if (is_there p) ≡ 0 → p ≡ Absent
not_there Absent z = refl
not_there (Employed i) z = absurd (omega (arith, z))
not_there (Pooled i g x) z = absurd (omega (arith, z))
not_there (Busy i) z = absurd (omega (arith, z))
not_there (Returning i x) z = absurd (omega (arith, z))

module _ (e : Setup) (w : State) (k : Kept e w) where
  -- who owns a carrier is a scheduler
  owns-scheduler : (f : OwnCarrier → ℕ) (i : ℕ)
      → 1 ≤ sum_over f (w.actors i).instance.own → is_scheduler e i ≡ true
  owns-scheduler f i some = elim (cases_Bool (is_scheduler e i)) [
    | inl is ↦ is
    | inr none ↦ absurd (omega (arith, some, ap (sum_over f) (k.ranges.nobody i none).own))
  ]

  module _ (x : Content) (there : IsSomewhere e w x) where
    counted : 1 ≤ of_own (this x) x.owner (w.actors x.owner)
    counted = omega (
      arith,
      there,
      k.placed.own (this x),
      total_at-only (of_own (this x)) w.actors x.owner (seats e)
          (λ i seat other. sum-zero (λ (o : OwnCarrier). this x i o.number o.base (512 * o.pages))
          (w.actors i).instance.own (λ j d within. this-other x i _ _ _ other)),
    )

    pub owner-scheduler : is_scheduler e x.owner ≡ true
    owner-scheduler = owns-scheduler
        (λ (o : OwnCarrier). this x x.owner o.number o.base (512 * o.pages)) x.owner counted

    pub owner-has : own_at (w.actors x.owner).instance.own x.number ≡ Some (own_of x)
    owner-has = own-hit (own_of x) (w.actors x.owner).instance.own
        (k.ranges.instances x.owner owner-scheduler).order.kept.rising
        (at_least_one (sum_over (this_own (own_of x)) (w.actors x.owner).instance.own) (λ z. omega (
          arith,
          counted,
          sum-none (this_own (own_of x))
              (λ (o : OwnCarrier). this x x.owner o.number o.base (512 * o.pages))
              (w.actors x.owner).instance.own (λ o. this-own x x.owner o) z,
        )))

  -- a content with a scheduler
  pub somewhere-found : (n : ℕ) (x : Content) (i : ℕ)
      → content_of (employed (w.actors i).instance) n ≡ Some x → IsSomewhere e w x
  somewhere-found n x i there = omega (
    arith,
    this-itself x,
    found-weighs (of_owner (this x)) n x (w.actors i).instance there,
    sum-actor e w k (of_owner (this x)) i,
  )

  pub somewhere-hand : (x : Content) (i : ℕ) → hand_sum (of_owner (this x)) (of_owner (this x))
      (w.actors i).stage ≡ of_owner (this x) x → IsSomewhere e w x
  somewhere-hand x i is =
      omega (arith, is, this-itself x, sum-actor e w k (of_owner (this x)) i)

  -- a content at home
  pub somewhere-home : (x : Content) (c : ℕ) → w.shared.places c ≢ Absent
      → home_sum (of_owner (this x)) (w.shared.places c) ≡ of_owner (this x) x → IsSomewhere e w x
  somewhere-home x c there is = omega (
    arith,
    is,
    this-itself x,
    total-part (home_sum (of_owner (this x))) w.shared.places c (slots e)
        (there-slot e w k c there),
  )

  pub somewhere-returning : (c i : ℕ) (x : Content) → w.shared.places c ≡ Returning i x
      → IsSomewhere e w x
  somewhere-returning c i x q =
      somewhere-home x c (λ z. let never : Returning i x ≡ Absent = sym q ∙ z in cc)
      (ap (home_sum (of_owner (this x))) q)

  -- where a scheduler doesn't employ a carrier, its instance has no content of it
  pub not_here-none : (c i : ℕ) → (Here e w.shared i c → ⊥)
      → content_of (employed (w.actors i).instance) c ≡ None
  not_here-none c i never = by (content_of (employed (w.actors i).instance) c) refl where
    by : (o : Option Content) → content_of (employed (w.actors i).instance) c ≡ o → o ≡ None
    by None q = refl
    by (Some x) q =
        absurd (never (employed-here e w k i c (found-counts c x (w.actors i) q)))

  -- contents of a number are as many as its owner's own carriers of it
  sum-owned : (c : ℕ) → sum_everywhere e (has_number c) w
      ≤ own_numbers (anywhere c) (owner_of c) (w.actors (owner_of c))
  sum-owned c = omega (
    arith,
    k.placed.own (λ i n b u. one_if (n == c)),
    total_at-only (own_numbers (anywhere c)) w.actors (owner_of c) (seats e)
        (λ i seat other. own-other e w k (anywhere c) c i (anywhere-only c) other),
  )

  pub numbered-scheduler : (c : ℕ) → 1 ≤ sum_everywhere e (has_number c) w
      → is_scheduler e (owner_of c) ≡ true
  numbered-scheduler c some = owns-scheduler (λ (o : OwnCarrier). one_if (o.number == c))
      (owner_of c) (omega (arith, some, sum-owned c))

  -- a number that its owner doesn't use has no content
  module _ (c : ℕ) (unused : own_at (w.actors (owner_of c)).instance.own c ≡ None) where
    unused-nowhere : sum_everywhere e (has_number c) w ≡ 0
    unused-nowhere = omega (
      arith,
      sum-owned c,
      sum-missing own_number (λ (o : OwnCarrier). one_if (o.number == c)) c
          (w.actors (owner_of c)).instance.own (λ o other. counts-other own_number c o other)
          unused,
    )

    -- its place is empty
    pub unused-absent : w.shared.places c ≡ Absent
    unused-absent = elim (cases_Bool (migration e)) [
      | inl on ↦ not_there (w.shared.places c)
          (omega (arith, unused-nowhere, sum-there e w k c on))
      | inr off ↦ k.placed.off off c
    ]

    -- and no instance employs it
    pub unused-none : (i : ℕ) → content_of (employed (w.actors i).instance) c ≡ None
    unused-none i = by (content_of (employed (w.actors i).instance) c) refl where
      by : (o : Option Content) → content_of (employed (w.actors i).instance) c ≡ o → o ≡ None
      by None q = refl
      by (Some x) q = absurd (omega (
        arith,
        unused-nowhere,
        found-one c x (w.actors i).instance q,
        found-weighs (has_number c) c x (w.actors i).instance q,
        sum-actor e w k (has_number c) i,
      ))
