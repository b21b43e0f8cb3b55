-- Who has the content of a carrier, and where the carrier is.
use Rattle.std.proofs.Common.{◌≡◌, ◌≢◌, ℕ, zero, suc, ◌<◌, ◌≤◌, true, false, refl, sym, ap, ◌∙◌}
use Rattle.std.proofs.Common.{inl, inr, arith}
use Rattle.std.specs.Prelude.{Some, ◌==◌, ◌&&◌}
use Rattle.std.proofs.lemmas.Bool.{cases_Bool, cases_eq, cases_lt}
use Rattle.ea_model.specs.declared.carriers.OwnCarrier.{OwnCarrier}
use Rattle.ea_model.specs.Content.{Content}
use Rattle.ea_model.specs.Instance.{Instance, content_of, employed, owner_of}
use Rattle.ea_model.proofs.Rising.{item_at-key}
use Rattle.ea_laws.specs.Kept.{number_of}
use Rattle.ea_machine.specs.Actor.{Actor}
use Rattle.ea_sound.specs.Contents.{actor_sum, hand_sum, seats, slots}
use Rattle.ea_sound.specs.NodePlaces.{anywhere}
use Rattle.ea_machine.specs.Owners.{CarrierAt, Absent, Employed, Pooled, Busy, Returning}
use Rattle.ea_sound.specs.Places.{busy_count, employed_count, has_number, none}
use Rattle.ea_machine.specs.Setup.{Setup, is_scheduler, migration}
use Rattle.ea_machine.specs.State.{State}
use Rattle.ea_machine.specs.Sums.{one_if, total_at}
use Rattle.ea_sound.specs.Blocks.{employed_sum}
use Rattle.ea_sound.specs.Here.{Here}
use Rattle.ea_sound.specs.Rule.{Kept, employed_at, numbers_of}
use Rattle.ea_sound.proofs.ActorWeights.{actor-none}
use Rattle.ea_sound.proofs.EmployedWeights.{employed_sum-employed}
use Rattle.ea_sound.proofs.Global.{anywhere-only, nobody-weighs, weighs-scheduler}
use Rattle.ea_sound.proofs.KeyedWeights.{counts-key, sum-item}
use Rattle.ea_sound.proofs.Numbered.{OnlyOf, no_scheduler-beyond, numbered-off, numbered-on}
use Rattle.ea_sound.proofs.Numbered.{scheduler-seat, total_at-exact}
use Rattle.ea_sound.proofs.Totals.{total_at-part}
use Rattle.ea_sound.proofs.Weights.{one-itself, sum-zero}

-- no carrier
abbrev pub nothing : ℕ → ℕ → ℕ
nothing i d = 0

-- carrier c at `me`
abbrev pub mine : (me c : ℕ) → ℕ → ℕ → ℕ
mine me c i d = one_if ((d == c) && (i == me))

pub nothing-only : (c : ℕ) → OnlyOf c nothing
nothing-only c i d other = refl

pub mine-only : (me c : ℕ) → OnlyOf c (mine me c)
mine-only me c i d other = grind (arith, other)

pub mine-itself : (me c : ℕ) → mine me c me c ≡ 1
mine-itself me c = grind arith

pub not-mine : (me c i d : ℕ) → i ≢ me → mine me c i d ≡ 0
not-mine me c i d other = grind (arith, other)

mine-numbered : (me c : ℕ) (x : Content) → mine me c me x.number ≡ 0 → has_number c x ≡ 0
mine-numbered me c x z = by x.number z where
  by : (d : ℕ) → mine me c me d ≡ 0 → one_if (d == c) ≡ 0
  by d z = grind (arith, z)

pub at_least_one : (n : ℕ) → (n ≡ 0 → ⊥) → 1 ≤ n
at_least_one zero some = absurd (some refl)
at_least_one (suc n) some = omega arith

zero_if : (n : ℕ) → (1 ≤ n → ⊥) → n ≡ 0
zero_if zero never = refl
zero_if (suc n) never = absurd (never (omega arith))

employed_there : (i : ℕ) → Employed i ≢ Absent
employed_there i q = cc

busy_there : (i : ℕ) → Busy i ≢ Absent
busy_there i q = cc

same_employer : (j i : ℕ) → Employed j ≡ Employed i → j ≡ i
same_employer j i q = cc

same_busy : (j i : ℕ) → Busy j ≡ Busy i → j ≡ i
same_busy j i q = cc

-- a content that is found weighs no more than all
pub found-weighs : (f : Content → ℕ) (c : ℕ) (x : Content) (i : Instance)
    → content_of (employed i) c ≡ Some x → f x ≤ employed_sum f i
found-weighs f c x i there =
    omega (arith, sum-item number_of f c x (employed i) there, employed_sum-employed f i)

-- and counts
pub found-one : (c : ℕ) (x : Content) (i : Instance) → content_of (employed i) c ≡ Some x
    → has_number c x ≡ 1
found-one c x i there = counts-key number_of c x (item_at-key number_of c x (employed i) there)

pub found-counts : (c : ℕ) (x : Content) (a : Actor) → content_of (employed a.instance) c ≡ Some x
    → 1 ≤ actor_sum none (has_number c) a
found-counts c x a there = omega (
  arith,
  found-weighs (has_number c) c x a.instance there,
  found-one c x a.instance there,
)

module _ (e : Setup) (w : State) (k : Kept e w) where
  -- a carrier that is somewhere by its word is one of those that migrate, and has a number
  pub there-on : (c : ℕ) → w.shared.places c ≢ Absent → migration e ≡ true
  there-on c there = elim (cases_Bool (migration e)) [
    | inl on ↦ on
    | inr off ↦ absurd (there (k.placed.off off c))
  ]

  pub there-slot : (c : ℕ) → w.shared.places c ≢ Absent → c < slots e
  there-slot c there = elim (cases_lt c (slots e)) [
    | inl slot ↦ slot
    | inr past ↦ absurd (there (k.placed.beyond c past))
  ]

  module _ (me c : ℕ) where
    -- a scheduler that employs the content
    module _ (some : 1 ≤ employed_count c w me) where
      employed-seat : me < seats e
      employed-seat = scheduler-seat e me (weighs-scheduler e w k none (has_number c) me some)

      employed-some : 1 ≤ total_at (seats e) (numbers_of nothing (mine me c)) w.actors
      employed-some = at_least_one (total_at (seats e) (numbers_of nothing (mine me c)) w.actors)
          (λ z. omega (
            arith,
            some,
            actor-none none (λ x. mine me c me x.number) none (has_number c) (λ x z. refl)
                (mine-numbered me c) (w.actors me)
                (omega (
                  arith,
                  z,
                  total_at-part (numbers_of nothing (mine me c)) w.actors me (seats e)
                      employed-seat,
                )),
          ))

      -- has its word
      pub employed-place : migration e ≡ true → w.shared.places c ≡ Employed me
      employed-place on = by (w.shared.places c) (omega (
        arith,
        employed-some,
        numbered-on e w k nothing (mine me c) c (nothing-only c) (mine-only me c) on,
      )) where
        by : (p : CarrierAt) → 1 ≤ employed_at nothing (mine me c) c p → p ≡ Employed me
        by Absent l = absurd (omega (arith, l))
        by (Employed i) l = elim (cases_eq i me) [
          | inl s ↦ ap Employed s
          | inr other ↦ absurd (omega (arith, l, not-mine me c i c other))
        ]
        by (Pooled i g x) l = absurd (omega (arith, l))
        by (Busy i) l = absurd (omega (arith, l))
        by (Returning i x) l = absurd (omega (arith, l))

      -- or owns the carrier
      pub employed-owner : migration e ≡ false → owner_of c ≡ me
      employed-owner off = elim (cases_eq (owner_of c) me) [
        | inl s ↦ s
        | inr other ↦ absurd (omega (
          arith,
          employed-some,
          numbered-off e w k nothing (mine me c) c (nothing-only c) (mine-only me c) off,
          sum-zero (λ (o : OwnCarrier). mine me c (owner_of c) o.number)
              (w.actors (owner_of c)).instance.own
              (λ i d within. not-mine me c (owner_of c) _ other),
        ))
      ]

      pub employed-here : Here e w.shared me c
      employed-here = elim (cases_Bool (migration e)) [
        | inl on ↦ inl (on, employed-place on)
        | inr off ↦ inr (off, employed-owner off)
      ]

    -- one that has it busy
    module _ (some : 1 ≤ busy_count c w me) where
      busy-seat : me < seats e
      busy-seat = scheduler-seat e me (weighs-scheduler e w k (has_number c) none me some)

      busy-some : 1 ≤ total_at (seats e) (numbers_of (mine me c) nothing) w.actors
      busy-some = at_least_one (total_at (seats e) (numbers_of (mine me c) nothing) w.actors)
          (λ z. omega (
            arith,
            some,
            actor-none (λ x. mine me c me x.number) none (has_number c) none (mine-numbered me c)
                (λ x z. refl) (w.actors me)
                (omega (
                  arith,
                  z,
                  total_at-part (numbers_of (mine me c) nothing) w.actors me (seats e) busy-seat,
                )),
          ))

      busy-on : migration e ≡ true
      busy-on = elim (cases_Bool (migration e)) [
        | inl on ↦ on
        | inr off ↦ absurd (omega (
          arith,
          busy-some,
          numbered-off e w k (mine me c) nothing c (mine-only me c) (nothing-only c) off,
          sum-zero (λ (o : OwnCarrier). 0) (w.actors (owner_of c)).instance.own
              (λ i d within. refl),
        ))
      ]

      pub busy-place : w.shared.places c ≡ Busy me
      busy-place = by (w.shared.places c) (omega (
        arith,
        busy-some,
        numbered-on e w k (mine me c) nothing c (mine-only me c) (nothing-only c) busy-on,
      )) where
        by : (p : CarrierAt) → 1 ≤ employed_at (mine me c) nothing c p → p ≡ Busy me
        by Absent l = absurd (omega (arith, l))
        by (Employed i) l = absurd (omega (arith, l))
        by (Pooled i g x) l = absurd (omega (arith, l))
        by (Busy i) l = elim (cases_eq i me) [
          | inl s ↦ ap Busy s
          | inr other ↦ absurd (omega (arith, l, not-mine me c i c other))
        ]
        by (Returning i x) l = absurd (omega (arith, l))

  -- whose word it is has the content, once
  module _ (c i : ℕ) where
    module _ (there : w.shared.places c ≡ Employed i) where
      other-employs_none : (j : ℕ) → j ≢ i → employed_count c w j ≡ 0
      other-employs_none j other = zero_if (employed_count c w j)
          (λ some. other (same_employer j i (sym (employed-place j c some
          (there-on c (λ q. employed_there i (sym there ∙ q)))) ∙ there)))

      pub employed-once : employed_count c w i ≡ 1
      employed-once = omega (
        arith,
        total_at-exact (numbers_of nothing (anywhere c)) w.actors i (seats e) other-employs_none
            (λ past. nobody-weighs e w k none (has_number c) i (no_scheduler-beyond e i past)),
        numbered-on e w k nothing (anywhere c) c (nothing-only c) (anywhere-only c)
            (there-on c (λ q. employed_there i (sym there ∙ q))),
        ap (employed_at nothing (anywhere c) c) there,
        one-itself c,
      )

      pub employed-scheduler : is_scheduler e i ≡ true
      employed-scheduler =
          weighs-scheduler e w k none (has_number c) i (omega (arith, employed-once))

    module _ (there : w.shared.places c ≡ Busy i) where
      other-busy_none : (j : ℕ) → j ≢ i → busy_count c w j ≡ 0
      other-busy_none j other = zero_if (busy_count c w j)
          (λ some. other (same_busy j i (sym (busy-place j c some) ∙ there)))

      pub busy-once : busy_count c w i ≡ 1
      busy-once = omega (
        arith,
        total_at-exact (numbers_of (anywhere c) nothing) w.actors i (seats e) other-busy_none
            (λ past. nobody-weighs e w k (has_number c) none i (no_scheduler-beyond e i past)),
        numbered-on e w k (anywhere c) nothing c (anywhere-only c) (nothing-only c)
            (there-on c (λ q. busy_there i (sym there ∙ q))),
        ap (employed_at (anywhere c) nothing c) there,
        one-itself c,
      )

      pub busy-scheduler : is_scheduler e i ≡ true
      busy-scheduler = weighs-scheduler e w k (has_number c) none i (omega (arith, busy-once))

      -- in its hand
      pub busy-hand : hand_sum (has_number c) none (w.actors i).stage ≡ 1
      busy-hand = omega (
        arith,
        busy-once,
        sum-zero none (w.actors i).instance.contents (λ j d within. refl),
        sum-zero none (w.actors i).instance.singles (λ j d within. refl),
      )
