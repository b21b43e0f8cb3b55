-- One content of a number at most is at all schedulers, and all that a carrier has is where its
-- content is.
use Rattle.std.proofs.Common.{◌≡◌, ◌≢◌, ℕ, ◌+◌, ◌<◌, ◌≤◌, Bool, true, false, refl, sym, ap, ◌∙◌}
use Rattle.std.proofs.Common.{inl, inr, arith}
use Rattle.std.specs.Prelude.{not, ◌==◌, ◌&&◌}
use Rattle.std.proofs.lemmas.Bool.{cases_Bool, cases_lt}
use Rattle.ea_model.specs.declared.carriers.OwnCarrier.{OwnCarrier}
use Rattle.ea_model.specs.Content.{Content}
use Rattle.ea_laws.specs.Kept.{own_number}
use Rattle.ea_machine.specs.declared.stages.Stage.TheVariants.{Ended}
use Rattle.ea_sound.specs.Contents.{actor_sum, home_sum, seats, slots, sum_everywhere}
use Rattle.ea_sound.specs.NodePlaces.{anywhere}
use Rattle.ea_machine.specs.Owners.{CarrierAt, Absent, Employed, Pooled, Busy, Returning}
use Rattle.ea_model.specs.Instance.{owner_of}
use Rattle.ea_machine.specs.Setup.{Setup, is_scheduler, migration}
use Rattle.ea_machine.specs.State.{State}
use Rattle.ea_machine.specs.Sums.{one_if, sum_over, total, total_at}
use Rattle.ea_sound.specs.Here.{Here}
use Rattle.ea_sound.specs.Rule.{Kept, employed_at, numbers_of, own_numbers}
use Rattle.ea_sound.proofs.ActorWeights.{actor-none}
use Rattle.ea_sound.proofs.KeyedWeights.{times-once}
use Rattle.ea_sound.proofs.Numbered.{OnlyOf, no_scheduler-beyond, numbered-off, numbered-on}
use Rattle.ea_sound.proofs.Numbered.{total_at-exact}
use Rattle.ea_sound.proofs.Totals.{total-part, total_at-part}
use Rattle.ea_sound.proofs.Weights.{one-most, sum-zero}

-- a content of carrier c that another than `me` employs
abbrev pub foreign : (me c : ℕ) → ℕ → ℕ → ℕ
foreign me c i d = one_if ((d == c) && not (i == me))

pub anywhere-only : (c : ℕ) → OnlyOf c (anywhere c)
anywhere-only c i d other = grind (arith, other)

foreign-only : (me c : ℕ) → OnlyOf c (foreign me c)
foreign-only me c i d other = grind (arith, other)

foreign-me : (me c d : ℕ) → foreign me c me d ≡ 0
foreign-me me c d = grind arith

-- a weight of contents of one number
abbrev pub IsOf : ℕ → (Content → ℕ) → Type 0
IsOf c f = (x : Content) → x.number ≢ c → f x ≡ 0

pub of_anywhere : (c i : ℕ) (f : Content → ℕ) → IsOf c f → (x : Content) → anywhere c i x.number ≡ 0
    → f x ≡ 0
of_anywhere c i f of x z = of x (apart x.number z) where
  apart : (d : ℕ) → anywhere c i d ≡ 0 → d ≢ c
  apart d z s = grind (arith, s, z)

of_other : (me c i : ℕ) (f : Content → ℕ) → IsOf c f → i ≢ me → (x : Content)
    → foreign me c i x.number ≡ 0 → f x ≡ 0
of_other me c i f of other x z = of x (apart x.number z) where
  apart : (d : ℕ) → foreign me c i d ≡ 0 → d ≢ c
  apart d z s = grind (arith, s, z, other)

module _ (e : Setup) (w : State) (k : Kept e w) where
  module _ (c : ℕ) where
    once-owned : (i : ℕ) → own_numbers (anywhere c) i (w.actors i) ≤ 1
    once-owned i = by (is_scheduler e i) refl where
      by : (s : Bool) → is_scheduler e i ≡ s → own_numbers (anywhere c) i (w.actors i) ≤ 1
      by false none = omega (
        arith,
        ap (sum_over (λ (o : OwnCarrier). anywhere c i o.number)) (k.ranges.nobody i none).own,
      )
      by true is = times-once own_number c (w.actors i).instance.own
          (k.ranges.instances i is).order.kept.rising

    once-placed : (p : CarrierAt) → employed_at (anywhere c) (anywhere c) c p ≤ 1
    once-placed Absent = omega arith
    once-placed (Employed i) = one-most (c == c)
    once-placed (Pooled i g x) = omega arith
    once-placed (Busy i) = one-most (c == c)
    once-placed (Returning i x) = omega arith

    -- one content of a number at most, among all schedulers
    all_once : total_at (seats e) (numbers_of (anywhere c) (anywhere c)) w.actors ≤ 1
    all_once = elim (cases_Bool (migration e)) [
      | inl on ↦ omega (
        arith,
        numbered-on e w k (anywhere c) (anywhere c) c (anywhere-only c) (anywhere-only c) on,
        once-placed (w.shared.places c),
      )
      | inr off ↦ omega (
        arith,
        numbered-off e w k (anywhere c) (anywhere c) c (anywhere-only c) (anywhere-only c) off,
        once-owned (owner_of c),
      )
    ]

    -- so at each of them
    pub contents_once : (me : ℕ) → me < seats e
        → numbers_of (anywhere c) (anywhere c) me (w.actors me) ≤ 1
    contents_once me seat = omega (
      arith,
      all_once,
      total_at-part (numbers_of (anywhere c) (anywhere c)) w.actors me (seats e) seat,
    )

  -- who is no scheduler has no content
  pub nobody-weighs : (f g : Content → ℕ) (i : ℕ) → is_scheduler e i ≡ false
      → actor_sum f g (w.actors i) ≡ 0
  nobody-weighs f g i none =
      let has = k.ranges.nobody i none in
      omega (
        arith,
        ap (sum_over g) has.contents,
        ap (sum_over g) has.singles,
        ap (λ s. actor_sum f g (record (w.actors i) { stage = s })) has.stage,
      )

  pub weighs-scheduler : (f g : Content → ℕ) (i : ℕ) → 1 ≤ actor_sum f g (w.actors i)
      → is_scheduler e i ≡ true
  weighs-scheduler f g i some = elim (cases_Bool (is_scheduler e i)) [
    | inl is ↦ is
    | inr none ↦ absurd (omega (arith, some, nobody-weighs f g i none))
  ]

  -- who is in the middle of something is a scheduler
  pub working-scheduler : (i : ℕ) → (w.actors i).stage ≢ Ended → is_scheduler e i ≡ true
  working-scheduler i working = elim (cases_Bool (is_scheduler e i)) [
    | inl is ↦ is
    | inr none ↦ absurd (working (k.ranges.nobody i none).stage)
  ]

  -- what a scheduler has is a part of all
  pub sum-actor : (f : Content → ℕ) (i : ℕ) → actor_sum f f (w.actors i) ≤ sum_everywhere e f w
  sum-actor f i = elim (cases_lt i (seats e)) [
    | inl seat ↦ omega (arith, total-part (actor_sum f f) w.actors i (seats e) seat)
    | inr past ↦ omega (arith, nobody-weighs f f i (no_scheduler-beyond e i past))
  ]

  module _ (f : Content → ℕ) (c : ℕ) (of : IsOf c f) where
    home-other : (d : ℕ) (p : CarrierAt) → w.shared.places d ≡ p → d ≢ c → home_sum f p ≡ 0
    home-other d Absent q other = refl
    home-other d (Employed i) q other = refl
    home-other d (Pooled i g x) q other =
        of x (λ s. other (sym (k.placed.pooled d i g x q).0 ∙ s))
    home-other d (Busy i) q other = refl
    home-other d (Returning i x) q other =
        of x (λ s. other (sym (k.placed.returning d i x q).0 ∙ s))

    -- what contents of the number weigh, at schedulers and at home
    pub sum-numbered : sum_everywhere e f w
        ≡ total (seats e) (actor_sum f f) w.actors + home_sum f (w.shared.places c)
    sum-numbered = omega (
      arith,
      total_at-exact (λ d. home_sum f) w.shared.places c (slots e)
          (λ d other. home-other d (w.shared.places d) refl other)
          (λ past. ap (home_sum f) (k.placed.beyond c past)),
    )

    -- all of a carrier that a scheduler employs is with it
    module _ (me : ℕ) (here : Here e w.shared me c) where
      others-none : total_at (seats e) (numbers_of (anywhere c) (foreign me c)) w.actors ≡ 0
      others-none = elim here [
        | inl on ↦ numbered-on e w k (anywhere c) (foreign me c) c (anywhere-only c)
            (foreign-only me c) on.0
            ∙ ap (employed_at (anywhere c) (foreign me c) c) on.1 ∙ foreign-me me c c
        | inr off ↦ numbered-off e w k (anywhere c) (foreign me c) c (anywhere-only c)
            (foreign-only me c) off.0
            ∙ ap (λ i. own_numbers (foreign me c) i (w.actors i)) off.1
            ∙ sum-zero (λ (o : OwnCarrier). foreign me c me o.number)
            (w.actors me).instance.own (λ i d within. foreign-me me c _)
      ]

      other-none : (i : ℕ) → i ≢ me → actor_sum f f (w.actors i) ≡ 0
      other-none i other = elim (cases_lt i (seats e)) [
        | inl seat ↦ actor-none (λ x. anywhere c i x.number) (λ x. foreign me c i x.number) f f
            (of_anywhere c i f of) (of_other me c i f of other) (w.actors i)
            (omega (
              arith,
              others-none,
              total_at-part (numbers_of (anywhere c) (foreign me c)) w.actors i (seats e) seat,
            ))
        | inr past ↦ nobody-weighs f f i (no_scheduler-beyond e i past)
      ]

      home-none : home_sum f (w.shared.places c) ≡ 0
      home-none = elim here [
        | inl on ↦ ap (home_sum f) on.1
        | inr off ↦ ap (home_sum f) (k.placed.off off.0 c)
      ]

      pub sum-here : sum_everywhere e f w ≡ actor_sum f f (w.actors me)
      sum-here = omega (
        arith,
        sum-numbered,
        home-none,
        total_at-exact (λ i. actor_sum f f) w.actors me (seats e)
            other-none
            (λ past. nobody-weighs f f me (no_scheduler-beyond e me past)),
      )
