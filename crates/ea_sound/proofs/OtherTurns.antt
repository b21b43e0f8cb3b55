-- What a scheduler keeps while others take turns, and lists of turns in which each is a step.
use Rattle.std.proofs.Common.{◌≡◌, ◌≢◌, ◌⊎◌, ℕ, List, [], ◌∷◌, ◌++◌, refl, sym, ap, ◌∙◌, subst, inl}
use Rattle.std.proofs.Common.{inr}
use Rattle.std.specs.Prelude.{All, length}
use Rattle.std.proofs.lemmas.List.Elements.{All-head, All-tail}
use Rattle.ea_machine.specs.declared.stages.Stage.TheVariants.{Ended}
use Rattle.ea_machine.specs.Courses.{AreSteps}
use Rattle.ea_machine.specs.Machine.{run, run_on, start, step, wants}
use Rattle.ea_machine.specs.Setup.{Setup}
use Rattle.ea_machine.specs.Shared.{Shared}
use Rattle.ea_machine.specs.State.{State}
use Rattle.ea_sound.proofs.Completing.{linked-length}
use Rattle.ea_sound.proofs.OtherRows.{rests-kept}
use Rattle.ea_sound.proofs.TurnLists.{ended-or, run-append, step-ended, step-other, step-shared}

-- a scheduler stays as it is while others take turns
actor-on : (e : Setup) (me : ℕ) (w : State) (others : List ℕ) → All (λ i. i ≢ me) others
    → (run_on e w others).actors me ≡ w.actors me
actor-on e me w [] still = refl
actor-on e me w (i ∷ others) still =
    actor-on e me (step e w i) others (All-tail (λ i. i ≢ me) i others still)
    ∙ step-other e w i me (λ q. All-head (λ i. i ≢ me) i others still (sym q))

pub actor-since : (e : Setup) (me : ℕ) (turns others : List ℕ) → All (λ i. i ≢ me) others
    → (run e (turns ++ others)).actors me ≡ (run e turns).actors me
actor-since e me turns others still =
    ap (λ (w : State). w.actors me) (run-append e (start e) turns others)
    ∙ actor-on e me (run e turns) others still

-- so does the length of what is left of its walk
other-rest : (e : Setup) (me : ℕ) (w : State) (i : ℕ) → me ≢ i
    → length ((step e w i).shared.rests me) ≡ length (w.shared.rests me)
other-rest e me w i other = elim (ended-or (w.actors i).stage) [
  | inl q ↦ ap (λ (v : State). length (v.shared.rests me)) (step-ended e w i q)
  | inr goes ↦ ap (λ (s : Shared). length (s.rests me)) (step-shared e w i goes)
      ∙ rests-kept (λ ms. length ms) linked-length i (wants (w.actors i)) w.shared me other
]

rest-on : (e : Setup) (me : ℕ) (w : State) (others : List ℕ) → All (λ i. i ≢ me) others
    → length ((run_on e w others).shared.rests me) ≡ length (w.shared.rests me)
rest-on e me w [] still = refl
rest-on e me w (i ∷ others) still =
    rest-on e me (step e w i) others (All-tail (λ i. i ≢ me) i others still)
    ∙ other-rest e me w i (λ q. All-head (λ i. i ≢ me) i others still (sym q))

pub rest-since : (e : Setup) (me : ℕ) (turns others : List ℕ) → All (λ i. i ≢ me) others
    → length ((run e (turns ++ others)).shared.rests me)
    ≡ length ((run e turns).shared.rests me)
rest-since e me turns others still =
    ap (λ (w : State). length (w.shared.rests me)) (run-append e (start e) turns others)
    ∙ rest-on e me (run e turns) others still

-- the last one of a list, or one before it
pub last-or : (turns before later : List ℕ) (i me : ℕ) → turns ++ i ∷ [] ≡ before ++ me ∷ later
    → ((before ≡ turns) × (me ≡ i)) ⊎ ((rest : List ℕ) × (turns ≡ before ++ me ∷ rest))
last-or [] [] [] i me q = inl (refl, let e : i ∷ [] ≡ me ∷ [] = q in cc)
last-or [] [] (x ∷ later) i me q = absurd (let e : i ∷ [] ≡ me ∷ x ∷ later = q in cc)
last-or [] (x ∷ before) later i me q = absurd (some-more before later me (tails q)) where
  tails : {i x : ℕ} {xs ys : List ℕ} → i ∷ xs ≡ x ∷ ys → xs ≡ ys
  tails q = cc

  some-more : (before later : List ℕ) (me : ℕ) → [] ≢ before ++ me ∷ later
  some-more [] later me q = absurd cc
  some-more (x ∷ before) later me q = absurd cc
last-or (t ∷ turns) [] later i me q =
    inr (turns, let e : t ∷ turns ++ i ∷ [] ≡ me ∷ later = q in cc)
last-or (t ∷ turns) (x ∷ before) later i me q = elim (last-or turns before later i me (tails q)) [
  | inl o ↦ inl (ap (λ l. x ∷ l) o.0 ∙ ap (λ y. y ∷ turns) (sym (heads q)), o.1)
  | inr o ↦ inr (o.0, ap (λ l. t ∷ l) o.1 ∙ ap (λ y. y ∷ before ++ me ∷ o.0) (heads q))
] where
  tails : {i x : ℕ} {xs ys : List ℕ} → i ∷ xs ≡ x ∷ ys → xs ≡ ys
  tails q = cc

  heads : {i x : ℕ} {xs ys : List ℕ} → i ∷ xs ≡ x ∷ ys → i ≡ x
  heads q = cc

-- one step more
pub one-step : (e : Setup) (turns : List ℕ) (i : ℕ) → AreSteps e turns
    → ((run e turns).actors i).stage ≢ Ended → AreSteps e (turns ++ i ∷ [])
one-step e turns i are goes before later me q = elim (last-or turns before later i me q) [
  | inl o ↦ subst (λ l. ((run e l).actors me).stage ≢ Ended) (sym o.0)
      (subst (λ j. ((run e turns).actors j).stage ≢ Ended) (sym o.1) goes)
  | inr o ↦ are before o.0 me o.1
]

pub no-step : (e : Setup) → AreSteps e []
no-step e [] later me q = absurd (let never : [] ≡ me ∷ later = q in cc)
no-step e (x ∷ before) later me q = absurd (let never : [] ≡ x ∷ before ++ me ∷ later = q in cc)
