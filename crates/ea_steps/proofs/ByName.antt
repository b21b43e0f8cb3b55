-- Blocks by rising name, as they are found of a step in a reached state: what code sorts is what
-- the step released.
use Rattle.std.proofs.Common.{ap, ◌≡◌, ◌≢◌, ◌⊎◌, ℕ, List, [], ◌∷◌, sym, ◌∙◌, subst, inl, inr}
use Rattle.std.specs.Prelude.{All, AllPairs, filter}
use Rattle.std.specs.List.{AllByRecursion}
use Rattle.std.specs.List.Sorted.{IsNonDecreasingBy, IsPermutation}
use Rattle.std.proofs.lemmas.Bool.{cases_lt}
use Rattle.std.proofs.lemmas.List.Elements.{All-head, All-tail}
use Rattle.ea_model.specs.declared.settings.Config.{Config}
use Rattle.ea_model.specs.declared.trace.Trace.{Trace}
use Rattle.ea_model.specs.Keyed.{IsBelow, entered}
use Rattle.ea_model.specs.Settings.{IsValidConfig}
use Rattle.ea_model.specs.Trace.{IsValidTrace}
use Rattle.ea_model.proofs.Pairs.{pairs_head, pairs_tail}
use Rattle.ea_model.proofs.Rising.{entered_here, entered_past}
use Rattle.ea_machine.specs.Machine.{IsReached}
use Rattle.ea_machine.specs.Setup.{Setup, setup_of}
use Rattle.ea_machine.specs.State.{State}
use Rattle.ea_machine.specs.declared.stages.Stage.TheVariants.{Ended}
use Rattle.ea_sound.proofs.RuleRuns.{rule-run}
use Rattle.ea_steps.specs.declared.placed.PlacedBlock.{PlacedBlock}
use Rattle.ea_steps.specs.Changes.{by_name, released}
use Rattle.ea_steps.specs.Found.{found_before, gone_blocks, is_gone}
use Rattle.ea_steps.specs.Steps.{Step, step_of}
use Rattle.ea_steps.proofs.FoundBlocks.{name_at}
use Rattle.ea_steps.proofs.ReleasedBlocks.{found-different, released-gone}
use Rattle.ea_steps.proofs.Rising.{Has, IsRising, rising-same}
use Rattle.ea_steps.proofs.SortedItems.{AreDifferent, filter-different, filter-sorted}
use Rattle.ea_steps.proofs.SortedItems.{permuted-sorted, sorted-rises}

pub by-recursion : {A : Type 0} (P : A → Type 0) (xs : List A) → All P xs → AllByRecursion P xs
by-recursion P [] all = tt
by-recursion P (x ∷ xs) all = (All-head P x xs all, by-recursion P xs (All-tail P x xs all))

rising-pairs : {A : Type 0} (n : A → ℕ) (xs : List A) → AllPairs (IsBelow n) xs → IsRising n xs
rising-pairs n [] pairs = tt
rising-pairs n (x ∷ xs) pairs = (
  by-recursion (IsBelow n x) xs (pairs_head (IsBelow n) x xs pairs),
  rising-pairs n xs (pairs_tail (IsBelow n) x xs pairs),
)

-- the members of a list with one more
module _ (z x : PlacedBlock) where
  has-entered : (ys : List PlacedBlock) → Has z (entered name_at x ys) → (z ≡ x) ⊎ Has z ys
  has-entered [] has = has
  has-entered (y ∷ ys) has = elim (cases_lt (name_at x) (name_at y)) [
    | inl lt ↦ subst (Has z) (entered_here name_at x y ys lt) has
    | inr le ↦ elim (subst (Has z) (entered_past name_at x y ys le) has) [
      | inl first ↦ inr (inl first)
      | inr later ↦ elim (has-entered ys later) [
        | inl same ↦ inl same
        | inr more ↦ inr (inr more)
      ]
    ]
  ]

  entered-has : (ys : List PlacedBlock) → (z ≡ x) ⊎ Has z ys → Has z (entered name_at x ys)
  entered-has [] has = has
  entered-has (y ∷ ys) has = elim (cases_lt (name_at x) (name_at y)) [
    | inl lt ↦ subst (Has z) (sym (entered_here name_at x y ys lt)) has
    | inr le ↦ subst (Has z) (sym (entered_past name_at x y ys le)) (elim has [
      | inl same ↦ inr (entered-has ys (inl same))
      | inr more ↦ elim more [
        | inl first ↦ inl first
        | inr later ↦ inr (entered-has ys (inr later))
      ]
    ])
  ]

-- by name there are the same members
pub by_name-has : (z : PlacedBlock) (xs : List PlacedBlock) → Has z (by_name xs) → Has z xs
by_name-has z [] has = has
by_name-has z (x ∷ xs) has = elim (has-entered z x (by_name xs) has) [
  | inl same ↦ inl same
  | inr more ↦ inr (by_name-has z xs more)
]

pub has-by_name : (z : PlacedBlock) (xs : List PlacedBlock) → Has z xs → Has z (by_name xs)
has-by_name z [] has = has
has-by_name z (x ∷ xs) has = entered-has z x (by_name xs) (elim has [
  | inl same ↦ inl same
  | inr more ↦ inr (has-by_name z xs more)
])

-- so a list that rises by name, and has the same members, is the one by name
pub rising-by_name : (xs sorted : List PlacedBlock) → AreDifferent name_at xs
    → IsRising name_at sorted → ((z : PlacedBlock) → Has z sorted → Has z xs)
    → ((z : PlacedBlock) → Has z xs → Has z sorted) → sorted ≡ by_name xs
rising-by_name xs sorted only rises into back =
    rising-same name_at sorted (by_name xs) rises
    (rising-pairs name_at (by_name xs) (sorted-rises name_at xs only))
    (λ z has. has-by_name z xs (into z has))
    (λ z has. back z (by_name-has z xs has))

-- of a step of a scheduler that hasn't ended, in a reached state
module _ (c : Config) (t : Trace) (valid : IsValidConfig c) (made : IsValidTrace c.schedulers t)
    (w : State) (reached : IsReached (setup_of c t) w) (me count own : ℕ)
    (works : (w.actors me).stage ≢ Ended) where
  abbrev e : Setup
  e = setup_of c t

  abbrev s : Step
  s = step_of e w count own me

  abbrev OfStep : (Step → Type 0) → State → Type 0
  OfStep P u = (u.actors me).stage ≢ Ended → P (step_of e u count own me)

  -- what it released is found before it, and gone after it
  pub step-released : released e s ≡ gone_blocks e s
  step-released = subst (OfStep (λ x. released e x ≡ gone_blocks e x)) (sym reached.1)
      (released-gone e (rule-run c t valid made) reached.0 me count own) works

  -- no two of the blocks that are found have one name
  pub step-found_different : AreDifferent name_at (found_before e s)
  step-found_different = subst (OfStep (λ x. AreDifferent name_at (found_before e x)))
      (sym reached.1)
      (found-different e (rule-run c t valid made) reached.0 me count own) works

  -- so those that are gone, by rising name, are what it released
  pub sorted-released : (sorted : List PlacedBlock) → IsRising name_at sorted
      → ((z : PlacedBlock) → Has z sorted → Has z (filter (is_gone e s) (found_before e s)))
      → ((z : PlacedBlock) → Has z (filter (is_gone e s) (found_before e s)) → Has z sorted)
      → sorted ≡ released e s
  sorted-released sorted rises into back =
      rising-by_name (filter (is_gone e s) (found_before e s)) sorted
      (filter-different name_at (is_gone e s) (found_before e s) step-found_different)
      rises into back
      ∙ sym step-released

  -- and so is what the test leaves of all that were found, in an order in which names don't fall
  pub filtered-released : (sorted : List PlacedBlock) → IsPermutation (found_before e s) sorted
      → IsNonDecreasingBy name_at sorted → filter (is_gone e s) sorted ≡ released e s
  filtered-released sorted same rises =
      ap (filter (is_gone e s))
      (permuted-sorted name_at (found_before e s) sorted step-found_different same rises)
      ∙ filter-sorted name_at (is_gone e s) (found_before e s) step-found_different
      ∙ sym step-released
