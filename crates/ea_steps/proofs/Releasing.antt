-- The lines of the blocks that a step released: of those that it could release, and that are found
-- to be gone after it, by rising name.
use Rattle.std.proofs.Common.{◌≡◌, ℕ, zero, suc, ◌+◌, ◌<◌, ◌≤◌, Bool, true, false, List, [], ◌∷◌}
use Rattle.std.proofs.Common.{◌++◌, drop, get_or, length, map, refl, sym, ap, ◌∙◌, arith, subst}
use Rattle.std.specs.Prelude.{Option, None, Some, ◌&&◌, ◌||◌, not, if◌then◌else◌, filter}
use Rattle.std.specs.Prelude.{flat_map, slice_get}
use Rattle.std.specs.List.{list_any}
use Rattle.std.specs.List.Sorted.{IsNonDecreasingBy, IsPermutation}
use Rattle.std.proofs.lemmas.List.{append-nil, append_assoc, drop_all, drop_more}
use Rattle.ea_model.specs.declared.entries.Entry as declared
use Rattle.ea_model.specs.declared.entries.Entry.TheVariants as entry
use Rattle.ea_model.specs.declared.entries.Reports.{Reports}
use Rattle.ea_model.specs.declared.settings.Config.{Config}
use Rattle.ea_model.specs.declared.trace.Trace.{Trace}
use Rattle.ea_model.specs.Entries.{Entry, informed, told}
use Rattle.ea_machine.specs.Setup.{Setup, setup_of}
use Rattle.ea_machine.specs.State.{State}
use Rattle.ea_machine.specs.Stops.{cut, run_with_stops}
use Rattle.ea_sound.proofs.TurnLists.{not-ended}
use Rattle.ea_given.specs.declared.run.GivenRun.{GivenRun}
use Rattle.ea_given.specs.Runs.{Tells}
use Rattle.ea_steps.specs.declared.placed.PlacedBlock.{PlacedBlock}
use Rattle.ea_steps.specs.declared.touched.Touched.{Touched}
use Rattle.ea_steps.specs.Changes.{added, renames}
use Rattle.ea_steps.specs.Entered.{HasAdded}
use Rattle.ea_steps.specs.Found.{is_there}
use Rattle.ea_steps.specs.Found as found
use Rattle.ea_steps.specs.Noted.{Releases}
use Rattle.ea_steps.specs.Released.{gone_lines, is_gone, is_renamed}
use Rattle.ea_steps.specs.Steps.{Step, own_count}
use Rattle.ea_steps.specs.Taking.{TakesStep, TakesSteps, step_after, taken_steps}
use Rattle.ea_steps.specs.Text.{released_text}
use Rattle.ea_steps.proofs.ByName.{filtered-released}
use Rattle.ea_steps.proofs.FoundBlocks.{name_at}
use Rattle.ea_steps.proofs.SortedItems.{filter-alike}
use Rattle.ea_steps.proofs.Takings.{run-steps}

-- the lines of those that pass a test: a text that the lines of the first ones were added to, and
-- the lines that are still to come
module _ {A : Type 0} (p : A → Bool) (line_of : A → List ℕ) where
  abbrev lines : List A → List ℕ
  lines xs = flat_map line_of (filter p xs)

  first-passes : (x : A) (xs : List A) → p x ≡ true → lines (x ∷ xs) ≡ line_of x ++ lines xs
  first-passes x xs passes =
      ap (λ b. flat_map line_of (if b then x ∷ filter p xs else filter p xs)) passes

  first-fails : (x : A) (xs : List A) → p x ≡ false → lines (x ∷ xs) ≡ lines xs
  first-fails x xs fails =
      ap (λ b. flat_map line_of (if b then x ∷ filter p xs else filter p xs)) fails

  module _ (xs : List A) (i : ℕ) (text all : List ℕ)
      (so_far : text ++ lines (drop i xs) ≡ all) where
    module _ (x : A) (within : i < length xs) where
      pub line-added : p (get_or xs i x) ≡ true → (more : List ℕ)
          → more ≡ text ++ line_of (get_or xs i x) → more ++ lines (drop (i + 1) xs) ≡ all
      line-added passes more is =
          ap (λ ys. ys ++ lines (drop (i + 1) xs)) is
          ∙ append_assoc text (line_of (get_or xs i x)) (lines (drop (i + 1) xs))
          ∙ ap (λ ys. text ++ ys)
          (sym (ap lines (drop_more xs i x within)
          ∙ first-passes (get_or xs i x) (drop (i + 1) xs) passes))
          ∙ so_far

      pub line-left : p (get_or xs i x) ≡ false → (more : List ℕ) → more ≡ text
          → more ++ lines (drop (i + 1) xs) ≡ all
      line-left fails more is =
          ap (λ ys. ys ++ lines (drop (i + 1) xs)) is
          ∙ ap (λ ys. text ++ ys)
          (sym (ap lines (drop_more xs i x within)
          ∙ first-fails (get_or xs i x) (drop (i + 1) xs) fails))
          ∙ so_far

    pub lines-end : length xs ≤ i → text ≡ all
    lines-end past =
        sym (append-nil text)
        ∙ ap (λ ys. text ++ lines ys) (sym (drop_all i xs past))
        ∙ so_far

-- whether an entry gives a block a new name doesn't depend on its reports
module _ (name : ℕ) (reports : List Reports) where
  informed-other : (o : Option Reports) → renames name (informed o) ≡ false
  informed-other (Some r) = refl
  informed-other None = refl

  told-renames : (e : declared.Entry ℕ) → renames name (told reports e) ≡ renames name (told [] e)
  told-renames (entry.Alloc fresh place) = refl
  told-renames (entry.AllocFail fresh need looked why) = refl
  told-renames (entry.Free old) = refl
  told-renames (entry.FreeQueued old to) = refl
  told-renames (entry.FreeSkipped old) = refl
  told-renames (entry.ReallocHere old fresh place) = refl
  told-renames (entry.ReallocMoved old fresh place) = refl
  told-renames (entry.ReallocQueued old fresh place to) = refl
  told-renames (entry.ReallocFail old fresh need looked why) = refl
  told-renames (entry.ReallocSkipped old fresh) = refl
  told-renames (entry.Give given to) = refl
  told-renames (entry.GiveSkipped given to) = refl
  told-renames (entry.Take taken) = refl
  told-renames (entry.TakeAbsent taken tries) = refl
  told-renames (entry.Info at) = informed-other (slice_get reports at)
      ∙ sym (informed-other (slice_get [] at))
  told-renames entry.Idle = refl
  told-renames (entry.Stopped steps) = refl

  told-renamed : (entries : List (declared.Entry ℕ))
      → list_any (renames name) (map (told reports) entries) ≡ is_renamed entries name
  told-renamed [] = refl
  told-renamed (e ∷ entries) =
      ap (λ b. b || list_any (renames name) (map (told reports) entries)) (told-renames e)
      ∙ ap (λ b. renames name (told [] e) || b) (told-renamed entries)

-- a scheduler that takes a step takes one
once : (e : Setup) (turns : List ℕ) (me : ℕ) → TakesStep e turns me → TakesSteps e turns me 1
once e turns me takes zero below =
    subst (λ ts. TakesStep e ts me) (sym (append-nil turns)) takes
once e turns me takes (suc j) below = absurd (omega (arith, below))

-- what is gone of the blocks that were found, in an order in which names don't fall, is what the
-- step released
module _ (me : ℕ) (touched : Touched) (run : GivenRun) (entries : List (declared.Entry ℕ))
    (sorted : List PlacedBlock) (same : IsPermutation touched.blocks.items sorted)
    (rises : IsNonDecreasingBy name_at sorted) (new : HasAdded me touched run entries) where
  module _ (c : Config) (t : Trace) (turns : List ℕ)
      (takes : TakesStep (setup_of c t) turns me) where
    abbrev e : Setup
    e = setup_of c t

    abbrev s : Step
    s = step_after e turns me

    state-after : run_with_stops e (turns ++ me ∷ []) ≡ s.after
    state-after = run-steps e turns me 1 (once e turns me takes)

    gone-alike : (reports : List Reports) → map (told reports) entries ≡ added s
        → (x : PlacedBlock) → is_gone e s.after entries x ≡ found.is_gone e s x
    gone-alike reports are x =
        ap (λ b. not (is_there e s.after x) && not b)
        (sym (told-renamed x.block.name reports entries)
        ∙ ap (list_any (renames x.block.name)) are)

  pub all-released : (text grown : List ℕ)
      → Tells (λ setup turns. grown
      ≡ text ++ gone_lines setup (run_with_stops setup turns) entries sorted) run
      → Releases me touched run text grown
  all-released text grown is c t turns stands takes noted =
      let e = setup_of c t in
      let s = step_after e turns me in
      let w = run_with_stops e turns in
      let told = new c t turns stands takes noted in
      is c t (turns ++ me ∷ []) stands
      ∙ ap (λ (v : State). text ++ gone_lines e v entries sorted) (state-after c t turns takes)
      ∙ ap (λ xs. text ++ flat_map released_text xs)
      (filter-alike name_at (is_gone e s.after entries) (found.is_gone e s) sorted
      (λ i d within. gone-alike c t turns takes told.0 told.1 (get_or sorted i d))
      ∙ filtered-released c t stands.shared.config stands.shared.trace w (cut e.stops turns, refl)
      me (length (taken_steps e turns)) (own_count me (taken_steps e turns))
      (not-ended (w.actors me).stage takes.0) sorted
      (subst (λ xs. IsPermutation xs sorted) noted.blocks same) rises)
