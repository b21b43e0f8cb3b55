-- The lines of the last of some steps, and what is told with them.
use Rattle.std.proofs.Common.{◌≡◌, ℕ, zero, suc, ◌+◌, ◌-◌, ◌<◌, ◌≤◌}
use Rattle.std.proofs.Common.{List, [], ◌∷◌, ◌++◌, length, refl, sym, ap, ◌∙◌, arith, subst}
use Rattle.std.specs.Prelude.{Option, replicate}
use Rattle.std.proofs.lemmas.List.{append-nil}
use Rattle.ea_model.specs.declared.settings.Config.{Config}
use Rattle.ea_model.specs.declared.trace.Trace.{Trace}
use Rattle.ea_machine.specs.Machine.{run}
use Rattle.ea_machine.specs.Setup.{Setup, setup_of}
use Rattle.ea_machine.specs.Stops.{cut, run_with_stops}
use Rattle.ea_sound.specs.Rule.{Kept}
use Rattle.ea_sound.proofs.RuleRuns.{rule-run}
use Rattle.ea_sched.specs.declared.state.Scheduler.{Scheduler}
use Rattle.ea_sched.specs.Acting.{stop_line}
use Rattle.ea_given.specs.declared.run.GivenRun.{GivenRun}
use Rattle.ea_given.specs.Between.{IsAt, LooksInRow}
use Rattle.ea_given.specs.Runs.{StandsAfter, Tells}
use Rattle.ea_steps.specs.declared.touched.Touched.{Touched}
use Rattle.ea_steps.specs.declared.groups.Group as code
use Rattle.ea_steps.specs.Fronts.{after_group, front_of}
use Rattle.ea_steps.specs.Shown.{Shows}
use Rattle.ea_steps.specs.Noted.{HasStepped, IsTouched}
use Rattle.ea_steps.specs.Taking.{TakesStep, TakesSteps, group_after, last_after, step_after}
use Rattle.ea_steps.specs.Taking.{taken_steps}
use Rattle.ea_steps.specs.Steps.{own_count, step_of}
use Rattle.ea_steps.specs.Text.{changes_text, log_text}
use Rattle.ea_steps.specs.Told.{AreLines, HasNotedSome}
use Rattle.ea_steps.proofs.Tellings.{different-numbers, front-steps, last-is, looks-lines}

-- in a run the carriers are kept
pub kept-after : (c : Config) (t : Trace) (turns more : List ℕ) (r : GivenRun)
    → StandsAfter c t more r → Kept (setup_of c t) (run_with_stops (setup_of c t) turns)
kept-after c t turns more r at = (rule-run c t at.shared.config at.shared.trace
    (cut (setup_of c t).stops turns)).kept

-- one step
module _ (me steps : ℕ) (touched : Touched) (r : GivenRun) (one : steps ≡ 1) where
  takes-one : (e : Setup) (turns : List ℕ) → TakesSteps e turns me steps → TakesStep e turns me
  takes-one e turns takes = subst (λ ts. TakesStep e ts me)
      (append-nil turns) (takes 0 (omega (arith, one)))

  one-turn : replicate steps me ≡ me ∷ []
  one-turn = ap (λ n. replicate n me) one

  pub one-step : HasNotedSome me steps touched r → HasStepped me touched r
  one-step (c, t, turns, at, noted) = (
    c,
    t,
    turns,
    subst (λ xs. StandsAfter c t (turns ++ xs) r) one-turn at,
    takes-one (setup_of c t) turns noted.steps,
    noted.touches,
  )

  last-one : (e : Setup) (turns : List ℕ) → last_after e turns me steps ≡ step_after e turns me
  last-one e turns =
      ap (last_after e turns me) one ∙ last-is e turns me 0
      ∙ ap (λ n. step_of e (run_with_stops e turns) n
      (own_count me (taken_steps e turns) + 0) me) (none (length (taken_steps e turns)))
      ∙ ap (λ n. step_of e (run_with_stops e turns) (length (taken_steps e turns)) n me)
      (none (own_count me (taken_steps e turns)))
    where
      none : (n : ℕ) → n + 0 ≡ n
      none n = omega arith

  pub only-step : (lines : List ℕ)
      → ((c : Config) (t : Trace) (turns : List ℕ) → StandsAfter c t (turns ++ me ∷ []) r
      → TakesStep (setup_of c t) turns me
      → IsTouched (setup_of c t) (step_after (setup_of c t) turns me) touched
      → lines ≡ changes_text (setup_of c t) (step_after (setup_of c t) turns me))
      → AreLines me steps touched r lines
  only-step lines done c t turns at noted =
      done c t turns (subst (λ xs. StandsAfter c t (turns ++ xs) r) one-turn at)
      (takes-one (setup_of c t) turns noted.steps) noted.touches
      ∙ ap (changes_text (setup_of c t)) (sym (last-one (setup_of c t) turns))

-- several
pub looks-told : (me steps : ℕ) (touched : Touched) (r : GivenRun) → 1 ≤ steps
    → (steps ≡ 1 → ⊥) → (s : Scheduler) → Tells (λ setup turns. IsAt setup turns me s) r
    → (lines : List ℕ) → lines ≡ log_text me (stop_line s) → AreLines me steps touched r lines
looks-told me zero touched r some other s at lines are c t turns stands noted =
    absurd (omega (arith, some))
looks-told me (suc zero) touched r some other s at lines are c t turns stands noted =
    absurd (other refl)
looks-told me (suc (suc k)) touched r some other s at lines are c t turns stands noted =
    let e = setup_of c t in
    are ∙ ap (log_text me) (at c t (turns ++ replicate (suc (suc k)) me) stands).stop
    ∙ sym (looks-lines e turns me (suc k) (noted.looks (omega arith))
    (different-numbers e (run_with_stops e turns)
    (kept-after c t turns (turns ++ replicate (suc (suc k)) me) r stands)))

-- what is shown after some steps is the front of all
pub told-more : (c : Config) (t : Trace) (turns : List ℕ) (me n : ℕ) (r : GivenRun)
    → StandsAfter c t turns r → 1 ≤ n → TakesSteps (setup_of c t) turns me n
    → (1 < n → LooksInRow (setup_of c t) turns me n)
    → (text : List ℕ) (last : Option code.Group)
    → Shows (setup_of c t) (after_group (setup_of c t)
    (front_of (setup_of c t) (taken_steps (setup_of c t) turns))
    (group_after (setup_of c t) turns me n)) text last
    → Shows (setup_of c t) (front_of (setup_of c t)
    (taken_steps (setup_of c t) (turns ++ replicate n me))) text last
told-more c t turns me zero r at some steps looks text last shows = absurd (omega (arith, some))
told-more c t turns me (suc k) r at some steps looks text last shows =
    let e = setup_of c t in
    subst (λ f. Shows e f text last)
    (sym (front-steps e turns me k steps (different-numbers e (run_with_stops e turns)
    (kept-after c t turns turns r at)) looks)) shows
