-- The rule holds at every moment of a run.
use Rattle.std.proofs.Common.{ℕ, List, sym, subst}
use Rattle.ea_model.specs.declared.settings.Config.{Config}
use Rattle.ea_model.specs.declared.trace.Trace.{Trace}
use Rattle.ea_model.specs.Settings.{IsValidConfig}
use Rattle.ea_model.specs.Trace.{IsValidTrace}
use Rattle.ea_machine.specs.Machine.{run}
use Rattle.ea_machine.specs.Setup.{Setup, setup_of}
use Rattle.ea_sound.specs.Listed.{KeepsLists}
use Rattle.ea_sound.specs.Present.{Rule}
use Rattle.ea_sound.specs.Steady.{AreSteady}
use Rattle.ea_sound.proofs.Listing.{step-lists}
use Rattle.ea_sound.proofs.PresentStart.{start-Rule}
use Rattle.ea_sound.proofs.PresentStep.{step-rule}
use Rattle.ea_sound.proofs.SoundLists.{start-lists}
use Rattle.ea_sound.proofs.Steadying.{start-steady, step-steady}
use Rattle.ea_sound.proofs.TurnLists.{by-turns, run-snoc}

module _ (c : Config) (t : Trace) (valid : IsValidConfig c)
    (made : IsValidTrace c.schedulers t) where
  abbrev e : Setup
  e = setup_of c t

  -- the rule holds at every moment
  pub rule-run : (turns : List ℕ) → Rule e (run e turns)
  rule-run = by-turns (λ L. Rule e (run e L))
      (λ L me rule. subst (Rule e) (sym (run-snoc e L me)) (step-rule e (run e L) me rule))
      (start-Rule c t valid made)

  pub steady-run : (turns : List ℕ) → AreSteady e (run e turns)
  steady-run = by-turns (λ L. AreSteady e (run e L))
      (λ L me steady. subst (AreSteady e) (sym (run-snoc e L me))
      (step-steady e (run e L) me (rule-run L).kept steady))
      (start-steady e)

  -- and own carriers stand in lists
  pub lists-run : (turns : List ℕ) → KeepsLists e (run e turns)
  lists-run = by-turns (λ L. KeepsLists e (run e L))
      (λ L me lists. subst (KeepsLists e) (sym (run-snoc e L me))
      (step-lists e (run e L) me (rule-run L) (steady-run L) lists))
      (start-lists e)
