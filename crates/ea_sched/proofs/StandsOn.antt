-- Where a scheduler stands shows that carriers migrate.
use Rattle.std.proofs.Common.{◌≡◌, Bor, true, false, refl, ap, ◌∙◌, subst}
use Rattle.std.specs.Prelude.{Bool}
use Rattle.ea_model.specs.declared.trace.Trace.{Trace}
use Rattle.ea_model.specs.Content.{Content}
use Rattle.ea_machine.specs.declared.stages.Stage.{Stage}
use Rattle.ea_machine.specs.declared.stages.Stage.TheVariants.{Ready}
use Rattle.ea_machine.specs.Actor.{Actor}
use Rattle.ea_machine.specs.Setup.{Setup, migration, setup_of}
use Rattle.ea_machine.specs.Machine.{IsReached, run}
use Rattle.ea_machine.specs.State.{State}
use Rattle.ea_shared.specs.Calls.{Told}
use Rattle.ea_sound.specs.Present.{Fits}
use Rattle.ea_sound.proofs.Asked.{reached-rule}
use Rattle.ea_sound.proofs.OffStages.{IsOffStage, is-off}
use Rattle.ea_sound.proofs.SoundRanges.{number-scheduler}
use Rattle.ea_sched.specs.declared.state.Scheduler.{Scheduler}
use Rattle.ea_sched.specs.Acting.{IsSame, setup_for}
use Rattle.ea_sched.specs.Steps.{IsReadyAt, StartsRow}

-- a scheduler that is ready for its row, at a stage
module _ {stage : Stage Content} (s : Scheduler) {told : Told} (h : IsReadyAt stage s told) where
  abbrev e : Setup
  e = setup_for s

  -- it stands so in this state
  abbrev w : State
  w = run e h.turns

  reached : IsReached e w
  reached = (h.turns, refl)

  in-state : (w.actors s.number).stage ≡ stage
  in-state = ap (λ (x : Actor). x.stage) h.actor

  -- where carriers don't migrate, it is at few of them
  pub stays-off : migration e ≡ false → IsOffStage stage
  stays-off off = subst IsOffStage in-state
      (is-off e w (reached-rule s.config s.trace.now h.config h.trace w reached)
      s.number (number-scheduler e s.number (s.number_from, s.number_to)) off)

  by-migration : (b : Bool) → migration e ≡ b → (IsOffStage stage → ⊥) → b ≡ true
  by-migration true q never = refl
  by-migration false q never = absurd (never (stays-off q))

  -- so at another one they do
  pub stands-on : (IsOffStage stage → ⊥) → migration e ≡ true
  stands-on never = let on = by-migration (migration e) refl never in on

  -- it isn't in the middle of a step
  pub never-ready : stage ≡ Ready → ⊥
  never-ready is =
      let rule = reached-rule s.config s.trace.now h.config h.trace w reached in
      subst (Fits e w s.number (w.actors s.number)) (in-state ∙ is)
      (rule.present.fits s.number)

-- so do those of what is shared
pub moves-on : {stage : Stage Content} {told : Told} (s : Scheduler) → StartsRow stage s told
    → (IsOffStage stage → ⊥) → told.migrates ≡ true
moves-on s starts never = starts.migrates ∙ stands-on s starts.ready never

-- it stays in the same run
pub same-setup : (s t : Scheduler) → IsSame s t → setup_for t ≡ setup_for s
same-setup s t same = ap (λ c. setup_of c t.trace.now) same.config
    ∙ ap (λ (r : Bor Trace). setup_of s.config r.now) same.trace
