-- A step of anyone keeps what every moment keeps.
use Rattle.std.proofs.Common.{◌≡◌, ◌≢◌, ℕ, Bool, true, false, refl, sym, subst}
use Rattle.ea_model.specs.Content.{Content}
use Rattle.ea_machine.specs.declared.stages.Stage.{Stage}
use Rattle.ea_machine.specs.declared.stages.Stage.TheVariants.{Begin, Collecting, Creating, Ended}
use Rattle.ea_machine.specs.declared.stages.Stage.TheVariants.{Fetching, Giving, Ready, Routed}
use Rattle.ea_machine.specs.declared.stages.Stage.TheVariants.{Searching, Taking}
use Rattle.ea_machine.specs.Machine.{step, step_at, stepped, wants_at}
use Rattle.ea_machine.specs.Setup.{Setup, is_scheduler}
use Rattle.ea_machine.specs.State.{State}
use Rattle.ea_machine.specs.Table.{answer, effect}
use Rattle.ea_sound.specs.Present.{Rule}
use Rattle.ea_sound.specs.Rule.{Kept}
use Rattle.ea_sound.proofs.Operating.{after-kept}
use Rattle.ea_sound.proofs.RowLeaves.{row-left}

-- what the row and the local work after it keep, a step keeps: who is no scheduler has ended
module _ (e : Setup) (w : State) (me : ℕ) (k : Kept e w) (P : State → Type 0) (same : P w)
    (stepped-holds : is_scheduler e me ≡ true → (stage : Stage Content) → stage ≢ Ended
    → (w.actors me).stage ≡ stage
    → P (stepped e w me (w.actors me) stage (wants_at (w.actors me).next stage))) where
  step_at-holds : is_scheduler e me ≡ true → (stage : Stage Content) → (w.actors me).stage ≡ stage
      → P (step_at e w me stage)
  unfolding step_at
  step_at-holds is Ended now = same
  step_at-holds is Begin now = stepped-holds is Begin (λ z. cc) now
  step_at-holds is (Routed route why gone) now =
      stepped-holds is (Routed route why gone) (λ z. cc) now
  step_at-holds is (Collecting c) now = stepped-holds is (Collecting c) (λ z. cc) now
  step_at-holds is (Searching ask n part) now =
      stepped-holds is (Searching ask n part) (λ z. cc) now
  step_at-holds is (Fetching ask n part seen) now =
      stepped-holds is (Fetching ask n part seen) (λ z. cc) now
  step_at-holds is (Creating ask p) now = stepped-holds is (Creating ask p) (λ z. cc) now
  step_at-holds is (Giving given to) now = stepped-holds is (Giving given to) (λ z. cc) now
  step_at-holds is (Taking name tries left) now =
      stepped-holds is (Taking name tries left) (λ z. cc) now
  step_at-holds is Ready now = stepped-holds is Ready (λ z. cc) now

  ended-holds : P (step_at e w me Ended)
  unfolding step_at
  ended-holds = same

  pub step-holds : P (step e w me)
  step-holds = by (is_scheduler e me) refl where
    by : (b : Bool) → is_scheduler e me ≡ b → P (step e w me)
    by true is = step_at-holds is (w.actors me).stage refl
    by false none = subst (λ stage. P (step_at e w me stage))
        (sym (k.ranges.nobody me none).stage) ended-holds

module _ (e : Setup) (w : State) (me : ℕ) (rule : Rule e w) where
  -- the row and the local work after it
  pub stepped-kept : is_scheduler e me ≡ true → (stage : Stage Content) → stage ≢ Ended
      → (w.actors me).stage ≡ stage
      → Kept e (stepped e w me (w.actors me) stage (wants_at (w.actors me).next stage))
  stepped-kept is stage goes now =
      let row = wants_at (w.actors me).next stage in
      after-kept e w (effect me row w.shared) me is (w.actors me) (answer me row w.shared) stage
      (row-left e w me is rule stage goes now)

  pub step-kept : Kept e (step e w me)
  step-kept = step-holds e w me rule.kept (Kept e) rule.kept stepped-kept
