-- The count of an instance is 0 where a carrier is abandoned, and never more than MOST_COUNT.
use Rattle.std.proofs.Common.{ℕ, ◌≤◌, Bool, true, false, ap, subst, arith}
use Rattle.std.specs.Prelude.{if◌then◌else◌}
use Rattle.ea_model.specs.declared.units.TheConstants.{MOST_COUNT}
use Rattle.ea_model.specs.Settings.{most_count}
use Rattle.ea_model.specs.Trace.{IsScheduler}
use Rattle.ea_machine.specs.Guards.{Guard}
use Rattle.ea_machine.specs.Rows.{Abandon}
use Rattle.ea_machine.specs.Setup.{Setup}
use Rattle.ea_machine.specs.State.{State}
use Rattle.ea_machine.specs.Statistics.{employed_multis}
use Rattle.ea_sound.specs.Counts.{AbandonsAtZero, CountsUpTo}
use Rattle.ea_sound.specs.Guarded.{IsGuarded}
use Rattle.ea_sound.specs.Present.{Rule}
use Rattle.ea_sound.proofs.Due.{due-count}
use Rattle.ea_sound.proofs.SoundRanges.{number-scheduler}

-- with the rule, and without it
most-at : (on : Bool) → (if on then MOST_COUNT else 0) ≤ MOST_COUNT
most-at true = omega arith
most-at false = omega arith

module _ (e : Setup) (w : State) where
  -- a carrier that is abandoned is due
  pub abandons-at_zero : IsGuarded e w → AbandonsAtZero e w
  abandons-at_zero guarded s x now =
      let may : Guard e s (w.actors s) w.shared (Abandon x) =
      subst (Guard e s (w.actors s) w.shared) now (guarded.guard s) in
      due-count e.settings (w.actors s).instance.count (employed_multis (w.actors s)) x may.1

  module _ (rule : Rule e w) where
    count-most : (s : ℕ) → IsScheduler e.schedulers s
        → (w.actors s).instance.count ≤ most_count e.settings
    count-most s is = (rule.kept.ranges.instances s (number-scheduler e s is)).count

    pub counts-up_to : CountsUpTo e w
    counts-up_to = record {
      most = λ s is. omega (arith, count-most s is, most-at e.settings.rules.counter);
      off = λ off s is. omega (
        arith,
        count-most s is,
        ap (λ on. if on then MOST_COUNT else 0) off,
      );
    }
