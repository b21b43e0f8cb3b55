-- A state that keeps the rule is sound.
use Rattle.std.proofs.Common.{ℕ, inl, inr}
use Rattle.std.proofs.lemmas.Bool.{cases_Bool}
use Rattle.ea_model.specs.Trace.{IsScheduler}
use Rattle.ea_machine.specs.Setup.{Setup, is_scheduler}
use Rattle.ea_machine.specs.State.{State}
use Rattle.ea_sound.specs.Listed.{KeepsLists}
use Rattle.ea_sound.specs.Sound.{HasNothing, IsInstanceOf, Sound}
use Rattle.ea_sound.specs.Present.{Rule}
use Rattle.ea_sound.proofs.SoundLists.{sound-lists}
use Rattle.ea_sound.proofs.Created.{scheduler-number}
use Rattle.ea_sound.proofs.SoundNames.{sound-names}
use Rattle.ea_sound.proofs.SoundNodes.{sound-returning, sound-unlinked}
use Rattle.ea_sound.proofs.SoundPlaces.{sound-carriers, sound-gaps}
use Rattle.ea_sound.proofs.SoundRanges.{number-scheduler, sound-ranges}
use Rattle.ea_sound.proofs.SoundUnits.{sound-sums}

module _ (e : Setup) (w : State) (rule : Rule e w) where
  instance-of : (i : ℕ) → IsScheduler e.schedulers i → IsInstanceOf e i (w.actors i)
  instance-of i is =
      let stands = rule.kept.ranges.instances i (number-scheduler e i is) in
      record {
        settings = stands.settings;
        number = stands.number;
        first = stands.first;
        end = stands.end;
        count = stands.count;
      }

  nobody : (i : ℕ) → (IsScheduler e.schedulers i → ⊥) → HasNothing i w
  nobody i not = elim (cases_Bool (is_scheduler e i)) [
    | inl is ↦ absurd (not (scheduler-number e i is))
    | inr none ↦ rule.present.nobody i none
  ]

  pub rule-Sound : KeepsLists e w → Sound e w
  rule-Sound h = record {
    ranges = sound-ranges e w rule.kept;
    carriers = sound-carriers e w rule;
    names = sound-names e w rule;
    gaps = sound-gaps e w rule.kept;
    sums = sound-sums e w rule;
    returning = sound-returning e w rule;
    unlinked = sound-unlinked e w rule;
    lists = sound-lists e w rule h;
    instances = instance-of;
    nobody = nobody;
  }
