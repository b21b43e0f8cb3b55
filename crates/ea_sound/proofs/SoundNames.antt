-- Where names stand is told place by place.
use Rattle.std.proofs.Common.{◌≡◌, ℕ, zero, suc, ◌+◌, refl, ◌∙◌, arith}
use Rattle.ea_model.specs.declared.carriers.Spot.{Spot}
use Rattle.ea_machine.specs.Actor.{Actor}
use Rattle.ea_sound.specs.Contents.{seats}
use Rattle.ea_sound.specs.Names.{allocated, of_hand, of_named, of_node, only, only_at, standing}
use Rattle.ea_sound.specs.NamePlaces.{PlacesNames}
use Rattle.ea_machine.specs.Setup.{Setup}
use Rattle.ea_machine.specs.State.{State}
use Rattle.ea_machine.specs.Sums.{sum_over, total}
use Rattle.ea_sound.specs.Present.{Rule}
use Rattle.ea_sound.specs.Rule.{all_names}

-- the parts of a total
pub total-both : {A : Type 0} (f g : A → ℕ) (m : ℕ → A) (n : ℕ)
    → total n (λ a. f a + g a) m ≡ total n f m + total n g m
total-both f g m zero = refl
total-both f g m (suc n) = omega (arith, total-both f g m n)

module _ (e : Setup) (w : State) (f : ℕ → Spot → ℕ) where
  abbrev held_by : Actor → ℕ
  held_by a = sum_over (of_named f) a.held

  abbrev passed_by : Actor → ℕ
  passed_by a = sum_over (of_node f) a.passed

  abbrev hand_of : Actor → ℕ
  hand_of a = of_hand f a.stage

  -- all names that stand, kind by kind
  standing-all : standing e f w ≡ all_names e f w
  standing-all = omega (
    arith,
    total-both (λ a. held_by a + passed_by a) hand_of w.actors (seats e),
    total-both held_by passed_by w.actors (seats e),
  )

module _ (e : Setup) (w : State) (rule : Rule e w) where
  pub standing-allocated : (f : ℕ → Spot → ℕ) → standing e f w ≡ allocated e f w
  standing-allocated f = standing-all e w f ∙ rule.kept.names.balance f

  pub sound-names : PlacesNames e w
  sound-names = record {
    one = λ n. omega (arith, standing-allocated (only n), rule.present.later n);
    allocated = λ n p. standing-allocated (only_at n p);
    held = rule.present.held;
    given = rule.present.given;
  }
