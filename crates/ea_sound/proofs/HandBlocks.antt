-- The block in the hand of a scheduler: it is allocated, and where carriers migrate its carrier has
-- an employer.
use Rattle.std.proofs.Common.{◌≡◌, ℕ, ◌≤◌, true, refl, ap, ◌∙◌, arith}
use Rattle.ea_model.specs.declared.carriers.Spot.{Spot}
use Rattle.ea_model.specs.Content.{Content}
use Rattle.ea_machine.specs.declared.stages.Stage.{Stage}
use Rattle.ea_sound.specs.Contents.{hand_sum}
use Rattle.ea_sound.specs.Names.{allocated, of_hand, only_at}
use Rattle.ea_machine.specs.declared.nodes.Named.{Named}
use Rattle.ea_model.specs.Instance.{owner_of}
use Rattle.ea_sound.specs.Places.{has_number, none}
use Rattle.ea_machine.specs.Setup.{Setup, is_scheduler, migration}
use Rattle.ea_machine.specs.State.{State}
use Rattle.ea_sound.specs.Present.{HasEmployer}
use Rattle.ea_sound.specs.Rule.{Kept}
use Rattle.ea_sound.proofs.BlockWeights.{only_at-itself}
use Rattle.ea_sound.proofs.Hits.{stands-allocated}
use Rattle.ea_sound.proofs.Numbered.{scheduler-seat}
use Rattle.ea_sound.proofs.StandingBlocks.{block-employer, block-owner}

module _ (e : Setup) (w : State) (k : Kept e w) (me : ℕ) (is : is_scheduler e me ≡ true)
    (hand : Named) (stage : Stage Content) (now : (w.actors me).stage ≡ stage)
    (names : (f : ℕ → Spot → ℕ) → of_hand f stage ≡ f hand.name hand.spot) where
  hand-allocated : 1 ≤ allocated e (only_at hand.name hand.spot) w
  hand-allocated =
      let f = only_at hand.name hand.spot in
      omega (
        arith,
        stands-allocated e w me (scheduler-seat e me is) k (w.actors me) refl f,
        ap (of_hand f) now,
        names f,
        only_at-itself hand.name hand.spot,
      )

  pub hand-owner : is_scheduler e (owner_of hand.spot.carrier) ≡ true
  hand-owner = block-owner e w k hand.name hand.spot hand-allocated

  pub hand-employer : ((b h : Content → ℕ) → hand_sum b h stage ≡ 0) → migration e ≡ true
      → HasEmployer me (w.shared.places hand.spot.carrier)
  hand-employer bare on = block-employer e w k hand.name hand.spot hand-allocated on me
      (ap (hand_sum (has_number hand.spot.carrier) none) now
      ∙ bare (has_number hand.spot.carrier) none)
