-- That a carrier that is due is abandoned.
use Rattle.std.specs.Prelude.{◌≡◌, ◌≢◌, ℕ, true, All, List, [], ◌∷◌, ◌++◌, Some}
use Rattle.ea_model.specs.Abandonment.{is_due}
use Rattle.ea_model.specs.Content.{Content}
use Rattle.ea_model.specs.Instance.{content_of, employed, releasing_at}
use Rattle.ea_machine.specs.declared.nodes.Named.{Named}
use Rattle.ea_machine.specs.declared.stages.Route.TheVariants.{Looking}
use Rattle.ea_machine.specs.declared.stages.Stage.TheVariants.{Routed}
use Rattle.ea_machine.specs.declared.tasks.Gone.{Gone}
use Rattle.ea_machine.specs.declared.tasks.Why.{Why}
use Rattle.ea_machine.specs.Machine.{run}
use Rattle.ea_machine.specs.Owners.{Employed}
use Rattle.ea_machine.specs.Setup.{Setup}
use Rattle.ea_machine.specs.State.{State}
use Rattle.ea_machine.specs.Table.{pooled}

-- s is about to look at the carrier of a block that it is to release, of an operation or of its
-- walk, and employs that carrier. Without the block the carrier has this content, and it is due
-- among those that s employs then, by the count that s has then
pub record IsDueWithout (setup : Setup) (state : State) (s : ℕ) (x : Content) : Type 0 where
  pub block : Named
  pub why : Why
  pub gone : Gone
  pub looks : (state.actors s).stage ≡ Routed (Looking block) why gone
  pub employs : state.shared.places block.spot.carrier ≡ Employed s
  pub content : content_of (employed (releasing_at (state.actors s).instance block.spot))
      block.spot.carrier ≡ Some x
  pub due : is_due setup.settings (releasing_at (state.actors s).instance block.spot).count
      (releasing_at (state.actors s).instance block.spot).contents x ≡ true

-- then s releases the block in its next step, and with the one that follows the carrier is in the
-- pool, whatever steps others take in between
abbrev pub AbandonsIfDue : Setup → Type 0
AbandonsIfDue setup = (turns others : List ℕ) (s : ℕ) (x : Content)
    → IsDueWithout setup (run setup turns) s x → All (λ i. i ≢ s) others
    → (run setup (turns ++ s ∷ (others ++ s ∷ []))).shared.places x.number ≡ pooled s x
