-- Answers that never come.
use Rattle.std.specs.Prelude.{◌≡◌, ◌≢◌, ℕ, ◌+◌, ◌<◌, true, []}
use Rattle.ea_model.specs.declared.carriers.Spot.{Spot}
use Rattle.ea_model.specs.Content.{Content}
use Rattle.ea_machine.specs.declared.asks.Ask.{Ask}
use Rattle.ea_machine.specs.declared.parts.Part.{Part}
use Rattle.ea_sound.specs.Listed.{IsAwayFrom, is_by_list}
use Rattle.ea_machine.specs.declared.owners.OwnerWord.{OwnerWord}
use Rattle.ea_machine.specs.declared.owners.OwnerWord.TheVariants as word
use Rattle.ea_machine.specs.declared.nodes.Named.{Named}
use Rattle.ea_machine.specs.Owners.{Returning}
use Rattle.ea_machine.specs.Setup.{Setup}
use Rattle.ea_machine.specs.declared.stages.Stage.TheVariants.{Collecting, Ended, Ready, Routed}
use Rattle.ea_machine.specs.declared.stages.Stage.TheVariants.{Searching}
use Rattle.ea_machine.specs.declared.stages.Route.TheVariants.{Looking, Trying}
use Rattle.ea_machine.specs.declared.tasks.Why.{Why}
use Rattle.ea_machine.specs.declared.tasks.Gone.{Gone}
use Rattle.ea_machine.specs.State.{State}
use Rattle.ea_machine.specs.Rows.{Lost, Saw}
use Rattle.ea_machine.specs.Sums.{sum_over}
use Rattle.ea_sound.specs.Names.{allocated, of_hand, of_node, only_at}
use Rattle.ea_sound.specs.Turns.{answered}

-- the owner word names an employer of the carrier, for which it isn't busy if that is me
abbrev pub NamesEmployer : ℕ → OwnerWord → Type 0
NamesEmployer me word.Absent = ⊥
NamesEmployer me (word.Employed i) = Unit {0}
NamesEmployer me (word.Pooled i largest) = Unit {0}
NamesEmployer me (word.Busy i) = i ≢ me
NamesEmployer me (word.Returning i) = ⊥

-- it names another employer than me
abbrev pub NamesAnother : ℕ → OwnerWord → Type 0
NamesAnother me word.Absent = ⊥
NamesAnother me (word.Employed i) = i ≢ me
NamesAnother me (word.Pooled i largest) = i ≢ me
NamesAnother me (word.Busy i) = i ≢ me
NamesAnother me (word.Returning i) = ⊥

-- how often a scheduler has that block in a node that its walk passed, or in its hand
abbrev pub on_its_way : ℕ → Spot → State → ℕ → ℕ
on_its_way name spot state s =
    sum_over (of_node (only_at name spot)) (state.actors s).passed
    + of_hand (only_at name spot) (state.actors s).stage

-- a look at the carrier of a block in the hand shows an employer, and not that it is busy for the
-- one who looks; a lost try to make it busy shows another employer; a block that is worked off is
-- at its spot; a carrier that is collected has returned. So no scheduler ends before its text does,
-- and none rests where an operation is to begin
pub record HearsNoOther (setup : Setup) (state : State) : Type 0 where
  pub looks : (s : ℕ) (hand : Named) (why : Why) (gone : Gone) (seen : OwnerWord)
      → (state.actors s).stage ≡ Routed (Looking hand) why gone → answered state s ≡ Saw seen
      → NamesEmployer s seen
  pub tries : (s : ℕ) (hand : Named) (tried : OwnerWord) (why : Why) (gone : Gone)
      (present : OwnerWord) → (state.actors s).stage ≡ Routed (Trying hand tried) why gone
      → answered state s ≡ Lost present → NamesAnother s present
  pub blocks : (s name : ℕ) (spot : Spot) → 0 < on_its_way name spot state s
      → allocated setup (only_at name spot) state ≡ 1
  pub collected : (s number : ℕ) → (state.actors s).stage ≡ Collecting number
      → (x : Content) × (state.shared.places number ≡ Returning s x)
  pub ended : (s : ℕ) → (state.actors s).stage ≡ Ended → (state.actors s).todo ≡ []
  pub resting : (s : ℕ) → (state.actors s).stage ≢ Ready

-- a look of the first two parts of a search shows a carrier that is there, and that the one who
-- looks doesn't employ
abbrev pub FindsOwn : Setup → State → Type 0
FindsOwn setup state = (s at : ℕ) (ask : Ask) (part : Part) (seen : OwnerWord)
    → (state.actors s).stage ≡ Searching ask at part → is_by_list part ≡ true
    → answered state s ≡ Saw seen → IsAwayFrom s seen
