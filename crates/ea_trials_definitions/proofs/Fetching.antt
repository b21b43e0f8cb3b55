-- The worked block that is placed in a carrier of its scheduler's own, which was fetched back.
use Rattle.std.proofs.Common.{refl, None, [], ◌∷◌, ◌++◌, codes, arith}
use Rattle.ea_model.specs.declared.entries.Entry.TheVariants as entry
use Rattle.ea_model.specs.Instance.{unused_from}
use Rattle.ea_machine.specs.declared.owners.OwnerWord.TheVariants as word
use Rattle.ea_machine.specs.declared.parts.Part.TheVariants.{Own}
use Rattle.ea_machine.specs.Table.{answer, effect}
use Rattle.ea_machine.specs.Machine.{after, step_at}
use Rattle.ea_sound.specs.Chosen.{HasAsked, IsPlacement}
use Rattle.ea_sound.specs.FirstFits.{IsFirstFit}
use Rattle.ea_sound.specs.Turns.{log_after}
use Rattle.ea_trials_definitions.specs.Runs.{carrier_with, usual}
use Rattle.ea_trials_definitions.specs.Courses.{turns}
use Rattle.ea_trials_definitions.specs.Entries.{place}
use Rattle.ea_trials_definitions.proofs.Placed.{asked, fetched-placement, first_fit}
use Rattle.ea_trials_definitions.proofs.Setups.{gaps_setup}

-- each is a declaration of its own, since the run is computed for each of its equations
fetched-asked : HasAsked gaps_setup (turns (codes "1*1032") ++ 1 ∷ []) 1 14
    (log_after gaps_setup (turns (codes "1*1032")) 1)
unfolding unused_from answer effect after step_at
fetched-asked = asked gaps_setup _ (turns (codes "1*1030")) (turns (codes "1*2")) 1 14
    (entry.Alloc 1 (place 1 8 18) ∷ entry.Alloc 2 (place 1 26 14) ∷ entry.Free 1 ∷ []) _ refl refl
    refl refl refl

fetched-first : IsFirstFit gaps_setup (turns (codes "1*1032")) 1 14 1 (word.Pooled 1 32728)
unfolding unused_from answer effect after step_at
fetched-first = first_fit gaps_setup _ (turns (codes "1*1030")) (turns (codes "1")) 1 14 1
    (word.Pooled 1 32728) []
    (entry.Alloc 1 (place 1 8 18) ∷ entry.Alloc 2 (place 1 26 14) ∷ entry.Free 1 ∷ []) refl refl
    refl refl refl refl refl (refl, refl) refl refl refl

pub fetched-placed : IsPlacement gaps_setup (turns (codes "1*1032")) 1 3 (place 1 8 18)
unfolding unused_from answer effect after step_at
fetched-placed = fetched-placement gaps_setup _ 1 3 (place 1 8 18)
    (record { name = 3; need = 14; old = None }) 1 (Own 1) (word.Pooled 1 32728)
    (carrier_with (usual 2 26 ∷ [])) (record { carrier = 1; offset = 8 }) (omega arith)
    fetched-asked refl refl refl refl fetched-first refl refl refl refl refl
