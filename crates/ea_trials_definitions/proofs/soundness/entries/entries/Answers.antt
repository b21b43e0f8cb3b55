use Rattle.std.proofs.Common.{refl, true, false, codes, Some, None, [], ◌∷◌, ◌++◌, ap, ◌∙◌, arith}
use Rattle.ea_model.specs.declared.entries.Entry.TheVariants as entry
use Rattle.ea_model.specs.declared.entries.NoCarrier.TheVariants.{Space}
use Rattle.ea_model.specs.Instance.{unused_from}
use Rattle.ea_machine.specs.declared.owners.OwnerWord.TheVariants as word
use Rattle.ea_machine.specs.Table.{answer, effect}
use Rattle.ea_machine.specs.Machine.{after, run, step_at}
use Rattle.ea_trials_definitions.specs.Runs.{named}
use Rattle.ea_trials_definitions.specs.Courses.{turns}
use Rattle.ea_trials_definitions.specs.Entries.{absent_from, full_region, handed_over, place, too_large}
use Rattle.ea_trials_definitions.specs.Entries.{two_gaps}
use Rattle.ea_trials_definitions.proofs.Placed.{asked, created-placement}
use Rattle.ea_trials_definitions.proofs.Placed.{single-placement}
use Rattle.ea_trials_definitions.proofs.Setups.{full_instance, full_setup, gaps_setup, handed_setup}
use Rattle.ea_trials_definitions.proofs.Setups.{large_setup}
use Rattle.ea_trials_definitions.proofs.Setups.{moving_setup, under-setup}
use Rattle.ea_trials_definitions.proofs.Exhausted.{exhausted}
use Rattle.ea_sound.specs.Exhausted.{IsExhausted}
use Rattle.ea_sound.specs.Searches.{Missed, Shown}
use Rattle.ea_trials_definitions.specs.WorkedCourses.{moved_away, named_in}
use Rattle.ea_sound.specs.Chosen.{IsPlacement}
use Rattle.ea_sound.specs.Entries.{IsDone}
use Rattle.ea_sound.specs.HandedOver.{HasHeld, IsQueued}
use Rattle.ea_sound.specs.Shown.{Employs, Looks, SeesEmployer}
use Rattle.ea_sound.specs.Turns.{log_after}
use Rattle.ea_machine.specs.declared.tasks.Task.TheVariants.{Freeing}
use Rattle.ea_trials_definitions.proofs.Fetching.{fetched-placed}
use Rattle.ea_trials_definitions.proofs.Handed.{queued, released, was_held}
use Rattle.ea_trials_definitions.proofs.Parts.{of-setup, own-and-pool}
use Rattle.ea_sound.specs.Exhausted.{seen_since}
use Rattle.ea_trials_definitions.proofs.soundness.entries.entries.Goals as goal

pub returns-clause-sights : goal.returns-clause-sights
unfolding unused_from answer effect after step_at
returns-clause-sights c = refl

pub returns-clause-sights_of_own_and_pool : goal.returns-clause-sights_of_own_and_pool
unfolding unused_from answer effect after step_at
returns-clause-sights_of_own_and_pool c =
    of-setup (λ setup. seen_since setup (turns (codes "1*1030")) 1 (turns (codes "1*5")))
    large_setup (too_large []) refl ∙ ap Some own-and-pool

pub returns-clause-failed : goal.returns-clause-failed
unfolding unused_from answer effect after step_at
returns-clause-failed c = refl

pub returns-clause-exhausted : goal.returns-clause-exhausted
unfolding unused_from answer effect after step_at
returns-clause-exhausted c = under-setup
    (λ setup. IsExhausted setup (turns (codes "1*2054 2*2050 2*2049 1*3")) 2
    (entry.AllocFail 5 12502 1 Space) 12502 1 Space)
    full_setup (full_region []) refl
    (exhausted full_setup (turns (codes "1*2054 2*2050 2*2049 1*3")) 2
    (entry.AllocFail 5 12502 1 Space) 12502 1 Space (turns (codes "1*2054 2*2050"))
    (turns (codes "2*2048 1*3 2"))
    (absent_from 2048 1023 ++ Shown 1025 (word.Employed 2) ∷ absent_from 1024 1023
    ++ Shown 1 (word.Pooled 1 25002) ∷ Missed 1 (word.Busy 1) ∷ [])
    (entry.Alloc 4 (place 1025 8 62502) ∷ []) full_instance (named_in 1025 4 8 ∷ []) refl refl refl
    refl refl refl (omega arith) refl refl refl refl refl refl refl refl refl refl refl refl)

pub returns-clause-in_a_fetched_carrier : goal.returns-clause-in_a_fetched_carrier
unfolding unused_from answer effect after step_at
returns-clause-in_a_fetched_carrier c = under-setup
    (λ setup. IsPlacement setup (turns (codes "1*1032")) 1 3 (place 1 8 18)) gaps_setup
    (two_gaps []) refl fetched-placed

pub returns-clause-in_a_new_carrier : goal.returns-clause-in_a_new_carrier
unfolding unused_from answer effect after step_at
returns-clause-in_a_new_carrier c = under-setup
    (λ setup. IsPlacement setup (turns (codes "1*2054 2*2050 1*2051 1*3 2*4")) 1 4 (place 2 8 26))
    moving_setup (moved_away []) refl
    (created-placement moving_setup (turns (codes "1*2054 2*2050 1*2051 1*3 2*4")) 1 4
    (place 2 8 26) (turns (codes "1*2054 2*2050 1*2051")) (turns (codes "1*2 2*4 1"))
    (entry.Alloc 1 (place 1 8 14) ∷ entry.Alloc 2 (place 1 22 14) ∷ entry.Free 1 ∷ [])
    (record { name = 4; need = 26; old = Some (named 2 22) })
    (record { number = 2; base = 64; pages = 64; birth = 2; single = false })
    (record { carrier = 2; offset = 8 }) refl refl refl refl (omega arith)
    (asked moving_setup _ (turns (codes "1*2054 2*2050")) (turns (codes "1*2051")) 1 26
    (entry.Alloc 1 (place 1 8 14) ∷ entry.Alloc 2 (place 1 22 14) ∷ entry.Free 1 ∷ []) _ refl refl
    (refl, refl) refl refl) refl refl refl refl
    refl refl refl)

pub returns-clause-in_a_carrier_of_its_own : goal.returns-clause-in_a_carrier_of_its_own
unfolding unused_from answer effect after step_at
returns-clause-in_a_carrier_of_its_own c = single-placement _ _ _ _
    (record { name = 1; need = 75002; old = None })
    (record { number = 1; base = 0; pages = 147; birth = 1; single = true }) refl (omega arith)
    (asked _ _ [] (1 ∷ []) 1 75002 [] _ refl refl refl refl refl) refl refl refl refl refl

-- the block that scheduler 2 frees
taken-held : HasHeld handed_setup (turns (codes "1*3 2*5") ++ 2 ∷ []) 2 1 (named 1 8)
    (log_after handed_setup (turns (codes "1*3 2*5")) 2)
unfolding unused_from answer effect after step_at
taken-held = was_held handed_setup _ (turns (codes "1*3 2*2")) (turns (codes "2*3")) 2 1
    (named 1 8) (entry.Take 1 ∷ []) _ refl refl refl refl refl

-- its carrier is employed by scheduler 1
taken-seen : SeesEmployer 2 (named 1 8) 1 (run handed_setup (turns (codes "1*3 2*3")))
unfolding unused_from answer effect after step_at
taken-seen = Looks (Freeing 1) (word.Employed 1) refl refl refl

taken-queued : IsQueued handed_setup (turns (codes "1*3 2*5")) 2 1 1
unfolding unused_from answer effect after step_at
taken-queued = queued handed_setup (turns (codes "1*3 2*5")) 2 1 1 (named 1 8)
    (entry.Take 1 ∷ []) (turns (codes "1*3 2*4")) (turns (codes "2"))
    (turns (codes "1*3 2*3")) (turns (codes "2*2")) refl (omega arith, omega arith) (omega arith)
    refl taken-held refl refl refl refl refl taken-seen

pub returns-clause-to_the_employer : goal.returns-clause-to_the_employer
unfolding unused_from answer effect after step_at
returns-clause-to_the_employer c = under-setup
    (λ setup. IsQueued setup (turns (codes "1*3 2*5")) 2 1 1) handed_setup (handed_over []) refl
    taken-queued

-- the block that the one scheduler frees
freed-held : HasHeld gaps_setup (turns (codes "1*1029") ++ 1 ∷ []) 1 1 (named 1 8)
    (log_after gaps_setup (turns (codes "1*1029")) 1)
unfolding unused_from answer effect after step_at
freed-held = was_held gaps_setup _ (turns (codes "1*1027")) (turns (codes "1*2")) 1 1 (named 1 8)
    (entry.Alloc 1 (place 1 8 18) ∷ entry.Alloc 2 (place 1 26 14) ∷ []) _ refl refl refl refl refl

freed-done : IsDone gaps_setup (turns (codes "1*1029")) 1 1
unfolding unused_from answer effect after step_at
freed-done = released gaps_setup (turns (codes "1*1029")) 1 1 (named 1 8)
    (entry.Alloc 1 (place 1 8 18) ∷ entry.Alloc 2 (place 1 26 14) ∷ [])
    (turns (codes "1*1028")) (turns (codes "1")) refl refl refl freed-held refl refl
    (Employs (Freeing 1) refl refl)

pub returns-clause-by_itself : goal.returns-clause-by_itself
unfolding unused_from answer effect after step_at
returns-clause-by_itself c = under-setup (λ setup. IsDone setup (turns (codes "1*1029")) 1 1)
    gaps_setup (two_gaps []) refl freed-done
