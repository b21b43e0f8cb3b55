-- Words of tests: worked entries of a log, of a block that finds no place, and of blocks that find
-- one.
use Rattle.std.specs.Prelude.{ℕ, zero, suc, ◌-◌, List, [], ◌∷◌, ◌++◌, Option, codes, IfSome}
use Rattle.std.specs.Prelude.{option_map}
use Rattle.ea_model.specs.declared.carriers.Place.{Place}
use Rattle.ea_model.specs.Entries.{Entry}
use Rattle.ea_model.specs.declared.entries.NoCarrier.{NoCarrier}
use Rattle.ea_model.specs.Words.{words}
use Rattle.ea_machine.specs.declared.owners.OwnerWord.TheVariants as word
use Rattle.ea_sound.specs.Chosen.{IsPlacement}
use Rattle.ea_sound.specs.Exhausted.{IsExhausted, seen_since}
use Rattle.ea_sound.specs.Entries.{IsDone}
use Rattle.ea_sound.specs.HandedOver.{IsQueued}
use Rattle.ea_sound.specs.Searches.{Sight, Shown}
use Rattle.ea_sound.specs.Turns.{log_after}
use Rattle.ea_trials_definitions.specs.Moments.{Moment, moment}
use Rattle.ea_trials_definitions.specs.Runs.{scheduled}
use Rattle.ea_trials_definitions.specs.Courses.{turns}

-- the region of scheduler 2 has no room beside its large block, while scheduler 1 abandons a
-- carrier that fits its next one, and empties it
abbrev pub full_region : List ℕ → Option Moment
full_region schedule = moment (words (codes "+S 2 +MMscs 1"))
    (scheduled
    (codes "type H\nscheduler 1\nalloc 1 200000\nalloc 2 100\nfree 1\nfree 2\n"
    ++ codes "scheduler 2\nalloc 4 500000\nalloc 5 100000\n") schedule)

-- one scheduler abandons its carrier, with a gap of 18 units before block 2, and a large one after
-- it
abbrev pub two_gaps : List ℕ → Option Moment
two_gaps schedule = moment []
    (scheduled
    (codes "type H\nscheduler 1\nalloc 1 130\nalloc 2 100\nfree 1\nalloc 3 100\n") schedule)

-- one scheduler abandons its carrier, and its next block is larger than the largest gap there
abbrev pub too_large : List ℕ → Option Moment
too_large schedule = moment []
    (scheduled
    (codes "type H\nscheduler 1\nalloc 1 130\nalloc 2 100\nfree 1\nalloc 3 262144\n") schedule)

-- scheduler 2 takes a block of scheduler 1, which lies in its main carrier, and frees it
abbrev pub handed_over : List ℕ → Option Moment
handed_over schedule = moment (words (codes "+S 2 +MHmmbcs 100"))
    (scheduled
    (codes "type H\nscheduler 1\nalloc 1 100\ngive 1 2\n"
    ++ codes "scheduler 2\ntake 1 1\nfree 1\n") schedule)

-- that many numbers from `at` downwards were looked at, and no carrier has them
abbrev pub absent_from : ℕ → ℕ → List Sight
absent_from at zero = []
absent_from at (suc count) = Shown at word.Absent ∷ absent_from (at - 1) count

-- a scheduler saw this in its turns among `since`, after the turns `before` and one of its own
abbrev pub sights_of : (List ℕ → Option Moment) → ℕ → (before since : List ℕ) → Option (List Sight)
sights_of run s before since = option_map
    (λ m. seen_since m.setup (turns before) s (turns since)) (run [])

-- the log of a scheduler after these turns
abbrev pub log_of : (List ℕ → Option Moment) → ℕ → List ℕ → Option (List Entry)
log_of run s after = option_map (λ m. log_after m.setup (turns after) s) (run [])

-- the entry that s makes in its step after these turns says that its block found no place, and that
-- is so
abbrev pub FindsNone : (List ℕ → Option Moment) → List ℕ → ℕ → Entry → ℕ → ℕ → NoCarrier → Type 0
FindsNone run after s x need looked why =
    IfSome (run []) (λ m. IsExhausted m.setup (turns after) s x need looked why)

-- the block of this name for which s makes the entry in its step after these turns was placed
-- there, as it is to be
abbrev pub FindsPlace : (List ℕ → Option Moment) → List ℕ → ℕ → ℕ → Place → Type 0
FindsPlace run after s name place =
    IfSome (run []) (λ m. IsPlacement m.setup (turns after) s name place)

-- the block of this name for which s makes the entry in its step after these turns went to the
-- queue of the employer of its carrier
abbrev pub GoesTo : (List ℕ → Option Moment) → List ℕ → ℕ → ℕ → ℕ → Type 0
GoesTo run after s name to =
    IfSome (run []) (λ m. IsQueued m.setup (turns after) s name to)

-- s released it itself
abbrev pub StaysHere : (List ℕ → Option Moment) → List ℕ → ℕ → ℕ → Type 0
StaysHere run after s name = IfSome (run []) (λ m. IsDone m.setup (turns after) s name)

-- a place in a carrier
abbrev pub place : ℕ → ℕ → ℕ → Place
place carrier offset size = record { carrier = carrier; offset = offset; size = size }
