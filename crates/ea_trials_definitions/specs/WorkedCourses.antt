-- Words of tests: worked runs from a moment on, and what occurs in each.
use Rattle.std.specs.Prelude.{ℕ, List, [], ◌∷◌, ◌++◌, Option, codes}
use Rattle.ea_model.specs.declared.carriers.OwnCarrier.{OwnCarrier}
use Rattle.ea_model.specs.Words.{words}
use Rattle.ea_machine.specs.declared.nodes.Named.{Named}
use Rattle.ea_trials_definitions.specs.Moments.{Moment, moment}
use Rattle.ea_trials_definitions.specs.Runs.{forwarded_block, named, own_carrier, pooled_twice}
use Rattle.ea_trials_definitions.specs.Runs.{returned_carrier, scheduled, two_freed}
use Rattle.ea_trials_definitions.specs.Counts.{Seen}
use Rattle.ea_trials_definitions.specs.Courses.{Course, from}

-- block `name` lies in that carrier, from that offset on
abbrev pub named_in : ℕ → ℕ → ℕ → Named
named_in carrier name offset = record {
  name = name;
  spot = record { carrier = carrier; offset = offset };
}

-- a carrier has that base and these pages
abbrev pub own : ℕ → ℕ → ℕ → OwnCarrier
own number base pages = record { number = number; base = base; pages = pages }

-- these names, and carrier 1 alone
abbrev pub in_one_carrier : List Named → Seen
in_one_carrier names = record { names = names; own = own 1 0 64 ∷ [] }

-- scheduler 1 abandons its carrier; scheduler 2 fetches it, empties it and sends it home
abbrev pub returning : Option Course
returning = from (returned_carrier (codes "1*2052 2*2048")) (codes "1*2 2*2 1*4 2*10 1*4 2")

abbrev pub seen_returning : Seen
seen_returning = in_one_carrier (named 1 8 ∷ named 2 22 ∷ named 3 8 ∷ [])

-- scheduler 1 moves block 2 out of a carrier that scheduler 2 has fetched
abbrev pub moved_away : List ℕ → Option Moment
moved_away turns = moment (words (codes "+S 2"))
    (scheduled
    (codes "type H\nscheduler 1\nalloc 1 100\nalloc 2 100\nfree 1\nrealloc 2 4 200\nidle\n"
    ++ codes "scheduler 2\nalloc 3 100\nfree 3\nidle\n") turns)

-- it searches in vain before that. The old block is queued to scheduler 2, whose walk rests at it
-- until it is linked
abbrev pub moving : Option Course
moving = from (moved_away (codes "1*2054 2*2050")) (codes "1*2054 2*4 1 2*5 1 2 1*2 2*2")

abbrev pub seen_moving : Seen
seen_moving = record {
  names = named 1 8 ∷ named 2 22 ∷ named 3 8 ∷ named_in 2 4 8 ∷ [];
  own = own 1 0 64 ∷ own 2 64 64 ∷ [];
}

-- scheduler 1 looks for its carrier, which scheduler 2 has fetched; scheduler 2 abandons it before
-- the second look
abbrev pub fetching_back : Option Course
fetching_back = from (own_carrier (codes "1*2052 2*2048")) (codes "1*2 2*2 1*2 2*3 1*2 2")

abbrev pub seen_fetching_back : Seen
seen_fetching_back = in_one_carrier
    (named 1 8 ∷ named 2 22 ∷ named 3 8 ∷ named 4 8 ∷ [])

-- scheduler 2 is to fetch the carrier of scheduler 1, which makes it busy before that
abbrev pub made_busy : Option Course
made_busy = from (pooled_twice (codes "1*2055 2*2049")) (codes "1*3 2 1 2*2 1")

abbrev pub seen_busy : Seen
seen_busy = record {
  names = named 1 8 ∷ named 2 22 ∷ named 3 36 ∷ named_in 1025 4 8 ∷ [];
  own = own 1 0 64 ∷ own 1025 8192 64 ∷ [];
}

-- scheduler 2 fetches it before scheduler 1 makes it busy, and ends at a node that isn't linked
abbrev pub fetched_first : Option Course
fetched_first = from (pooled_twice (codes "1*2055 2*2049")) (codes "1*2 2 1*2 2*2 1*2")

abbrev pub seen_fetched : Seen
seen_fetched = in_one_carrier (named 1 8 ∷ named 2 22 ∷ named 3 36 ∷ named 4 8 ∷ [])

-- block 2 is given, freed by scheduler 3, queued to scheduler 1, and forwarded to scheduler 2
abbrev pub forwarding : Option Course
forwarding = from (forwarded_block (codes "1*3075")) (codes "1*5 3*4 2*3074 3*2 1*5 2*4 1 2 3")

abbrev pub seen_forwarding : Seen
seen_forwarding = in_one_carrier (named 1 8 ∷ named 2 22 ∷ named 3 8 ∷ [])

-- without migration, schedulers 2 and 3 free a block of scheduler 1 each, whose walk rests
abbrev pub resting : Option Course
resting = from (two_freed (codes "")) (codes "1*6 2*4 3*5 1*3 2 1*2 2 3")

abbrev pub seen_resting : Seen
seen_resting = in_one_carrier (named 1 8 ∷ named 2 22 ∷ [])

-- both schedulers have a main carrier. Scheduler 1 has large blocks, in carriers of their own, and
-- gives block 1 to scheduler 2, which moves it
abbrev pub large_blocks : List ℕ → List ℕ → Option Moment
large_blocks flags turns = moment (words (codes "+S 2 +MHmmbcs 100 " ++ flags))
    (scheduled
    (codes "type H\nscheduler 1\nalloc 1 100\nalloc 2 600000\ngive 1 2\nrealloc 2 4 700000\n"
    ++ codes "realloc 4 6 690000\nfree 6\nidle\n"
    ++ codes "scheduler 2\ntake 1 3\nrealloc 1 5 200\nfree 5\n") turns)

-- with migration, and without
abbrev pub large_migrating : Option Course
large_migrating = from (large_blocks (codes "") (codes ""))
    (codes "1*3 2*2 1*2 2*4 1*2 2 1*10 2*3")

abbrev pub large_fixed : Option Course
large_fixed = from (large_blocks (codes "+MHacul 0") (codes ""))
    (codes "1*2 2*2 1*2 2*3 1*2 2 1*4 2*2")

abbrev pub seen_large : Seen
seen_large = record {
  names = named 1 8 ∷ named_in 2 2 8 ∷ named_in 3 4 8 ∷ named_in 1025 5 8 ∷ named_in 3 6 8 ∷ [];
  own = own 1 0 25 ∷ own 2 25 147 ∷ own 3 172 171 ∷ own 1025 8192 25 ∷ [];
}
