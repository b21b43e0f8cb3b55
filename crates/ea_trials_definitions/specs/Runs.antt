-- Words of tests: the worked runs, with their words and operations, each by the turns of its
-- schedule.
use Rattle.std.specs.Prelude.{ℕ, true, false, List, [], ◌++◌, Option, codes}
use Rattle.ea_model.specs.declared.carriers.BlockAt.{BlockAt}
use Rattle.ea_model.specs.declared.carriers.Kind.TheVariants.{Multi}
use Rattle.ea_model.specs.declared.carriers.Totals.{Totals}
use Rattle.ea_model.specs.Content.{Content}
use Rattle.ea_model.specs.Words.{words}
use Rattle.ea_machine.specs.Lists.{Lists}
use Rattle.ea_machine.specs.declared.nodes.Node.{Node}
use Rattle.ea_machine.specs.declared.nodes.Node.TheVariants.{Block}
use Rattle.ea_machine.specs.Nodes.{Mark}
use Rattle.ea_machine.specs.declared.nodes.Named.{Named}
use Rattle.ea_trials_definitions.specs.Moments.{Moment, moment}

-- the operations, and a schedule of these turns
abbrev pub scheduled : List ℕ → List ℕ → List ℕ
scheduled operations turns = operations ++ codes "schedule\n" ++ turns ++ codes "\nend\n"

-- one scheduler abandons its carrier, and fetches it for a third block
abbrev pub abandon_and_fetch : List ℕ → Option Moment
abandon_and_fetch turns = moment []
    (scheduled
    (codes "type H\nscheduler 1\nalloc 1 100\nalloc 2 100\nfree 1\nalloc 3 100\n") turns)

-- one scheduler abandons its carrier, and reallocates the block that is left in it
abbrev pub moved_block : List ℕ → Option Moment
moved_block turns = moment []
    (scheduled
    (codes "type H\nscheduler 1\nalloc 1 100\nalloc 2 100\nfree 1\nrealloc 2 3 200\n") turns)

-- a block with a carrier of its own is freed
abbrev pub single_block : List ℕ → Option Moment
single_block turns = moment []
    (scheduled (codes "type H\nscheduler 1\nalloc 1 600000\nfree 1\n") turns)

-- scheduler 1 abandons its carrier, scheduler 2 fetches it, and block 2 is freed by scheduler 1
abbrev pub returned_carrier : List ℕ → Option Moment
returned_carrier turns = moment (words (codes "+S 2"))
    (scheduled
    (codes "type H\nscheduler 1\nalloc 1 100\nalloc 2 100\nfree 1\nfree 2\nidle\n"
    ++ codes "scheduler 2\nalloc 3 100\nfree 3\n") turns)

-- scheduler 1 frees blocks 1 and 3 of three; scheduler 2 needs a place
abbrev pub pooled_twice : List ℕ → Option Moment
pooled_twice turns = moment (words (codes "+S 2"))
    (scheduled
    (codes "type H\nscheduler 1\nalloc 1 100\nalloc 2 100\nalloc 3 100\nfree 1\nfree 3\n"
    ++ codes "scheduler 2\nalloc 4 100\n") turns)

-- scheduler 1 gives block 2 to scheduler 3, which frees it, while scheduler 2 fetches its carrier
abbrev pub forwarded_block : List ℕ → Option Moment
forwarded_block turns = moment (words (codes "+S 3"))
    (scheduled
    (codes "type H\nscheduler 1\nalloc 1 100\nalloc 2 100\ngive 2 3\nfree 1\nidle\n"
    ++ codes "scheduler 2\nalloc 3 100\nidle\nscheduler 3\ntake 2 1\nfree 2\n") turns)

-- schedulers 2 and 3 both want the carrier that scheduler 1 abandoned
abbrev pub fetched_once : List ℕ → Option Moment
fetched_once turns = moment (words (codes "+S 3"))
    (scheduled
    (codes "type H\nscheduler 1\nalloc 1 100\nalloc 2 100\nfree 1\n"
    ++ codes "scheduler 2\nalloc 3 100\nscheduler 3\nalloc 4 100\n") turns)

-- both schedulers have a main carrier, and scheduler 1 nearly empties its own
abbrev pub main_carriers : List ℕ → Option Moment
main_carriers turns = moment (words (codes "+S 2 +MHmmbcs 100"))
    (scheduled
    (codes "type H\nscheduler 1\nalloc 1 100\nalloc 2 100\nfree 1\nfree 2\nscheduler 2\n") turns)

-- without migration, schedulers 2 and 3 free a block of scheduler 1 each
abbrev pub two_freed : List ℕ → Option Moment
two_freed turns = moment (words (codes "+S 3 +MHacul 0"))
    (scheduled
    (codes "type H\nscheduler 1\nalloc 1 100\nalloc 2 100\ngive 1 2\ngive 2 3\nidle\nidle\n"
    ++ codes "scheduler 2\ntake 1 1\nfree 1\nscheduler 3\ntake 2 1\nfree 2\n") turns)

-- scheduler 2 frees two blocks of scheduler 1, whose carrier is sparse
abbrev pub two_in_the_queue : List ℕ → Option Moment
two_in_the_queue turns = moment (words (codes "+S 2"))
    (scheduled
    (codes "type H\nscheduler 1\nalloc 1 100\nalloc 2 100\nalloc 3 100\ngive 1 2\ngive 2 2\n"
    ++ codes "idle\nscheduler 2\ntake 1 1\ntake 2 1\nfree 1\nfree 2\n") turns)

-- scheduler 1 abandons its carrier and needs a place again; scheduler 2 fetches the carrier, and
-- abandons it too
abbrev pub own_carrier : List ℕ → Option Moment
own_carrier turns = moment (words (codes "+S 2"))
    (scheduled
    (codes "type H\nscheduler 1\nalloc 1 100\nalloc 2 100\nfree 1\nalloc 4 100\n"
    ++ codes "scheduler 2\nalloc 3 100\nfree 3\n") turns)

-- one scheduler abandons two carriers of a page, and needs a place for that many bytes
abbrev pub two_pooled : List ℕ → List ℕ → Option Moment
two_pooled bytes turns = moment (words (codes "+MHacul 100 +MHsmbcs 4 +MHlmbcs 4"))
    (scheduled
    (codes "type H\nscheduler 1\nalloc 1 3000\nalloc 2 1000\nalloc 3 2000\nalloc 4 2000\n"
    ++ codes "free 2\nfree 3\nalloc 5 " ++ bytes ++ codes "\n") turns)

-- one scheduler abandons its carrier, and stops before it fetches it back
abbrev pub stopped_before_fetch : List ℕ → Option Moment
stopped_before_fetch turns = moment []
    (scheduled
    (codes "type H\nscheduler 1\nalloc 1 100\nalloc 2 100\nfree 1\nalloc 3 100\nstop 1 1032\n")
    turns)

-- scheduler 1 stops while its carrier is busy; scheduler 2 needs a place
abbrev pub stopped_while_busy : List ℕ → Option Moment
stopped_while_busy turns = moment (words (codes "+S 2"))
    (scheduled
    (codes "type H\nscheduler 1\nalloc 1 100\nalloc 2 100\nalloc 3 100\nfree 1\nfree 3\n"
    ++ codes "scheduler 2\nalloc 4 100\nstop 1 2058\n") turns)

-- without migration, scheduler 2 stops with a node that it pushed and didn't link
abbrev pub stopped_before_link : List ℕ → Option Moment
stopped_before_link turns = moment (words (codes "+S 2 +MHacul 0"))
    (scheduled
    (codes "type H\nscheduler 1\nalloc 1 100\ngive 1 2\nidle\n"
    ++ codes "scheduler 2\ntake 1 1\nfree 1\nstop 2 4\n") turns)

-- lists of these own carriers
abbrev pub listed : (pooled traitors : List ℕ) → Lists
listed pooled traitors = record { pooled = pooled; traitors = traitors }

-- block `name` lies in carrier 1, from that offset on
abbrev pub named : ℕ → ℕ → Named
named name offset = record { name = name; spot = record { carrier = 1; offset = offset } }

abbrev pub block : ℕ → ℕ → Node
block name offset = Block name (record { carrier = 1; offset = offset })

-- a node that is linked
abbrev pub linked : Node → Mark
linked node = record { node = node; linked = true }

-- a node that isn't linked yet
abbrev pub unlinked : Node → Mark
unlinked node = record { node = node; linked = false }

-- a block of 100 bytes has 14 units
abbrev pub usual : ℕ → ℕ → BlockAt
usual name offset = record { name = name; offset = offset; size = 14 }

-- carrier 1 with these blocks: scheduler 1's first, the smallest, at the front of its region
abbrev pub carrier_with : List BlockAt → Content
carrier_with blocks = record {
  number = 1;
  owner = 1;
  base = 0;
  birth = 1;
  units = 32768;
  kind = Multi;
  blocks = blocks;
}

-- the sums over carrier 1 alone
abbrev pub sums_of : ℕ → ℕ → ℕ → Totals
sums_of live queued free = record {
  carriers = 1;
  units = 32768;
  live = live;
  queued = queued;
  free = free;
  header = 8;
}
