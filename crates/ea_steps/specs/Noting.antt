-- What is added to a note of what a step can touch (`Adds`): the blocks of names, and carriers, as
-- far as they are there; and of which names, by what is told of the step's row and of its answer.
-- This simulator's own: the sources do not speak of it.
use Rattle.std.specs.Prelude.{◌≡◌, ℕ, Bool, true, false, List, [], ◌∷◌, ◌++◌, Option, None, Some}
use Rattle.std.specs.Prelude.{filter, flat_map, is_some}
use Rattle.ea_machine.specs.declared.nodes.Named.{Named}
use Rattle.ea_machine.specs.declared.nodes.Node.{Node}
use Rattle.ea_machine.specs.Actor.{Actor}
use Rattle.ea_machine.specs.Setup.{Setup}
use Rattle.ea_machine.specs.State.{State}
use Rattle.ea_shared.specs.declared.link.Link.{Link}
use Rattle.ea_shared.specs.declared.link.Link.TheVariants as links
use Rattle.ea_sched.specs.declared.wants.Wanted.{Wanted}
use Rattle.ea_sched.specs.declared.wants.Wanted.TheVariants as wanted
use Rattle.ea_sched.specs.Wants.{works_off_at}
use Rattle.ea_given.specs.declared.heard.Heard.{Heard}
use Rattle.ea_given.specs.declared.heard.Heard.TheVariants as heard
use Rattle.ea_steps.specs.declared.touched.Touched.{Touched}
use Rattle.ea_steps.specs.Found.{placed_at}
use Rattle.ea_steps.specs.FoundCarriers.{carrier_there}
use Rattle.ea_steps.specs.Touched.{as_list, blocks_of, carriers_of, of_operation}

module _ (setup : Setup) (w : State) where
  -- whether the carrier of that number is there
  abbrev pub is_present : ℕ → Bool
  is_present number = is_some (carrier_there setup w number)

  -- the note has the blocks at the spots of these names more, and these carriers
  pub record Adds (names : List Named) (numbers : List ℕ) (t u : Touched) : Type 0 where
    pub blocks : u.blocks.items
        ≡ t.blocks.items ++ flat_map (λ n. as_list (placed_at setup w n)) names
    pub carriers : u.carriers.items ≡ t.carriers.items ++ filter is_present numbers

  -- the note has the blocks of these names more, and their carriers
  abbrev pub AddsNames : List Named → Touched → Touched → Type 0
  AddsNames names = Adds names (carriers_of names)

-- all that a walk passed, and the operation's block
abbrev pub of_walk : Actor → List Named
of_walk a = blocks_of a.passed ++ of_operation a

-- by the newest node of the queue that a scheduler takes
abbrev pub taken_names : Actor → Option Node → List Named
taken_names a None = of_operation a
taken_names a (Some newest) = []

-- by the link of its walk's next node
abbrev pub linked_names : Actor → Node → Link → List Named
linked_names a node links.Rest = of_operation a
linked_names a node links.End = blocks_of (node ∷ []) ++ of_walk a
linked_names a node (links.Next older) = []

-- by what is told of the answer
abbrev pub if_taken : Actor → Heard → List Named
if_taken a heard.Done = []
if_taken a (heard.Head newest) = taken_names a newest
if_taken a (heard.Read link) = []
if_taken a (heard.Saw seen) = []
if_taken a heard.Won = []
if_taken a (heard.Lost present) = []
if_taken a heard.Got = []
if_taken a heard.Absent = []

abbrev pub if_linked : Actor → Node → Heard → List Named
if_linked a node heard.Done = []
if_linked a node (heard.Head newest) = []
if_linked a node (heard.Read link) = linked_names a node link
if_linked a node (heard.Saw seen) = []
if_linked a node heard.Won = []
if_linked a node (heard.Lost present) = []
if_linked a node heard.Got = []
if_linked a node heard.Absent = []

-- once a node was sent on, by whether it is one of the walk
abbrev pub sent_names : Actor → Bool → List Named
sent_names a true = of_walk a
sent_names a false = []

-- the blocks that a step may release whose carriers don't migrate, by what is told of its row and
-- of its answer
abbrev pub names_told : Actor → Wanted → Heard → List Named
names_told a wanted.TakeAll h = if_taken a h
names_told a (wanted.TakeLink node) h = if_linked a node h
names_told a (wanted.Look number last) h = []
names_told a (wanted.Push node to) h = []
names_told a (wanted.Link node to) h = sent_names a (works_off_at a.stage)
names_told a (wanted.BusyTry number seen) h = []
names_told a (wanted.Settle number stored) h = []
names_told a (wanted.Abandon number stored) h = []
names_told a (wanted.FetchTry number seen) h = []
names_told a (wanted.Create number) h = []
names_told a (wanted.SendHome number) h = []
names_told a (wanted.Clear number) h = []
names_told a (wanted.Give name) h = []
names_told a (wanted.TakeTry name) h = []
names_told a wanted.Nothing h = []

-- the carrier that a row deallocates, and the one that it creates, by what is told of it
abbrev pub clears_told : Wanted → List ℕ
clears_told wanted.TakeAll = []
clears_told (wanted.TakeLink node) = []
clears_told (wanted.Look number last) = []
clears_told (wanted.Push node to) = []
clears_told (wanted.Link node to) = []
clears_told (wanted.BusyTry number seen) = []
clears_told (wanted.Settle number stored) = []
clears_told (wanted.Abandon number stored) = []
clears_told (wanted.FetchTry number seen) = []
clears_told (wanted.Create number) = []
clears_told (wanted.SendHome number) = []
clears_told (wanted.Clear number) = number ∷ []
clears_told (wanted.Give name) = []
clears_told (wanted.TakeTry name) = []
clears_told wanted.Nothing = []

abbrev pub creates_told : Wanted → Option ℕ
creates_told wanted.TakeAll = None
creates_told (wanted.TakeLink node) = None
creates_told (wanted.Look number last) = None
creates_told (wanted.Push node to) = None
creates_told (wanted.Link node to) = None
creates_told (wanted.BusyTry number seen) = None
creates_told (wanted.Settle number stored) = None
creates_told (wanted.Abandon number stored) = None
creates_told (wanted.FetchTry number seen) = None
creates_told (wanted.Create number) = Some number
creates_told (wanted.SendHome number) = None
creates_told (wanted.Clear number) = None
creates_told (wanted.Give name) = None
creates_told (wanted.TakeTry name) = None
creates_told wanted.Nothing = None
