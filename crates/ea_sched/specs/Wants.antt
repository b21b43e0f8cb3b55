-- The row that a scheduler wants next, as it is told (`wanted_of`), and what it has at hand for it.
use Rattle.std.specs.Prelude.{ℕ, Bool, true, false, List, [], ◌∷◌, Option, None, Some}
use Rattle.ea_model.specs.declared.carriers.Place.{Place}
use Rattle.ea_model.specs.declared.operations.Op.{Op}
use Rattle.ea_model.specs.Content.{Content, is_nil}
use Rattle.ea_machine.specs.declared.nodes.Named.{Named}
use Rattle.ea_machine.specs.declared.nodes.Node.{Node}
use Rattle.ea_machine.specs.declared.parts.Part.{Part}
use Rattle.ea_machine.specs.declared.parts.Part.TheVariants.{Own, Traitors, Pool}
use Rattle.ea_machine.specs.declared.stages.Route.{Route}
use Rattle.ea_machine.specs.declared.stages.Route.TheVariants as route
use Rattle.ea_machine.specs.declared.stages.Stage.{Stage}
use Rattle.ea_machine.specs.declared.stages.Stage.TheVariants as stage
use Rattle.ea_machine.specs.declared.tasks.Task.{Task}
use Rattle.ea_machine.specs.declared.tasks.Task.TheVariants.{Freeing, Moving}
use Rattle.ea_machine.specs.declared.tasks.Why.{Why}
use Rattle.ea_machine.specs.declared.tasks.Why.TheVariants.{Walk, For}
use Rattle.ea_machine.specs.Actor.{Actor, on_route}
use Rattle.ea_machine.specs.Machine.{wants}
use Rattle.ea_machine.specs.Owners.{word_of}
use Rattle.ea_machine.specs.Rows.{Row, TakeAll, TakeLink, Look, Push, Link, BusyTry, Settle}
use Rattle.ea_machine.specs.Rows.{Abandon, FetchTry, Create, SendHome, Clear, Give, TakeTry}
use Rattle.ea_machine.specs.Rows.{Nothing}
use Rattle.ea_machine.specs.Table.{pooled, settled_at}
use Rattle.ea_sched.specs.declared.wants.Wanted.{Wanted}
use Rattle.ea_sched.specs.declared.wants.Wanted.TheVariants as wanted

-- the link of the walk's next node; without one no link is read
abbrev pub link_of : Option Node → Wanted
link_of None = wanted.Nothing
link_of (Some node) = wanted.TakeLink node

-- what is told of a row of `me`, whose walk has that next node, and which is in the last part of a
-- search or not: of a content that is to be stored its number, and the owner word that it gets
abbrev pub row_told : ℕ → Option Node → Bool → Row → Wanted
row_told me next last TakeAll = wanted.TakeAll
row_told me next last TakeLink = link_of next
row_told me next last (Look number) = wanted.Look number last
row_told me next last (Push node to) = wanted.Push node to
row_told me next last (Link node to) = wanted.Link node to
row_told me next last (BusyTry number seen) = wanted.BusyTry number seen
row_told me next last (Settle x) =
    wanted.Settle x.number (word_of (settled_at me x (is_nil x.blocks)))
row_told me next last (Abandon x) = wanted.Abandon x.number (word_of (pooled me x))
row_told me next last (FetchTry number seen) = wanted.FetchTry number seen
row_told me next last (Create number) = wanted.Create number
row_told me next last (SendHome x) = wanted.SendHome x.number
row_told me next last (Clear number) = wanted.Clear number
row_told me next last (Give given) = wanted.Give given.name
row_told me next last (TakeTry name) = wanted.TakeTry name
row_told me next last Nothing = wanted.Nothing

-- whether it is the last part of a search
abbrev pub is_last : Part → Bool
is_last (Own left) = false
is_last (Traitors left) = false
is_last (Pool left looked) = true

-- whether a scheduler is in the last part of a search
abbrev pub is_last_at : Stage Content → Bool
is_last_at stage.Begin = false
is_last_at (stage.Routed r why gone) = false
is_last_at (stage.Collecting number) = false
is_last_at (stage.Searching ask at part) = is_last part
is_last_at (stage.Fetching ask at part seen) = false
is_last_at (stage.Creating ask plan) = false
is_last_at (stage.Giving given to) = false
is_last_at (stage.Taking name tries left) = false
is_last_at stage.Ended = false
is_last_at stage.Ready = false

-- what is told of the row that scheduler `me` wants next
abbrev pub wanted_of : ℕ → Actor → Wanted
wanted_of me a = row_told me a.next (is_last_at a.stage) (wants a)

-- the block in the hand that a look or a try may release, on a route
abbrev pub hand_on : Route Content → Option Named
hand_on (route.Looking hand) = Some hand
hand_on (route.Trying hand seen) = Some hand
hand_on (route.Settling x) = None
hand_on (route.Abandoning x) = None
hand_on (route.Sending x) = None
hand_on (route.Clearing x) = None
hand_on (route.Pushing node to) = None
hand_on (route.Linking node to) = None

-- the same, by where the scheduler is
abbrev pub hand_at : Stage Content → Option Named
hand_at at = on_route None hand_on at

-- whether a block is released since it stood in the walk
abbrev pub is_walk : Why → Bool
is_walk Walk = true
is_walk (For task) = false

-- whether a block of the walk is on its route
abbrev pub works_off_at : Stage Content → Bool
works_off_at stage.Begin = false
works_off_at (stage.Routed r why gone) = is_walk why
works_off_at (stage.Collecting number) = false
works_off_at (stage.Searching ask at part) = false
works_off_at (stage.Fetching ask at part seen) = false
works_off_at (stage.Creating ask plan) = false
works_off_at (stage.Giving given to) = false
works_off_at (stage.Taking name tries left) = false
works_off_at stage.Ended = false
works_off_at stage.Ready = false

-- where the new block of a reallocation lies that releases the old one
abbrev pub place_by : Task → Option Place
place_by (Freeing name) = None
place_by (Moving old fresh place) = Some place

abbrev pub place_for : Why → Option Place
place_for Walk = None
place_for (For task) = place_by task

abbrev pub moving_at : Stage Content → Option Place
moving_at stage.Begin = None
moving_at (stage.Routed r why gone) = place_for why
moving_at (stage.Collecting number) = None
moving_at (stage.Searching ask at part) = None
moving_at (stage.Fetching ask at part seen) = None
moving_at (stage.Creating ask plan) = None
moving_at (stage.Giving given to) = None
moving_at (stage.Taking name tries left) = None
moving_at stage.Ended = None
moving_at stage.Ready = None

-- the first of the operations that are left
abbrev pub first_op : List Op → Option Op
first_op [] = None
first_op (op ∷ ops) = Some op
