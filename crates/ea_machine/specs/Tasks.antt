-- Operations that release a block, and the end of an operation.
-- Source: Erlang/OTP, 'Carrier Migration', section 'Migration': who releases a block.
-- Source: Erlang/OTP, 'Delayed Dealloc', section 'Functionality Used to Address This problem': a
-- block is passed on. The rest is this simulator's own.
use Rattle.std.specs.Prelude.{ℕ, List, [], ◌∷◌, ◌++◌, Option, None, Some}
use Rattle.ea_model.specs.declared.operations.Op.{Op}
use Rattle.ea_model.specs.Entries.{Entry}
use Rattle.ea_model.specs.declared.entries.Entry.TheVariants as entry
use Rattle.ea_model.specs.Content.{Content}
use Rattle.ea_machine.specs.Nodes.{without_name}
use Rattle.ea_machine.specs.declared.nodes.Named.{Named}
use Rattle.ea_machine.specs.Setup.{Setup}
use Rattle.ea_machine.specs.declared.stages.Stage.TheVariants.{Begin, Ended, Routed}
use Rattle.ea_machine.specs.declared.stages.Route.{Route}
use Rattle.ea_machine.specs.Actor.{Actor}
use Rattle.ea_machine.specs.declared.tasks.Task.{Task}
use Rattle.ea_machine.specs.declared.tasks.Task.TheVariants.{Freeing, Moving}
use Rattle.ea_machine.specs.declared.tasks.Why.{Why}
use Rattle.ea_machine.specs.declared.tasks.Why.TheVariants.{For}
use Rattle.ea_machine.specs.declared.tasks.Gone.{Gone}
use Rattle.ea_machine.specs.declared.tasks.Gone.TheVariants.{Open, Here, Queued}
use Rattle.ea_machine.specs.Releases.{Turned, route_of}

-- the operations after the first
abbrev pub later : List Op → List Op
later [] = []
later (o ∷ ops) = ops

-- the operation is over, with this entry in the log, and the next one begins
abbrev pub logged : Entry → Actor → Actor
logged x a = record a { stage = Begin; todo = later a.todo; log = a.log ++ x ∷ [] }

-- what comes of an answer that never comes
abbrev pub halted : Actor → Actor
halted a = record a { stage = Ended }

-- what the log says of an operation that released a block
abbrev pub entry_of : Task → Gone → Entry
entry_of (Freeing name) Open = entry.Free name
entry_of (Freeing name) Here = entry.Free name
entry_of (Freeing name) (Queued to) = entry.FreeQueued name to
entry_of (Moving old fresh place) Open = entry.ReallocMoved old fresh place
entry_of (Moving old fresh place) Here = entry.ReallocMoved old fresh place
entry_of (Moving old fresh place) (Queued to) = entry.ReallocQueued old fresh place to

-- the operation's block is gone
abbrev pub task_over : Task → Gone → Actor → Actor
task_over task gone a = logged (entry_of task gone) a

-- by whether there is a next row of the route
abbrev pub carried_by : Why → (Gone → Actor → Actor) → Gone → Actor → Option (Route Content) → Actor
carried_by why over gone a (Some r) = record a { stage = Routed r why gone }
carried_by why over gone a None = over gone a

-- the scheduler waits for the route's next row, or does what comes after the route
abbrev pub carried : Why → (Gone → Actor → Actor) → Turned → Actor
carried why over t = carried_by why over t.gone t.actor t.route

-- the name is held no longer
abbrev pub let_go : ℕ → Actor → Actor
let_go name a = record a { held = without_name name a.held }

-- a held name comes into the hand, and its block goes its route
abbrev pub hands_over : Setup → ℕ → Task → Named → Actor → Actor
hands_over setup me task hand a = carried (For task) (task_over task)
    (route_of setup me hand (let_go hand.name a))
