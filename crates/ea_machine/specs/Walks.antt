-- The begin of an operation: the scheduler takes its whole queue, walks it from the newest node to
-- the oldest, and works the nodes off in the other direction. Where a node isn't linked yet the
-- walk rests, until the next operation begins. A walk is what was passed (`passed`, oldest first)
-- and the rest, which is shared, since the scheduler that pushed a node may still have to link it.
-- Nothing is worked off before the oldest node was passed.
-- Source: Erlang/OTP, 'Delayed Dealloc', section 'Functionality Used to Address This problem': the
-- scheduler of the instance takes the queue and works it off. The rest is this simulator's own.
use Rattle.std.specs.Prelude.{ℕ, List, [], ◌∷◌, Option, None, Some}
use Rattle.ea_machine.specs.declared.nodes.Node.{Node}
use Rattle.ea_machine.specs.declared.nodes.Node.TheVariants.{Block, Carrier}
use Rattle.ea_machine.specs.Setup.{Setup}
use Rattle.ea_machine.specs.declared.stages.Stage.TheVariants.{Begin, Collecting, Ready}
use Rattle.ea_machine.specs.Actor.{Actor}
use Rattle.ea_machine.specs.declared.tasks.Why.{Why}
use Rattle.ea_machine.specs.declared.tasks.Why.TheVariants.{Walk, For}
use Rattle.ea_machine.specs.declared.tasks.Gone.{Gone}
use Rattle.ea_machine.specs.Rows.{Answer, Head, Rests, Passes}
use Rattle.ea_machine.specs.Releases.{disowned, route_of, struck}
use Rattle.ea_machine.specs.Tasks.{carried, halted, task_over}

-- the begin is over
abbrev pub ready : Actor → Actor
ready a = record a { stage = Ready }

-- the node that was passed last goes first: it is the oldest of them
abbrev pub with_passed : Option Node → List Node → List Node
with_passed None nodes = nodes
with_passed (Some node) nodes = node ∷ nodes

-- the queue was taken: the walk begins at its newest node
abbrev pub taken : Actor → Option Node → Actor
taken a None = ready a
taken a (Some node) = record a { stage = Begin; next = Some node }

module _ (setup : Setup) (me : ℕ) where
  -- the passed nodes are worked off, oldest first: a block goes its route, and an empty carrier
  -- that came home is collected
  abbrev pub worked_off : List Node → Actor → Actor
  worked_off [] a = ready (record a { passed = [] })
  worked_off (Block name spot ∷ nodes) a = carried Walk (λ gone b. worked_off nodes b)
      (route_of setup me (record { name = name; spot = spot }) (record a { passed = nodes }))
  worked_off (Carrier number ∷ nodes) a = record a { stage = Collecting number; passed = nodes }

  -- the carrier was collected: it is no longer there
  abbrev pub collected : ℕ → Actor → Actor
  collected number a = worked_off a.passed (disowned number (struck number a))

  -- what comes after a route
  abbrev pub after_route : Why → Gone → Actor → Actor
  after_route Walk gone a = worked_off a.passed a
  after_route (For task) gone a = task_over task gone a

  -- the next node was passed; after the oldest one the walk is at its end
  abbrev pub passed_on : Actor → Option Node → Actor
  passed_on a (Some node) = record a {
    stage = Begin;
    passed = with_passed a.next a.passed;
    next = Some node;
  }
  passed_on a None = worked_off (with_passed a.next a.passed) (record a { next = None })

  -- a row of the begin is answered; where the next node isn't linked the walk rests
  abbrev pub begun : Actor → Answer → Actor
  begun a (Head node) = taken a node
  begun a Rests = ready a
  begun a (Passes node) = passed_on a node
  begun a _ = halted a
