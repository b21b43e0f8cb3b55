-- The names of blocks: where they stand, and the blocks that have them. What is summed here is
-- given by f, for a name and the spot where its block begins. Collections are compared by counting:
-- each name is counted as often among the names that stand as among those of the blocks.
use Rattle.std.specs.Prelude.{ℕ, ◌+◌, ◌&&◌, ◌==◌, List}
use Rattle.ea_model.specs.declared.carriers.Spot.{Spot}
use Rattle.ea_model.specs.declared.carriers.BlockAt.{BlockAt}
use Rattle.ea_model.specs.declared.operations.Op.{Op}
use Rattle.ea_model.specs.Content.{Content}
use Rattle.ea_model.specs.Trace.{makes}
use Rattle.ea_machine.specs.declared.nodes.Node.{Node}
use Rattle.ea_machine.specs.declared.nodes.Node.TheVariants.{Block, Carrier}
use Rattle.ea_machine.specs.Nodes.{Mark, same_spot}
use Rattle.ea_machine.specs.declared.nodes.Named.{Named}
use Rattle.ea_machine.specs.Setup.{Setup}
use Rattle.ea_machine.specs.declared.stages.Stage.{Stage}
use Rattle.ea_machine.specs.declared.stages.Stage.TheVariants.{Routed}
use Rattle.ea_machine.specs.declared.stages.Route.{Route}
use Rattle.ea_machine.specs.declared.stages.Route.TheVariants.{Looking, Trying, Settling}
use Rattle.ea_machine.specs.declared.stages.Route.TheVariants.{Abandoning, Sending, Clearing}
use Rattle.ea_machine.specs.declared.stages.Route.TheVariants.{Pushing, Linking}
use Rattle.ea_machine.specs.Actor.{Actor, on_route}
use Rattle.ea_machine.specs.declared.tasks.Task.TheVariants.{Freeing, Moving}
use Rattle.ea_machine.specs.declared.tasks.Why.{Why}
use Rattle.ea_machine.specs.declared.tasks.Why.TheVariants.{Walk, For}
use Rattle.ea_machine.specs.State.{State}
use Rattle.ea_machine.specs.Tasks.{later}
use Rattle.ea_machine.specs.Sums.{one_if, sum_over, total}
use Rattle.ea_sound.specs.Contents.{seats, sum_everywhere}

-- of a held or given name
abbrev pub of_named : (ℕ → Spot → ℕ) → Named → ℕ
of_named f x = f x.name x.spot

-- of a node, if it is a block's
abbrev pub of_node : (ℕ → Spot → ℕ) → Node → ℕ
of_node f (Block name spot) = f name spot
of_node f (Carrier number) = 0

abbrev pub of_mark : (ℕ → Spot → ℕ) → Mark → ℕ
of_mark f m = of_node f m.node

-- of the block on a route, until it is released or pushed
abbrev pub of_route : (ℕ → Spot → ℕ) → Route Content → ℕ
of_route f (Looking hand) = of_named f hand
of_route f (Trying hand seen) = of_named f hand
of_route f (Settling x) = 0
of_route f (Abandoning x) = 0
of_route f (Sending x) = 0
of_route f (Clearing x) = 0
of_route f (Pushing node to) = of_node f node
of_route f (Linking node to) = 0

-- of the block in the hand
abbrev pub of_hand : (ℕ → Spot → ℕ) → Stage Content → ℕ
of_hand f stage = on_route 0 (of_route f) stage

-- the names that schedulers hold
abbrev pub held : Setup → (ℕ → Spot → ℕ) → State → ℕ
held setup f state = total (seats setup) (λ (a : Actor). sum_over (of_named f) a.held) state.actors

-- those that are given away and not yet taken
abbrev pub given : (ℕ → Spot → ℕ) → State → ℕ
given f state = sum_over (of_named f) state.shared.given

-- those in a queue
abbrev pub queued : Setup → (ℕ → Spot → ℕ) → State → ℕ
queued setup f state = total (seats setup) (sum_over (of_mark f)) state.shared.queues

-- those in a walk: still to be passed, or passed and to be worked off
abbrev pub walked : Setup → (ℕ → Spot → ℕ) → State → ℕ
walked setup f state = total (seats setup) (sum_over (of_mark f)) state.shared.rests
    + total (seats setup) (λ (a : Actor). sum_over (of_node f) a.passed) state.actors

-- those on a release route
abbrev pub in_hands : Setup → (ℕ → Spot → ℕ) → State → ℕ
in_hands setup f state = total (seats setup) (λ (a : Actor). of_hand f a.stage) state.actors

-- the names of all these
abbrev pub standing : Setup → (ℕ → Spot → ℕ) → State → ℕ
standing setup f state = held setup f state + given f state + queued setup f state
    + walked setup f state + in_hands setup f state

-- of a block of a carrier
abbrev pub of_block : (ℕ → Spot → ℕ) → ℕ → BlockAt → ℕ
of_block f number b = f b.name (record { carrier = number; offset = b.offset })

-- of the blocks of a carrier
abbrev pub of_content : (ℕ → Spot → ℕ) → Content → ℕ
of_content f x = sum_over (of_block f x.number) x.blocks

-- the names that blocks have, wherever their carriers are
abbrev pub allocated : Setup → (ℕ → Spot → ℕ) → State → ℕ
allocated setup f state = sum_everywhere setup (of_content f) state

-- 1 for the name, wherever its block begins
abbrev pub only : ℕ → ℕ → Spot → ℕ
only name n p = one_if (n == name)

-- 1 for the name at that spot
abbrev pub only_at : ℕ → Spot → ℕ → Spot → ℕ
only_at name spot n p = one_if ((n == name) && same_spot p spot)

-- the operations whose new names are still to come: one that moves its block has placed it under
-- the new name before the old one is released
abbrev pub unplaced_by : Why → List Op → List Op
unplaced_by Walk ops = ops
unplaced_by (For (Freeing name)) ops = ops
unplaced_by (For (Moving old fresh place)) ops = later ops

abbrev pub unplaced : Stage Content → List Op → List Op
unplaced (Routed route why gone) ops = unplaced_by why ops
unplaced _ ops = ops

-- how many of these operations make the name
abbrev pub made_in : ℕ → List Op → ℕ
made_in name ops = sum_over (λ o. one_if (makes name o)) ops

-- how many operations are still to make it
abbrev pub to_make : Setup → ℕ → State → ℕ
to_make setup name state = total (seats setup)
    (λ (a : Actor). made_in name (unplaced a.stage a.todo)) state.actors
