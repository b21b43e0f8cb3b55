-- Nodes that a walk passed, and how one is worked off.
use Rattle.std.specs.Prelude.{List}
use Rattle.ea_model.specs.Content.{Content}
use Rattle.ea_machine.specs.declared.nodes.Node.{Node}
use Rattle.ea_machine.specs.declared.nodes.Node.TheVariants.{Block, Carrier}
use Rattle.ea_machine.specs.declared.stages.Route.TheVariants.{Looking}
use Rattle.ea_machine.specs.declared.stages.Stage.{Stage}
use Rattle.ea_machine.specs.declared.stages.Stage.TheVariants.{Collecting, Routed}
use Rattle.ea_machine.specs.declared.tasks.Gone.TheVariants.{Open}
use Rattle.ea_machine.specs.declared.tasks.Why.TheVariants.{Walk}

-- nodes, oldest first
pub record Passing : Type 0 where
  pub nodes : List Node

-- where a scheduler is that is to work off a node, where carriers migrate: it is to look at the
-- owner word of the block's carrier, or to collect the carrier that came home
abbrev pub stage_for : Node → Stage Content
stage_for (Block name spot) =
    Routed (Looking (record { name = name; spot = spot })) Walk Open
stage_for (Carrier number) = Collecting number
