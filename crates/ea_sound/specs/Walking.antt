-- The nodes that a walk passed, and how they are worked off where carriers don't migrate. `worked`
-- is what they leave, and `CanAllGo` says that all can be released. Words of proofs: no clause of
-- `run` names them.
use Rattle.std.specs.Prelude.{◌≡◌, ℕ, Bool, true, false, ◌==◌, List, [], ◌∷◌, Option, None, Some}
use Rattle.std.specs.Prelude.{IsSome}
use Rattle.ea_model.specs.declared.carriers.Spot.{Spot}
use Rattle.ea_model.specs.Instance.{Instance, block_in, employed, own_at, owner_of}
use Rattle.ea_machine.specs.declared.nodes.Named.{Named}
use Rattle.ea_machine.specs.declared.nodes.Node.{Node}
use Rattle.ea_machine.specs.declared.nodes.Node.TheVariants.{Block, Carrier}
use Rattle.ea_machine.specs.declared.tasks.Gone.TheVariants.{Queued}
use Rattle.ea_machine.specs.declared.tasks.Why.{Why}
use Rattle.ea_machine.specs.declared.stages.Stage.TheVariants.{Routed}
use Rattle.ea_machine.specs.declared.stages.Route.TheVariants.{Pushing}
use Rattle.ea_machine.specs.Actor.{Actor}
use Rattle.ea_machine.specs.Nodes.{block_node}
use Rattle.ea_sound.specs.Releasing.{freed_at}

-- the instance once a block is released, if `me` owns its carrier
abbrev pub left_if : Bool → Instance → Spot → Instance
left_if true i spot = freed_at i spot
left_if false i spot = i

abbrev pub left_by : ℕ → Instance → Spot → Instance
left_by me i spot = left_if (owner_of spot.carrier == me) i spot

-- a block can be released: it is there, in a carrier that the instance owns
pub record CanGo (i : Instance) (spot : Spot) : Type 0 where
  pub block : IsSome (block_in (employed i) spot)
  pub own : IsSome (own_at i.own spot.carrier)

-- nodes are those of blocks, and in its turn each can be released whose carrier `me` owns
abbrev pub CanAllGo : ℕ → Instance → List Node → Type 0
CanAllGo me i [] = Unit {0}
CanAllGo me i (Block name spot ∷ nodes) =
    (owner_of spot.carrier ≡ me → CanGo i spot) × CanAllGo me (left_by me i spot) nodes
CanAllGo me i (Carrier number ∷ nodes) = ⊥

-- nodes that are worked off: the instance then, the nodes left, and a block in the hand that is to
-- go to its carrier's owner, if one is reached
pub record Worked : Type 0 where
  pub instance : Instance
  pub left : List Node
  pub hand : Option Named

abbrev pub worked_if : Bool → Worked → Worked → Worked
worked_if true here there = here
worked_if false here there = there

-- blocks are released one after another, up to the first whose carrier another instance owns
abbrev pub worked : ℕ → Instance → List Node → Worked
worked me i [] = record { instance = i; left = []; hand = None }
worked me i (Block name spot ∷ nodes) = worked_if (owner_of spot.carrier == me)
    (worked me (freed_at i spot) nodes)
    (record { instance = i; left = nodes; hand = Some (record { name = name; spot = spot }) })
worked me i (Carrier number ∷ nodes) = record { instance = i; left = nodes; hand = None }

-- the block goes to the queue of its carrier's owner
abbrev pub sent : Named → Why → Actor → Actor
sent hand why a = record a {
  stage = Routed (Pushing (block_node hand) (owner_of hand.spot.carrier)) why
      (Queued (owner_of hand.spot.carrier));
}
