-- Names with the spots of their blocks, and the nodes of queues. A node is linked or not.
-- Source: Erlang/OTP, 'Delayed Dealloc', section 'Functionality Used to Address This problem': a
-- list runs through the blocks. The rest is this simulator's own.
use Rattle.std.specs.Prelude.{ℕ, Bool, true, false, ◌&&◌, ◌==◌, if◌then◌else◌, List, [], ◌∷◌}
use Rattle.std.specs.Prelude.{Option, None, Some, option_map}
use Rattle.ea_model.specs.declared.carriers.Spot.{Spot}
use Rattle.ea_model.specs.Keyed as keyed
use Rattle.ea_machine.specs.declared.nodes.Named.{Named}
use Rattle.ea_machine.specs.declared.nodes.Node.{Node}
use Rattle.ea_machine.specs.declared.nodes.Node.TheVariants.{Block, Carrier}

abbrev pub name_of : Named → ℕ
name_of x = x.name

-- the names with one more, by rising name
abbrev pub with_name : Named → List Named → List Named
with_name x names = keyed.entered (λ n. n.name) x names

-- the names without that one
abbrev pub without_name : ℕ → List Named → List Named
without_name name names = keyed.without (λ n. n.name) name names

-- the name with its spot, if it is one of these
abbrev pub named_at : ℕ → List Named → Option Named
named_at name names = keyed.item_at (λ n. n.name) names name

-- where its block begins
abbrev pub spot_named : ℕ → List Named → Option Spot
spot_named name names = option_map (λ n. n.spot) (named_at name names)

-- a node in a queue or a walk, and whether it is linked to the older ones: who pushed it links it
-- in a step of its own
pub record Mark : Type 0 where
  pub node : Node
  pub linked : Bool

-- whether two spots are the same
abbrev pub same_spot : Spot → Spot → Bool
same_spot p q = (p.carrier == q.carrier) && (p.offset == q.offset)

-- whether two nodes are the same
abbrev pub same_node : Node → Node → Bool
same_node (Block n p) (Block m q) = (n == m) && same_spot p q
same_node (Block n p) (Carrier d) = false
same_node (Carrier c) (Block m q) = false
same_node (Carrier c) (Carrier d) = c == d

-- the node of a block
abbrev pub block_node : Named → Node
block_node x = Block x.name x.spot

-- a node that was pushed and isn't linked yet
abbrev pub pushed : Node → Mark
pushed node = record { node = node; linked = false }

-- the nodes, where that one is linked
abbrev pub link_in : Node → List Mark → List Mark
link_in node [] = []
link_in node (m ∷ ms) = (if same_node node m.node then record m { linked = true } else m)
    ∷ link_in node ms

-- the first of the nodes, if there is one
abbrev pub first_node : List Mark → Option Node
first_node [] = None
first_node (m ∷ ms) = Some m.node
