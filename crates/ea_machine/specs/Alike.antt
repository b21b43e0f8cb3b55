-- Nodes of one name, and the nodes that a run may have.
use Rattle.std.specs.Prelude.{◌≡◌, ℕ, ◌*◌, ◌%◌, ◌<◌, ◌≤◌, Bool, false, ◌==◌, List, All}
use Rattle.ea_model.specs.declared.carriers.Spot.{Spot}
use Rattle.ea_model.specs.declared.units.TheConstants.{MAX_UNITS, NUMBERS}
use Rattle.ea_machine.specs.declared.nodes.Node.{Node}
use Rattle.ea_machine.specs.declared.nodes.Node.TheVariants.{Block, Carrier}
use Rattle.ea_machine.specs.Nodes.{Mark}
use Rattle.ea_machine.specs.Shared.{Shared}
use Rattle.ea_machine.specs.Sums.{one_if, sum_over}

-- whether two nodes are of the same block name, or of the same carrier
abbrev pub are_alike : Node → Node → Bool
are_alike (Block n p) (Block m q) = n == m
are_alike (Block n p) (Carrier d) = false
are_alike (Carrier c) (Block m q) = false
are_alike (Carrier c) (Carrier d) = c == d

-- how many of these nodes are of that name, or of that carrier
abbrev pub alike_in : Node → List Mark → ℕ
alike_in node marks = sum_over (λ m. one_if (are_alike node m.node)) marks

-- the spot is one where a block may begin, in a carrier of that many schedulers
abbrev pub IsSpot : ℕ → Spot → Type 0
IsSpot schedulers spot = (1 ≤ spot.carrier) × (spot.carrier ≤ NUMBERS * schedulers)
    × (spot.offset % 2 ≡ 0) × (spot.offset < MAX_UNITS)

-- the node is of a name up to the greatest, with a spot, or of a carrier of that many schedulers
abbrev pub IsNode : ℕ → ℕ → Node → Type 0
IsNode schedulers greatest (Block name spot) =
    (1 ≤ name) × (name ≤ greatest) × IsSpot schedulers spot
IsNode schedulers greatest (Carrier number) = (1 ≤ number) × (number ≤ NUMBERS * schedulers)

-- no node of that name, or of that carrier, is in a queue or in a walk before it is passed
abbrev pub HasNoAlike : Node → Shared → Type 0
HasNoAlike node s = (i : ℕ) → All (λ m. are_alike node m.node ≡ false) (s.queues i)
    × All (λ m. are_alike node m.node ≡ false) (s.rests i)
