-- Nodes that stand in queues and in what is left of walks, and the older ones behind them.
-- `standing_nodes` is 0 or 1 in each reached state. It is counted because a step changes a count by
-- one. `IsOlderAt` says which node is the next older one. Words of proofs: no clause of `run` names
-- them.
use Rattle.std.specs.Prelude.{◌≡◌, ◌⊎◌, ℕ, suc, ◌+◌, List, ◌∷◌, ◌++◌, Option}
use Rattle.ea_machine.specs.declared.nodes.Node.{Node}
use Rattle.ea_machine.specs.Alike.{alike_in}
use Rattle.ea_machine.specs.Nodes.{Mark, first_node, pushed}
use Rattle.ea_machine.specs.Shared.{Shared}
use Rattle.ea_machine.specs.Sums.{total}

-- how many nodes of that name, or of that carrier, stand in queues and in what is left of walks, of
-- that many schedulers
abbrev pub standing_nodes : ℕ → Node → Shared → ℕ
standing_nodes n node s = total (suc n) (alike_in node) s.queues
    + total (suc n) (alike_in node) s.rests

-- the node stands among these without being linked, and that is the next older one
abbrev pub IsOlderIn : Node → Option Node → List Mark → Type 0
IsOlderIn node older ms = (newer rest : List Mark) × (ms ≡ newer ++ (pushed node ∷ rest))
    × (older ≡ first_node rest)

-- it stands so in the queue of that instance, or in what is left of its walk
abbrev pub IsOlderAt : Node → ℕ → Option Node → Shared → Type 0
IsOlderAt node to older s = IsOlderIn node older (s.queues to) ⊎ IsOlderIn node older (s.rests to)
