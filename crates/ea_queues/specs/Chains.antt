-- Queues in plain memory: each node has a cell, which knows the next older node. First nodes and
-- cells stand for queues and for what is left of walks (`queueing_of`, `StandFor`).
use Rattle.std.specs.Prelude.{◌≡◌, ℕ, zero, suc, ◌+◌, ◌-◌, ◌*◌, ◌≤◌, false, List, [], ◌∷◌, All}
use Rattle.std.specs.Prelude.{Option, None, Some, get_or, length, map}
use Rattle.ea_model.specs.declared.units.TheConstants.{NUMBERS}
use Rattle.ea_machine.specs.declared.nodes.Node.{Node}
use Rattle.ea_machine.specs.declared.nodes.Node.TheVariants.{Block, Carrier}
use Rattle.ea_machine.specs.Nodes.{Mark}
use Rattle.ea_machine.specs.Sums.{sum_over}
use Rattle.ea_machine.specs.Alike.{alike_in, are_alike}
use Rattle.ea_queues.specs.declared.cells.Cell.{Cell}

-- the number of a node: a block's name, or a carrier's number
abbrev pub number_of : Node → ℕ
number_of (Block name spot) = name
number_of (Carrier number) = number

-- by whether a node is a block or a carrier
abbrev pub count_of : ℕ → ℕ → Node → ℕ
count_of names carriers (Block name spot) = names
count_of names carriers (Carrier number) = carriers

-- the cell of a node that never stood
abbrev pub blank : Cell
blank = record { older = None; linked = false }

-- the cell of a node
abbrev pub cell_at : List Cell → List Cell → Node → Cell
cell_at names carriers (Block name spot) = get_or names name blank
cell_at names carriers (Carrier number) = get_or carriers number blank

-- up to that many nodes from a first one on, each followed by the next older one
abbrev pub chain : (Node → Cell) → ℕ → Option Node → List Mark
chain cell zero first = []
chain cell (suc n) None = []
chain cell (suc n) (Some node) = record { node = node; linked = (cell node).linked }
    ∷ chain cell n (cell node).older

-- all nodes from a first one on are these
abbrev pub IsChain : (Node → Cell) → Option Node → List Mark → Type 0
IsChain cell first [] = first ≡ None
IsChain cell first (m ∷ ms) = (first ≡ Some m.node) × ((cell m.node).linked ≡ m.linked)
    × IsChain cell (cell m.node).older ms

-- so from each of some nodes on
abbrev pub AreChains : (Node → Cell) → List (Option Node) → List (List Mark) → Type 0
AreChains cell [] [] = Unit {0}
AreChains cell [] (ms ∷ lists) = ⊥
AreChains cell (first ∷ firsts) [] = ⊥
AreChains cell (first ∷ firsts) (ms ∷ lists) = IsChain cell first ms × AreChains cell firsts lists

-- and among those of several lists
abbrev pub alike_among : Node → List (List Mark) → ℕ
alike_among node lists = sum_over (alike_in node) lists

-- queues, and what is left of walks, of instances by their number, with none at 0; each is newest
-- first. Nodes are of carriers of that many schedulers, and of names up to the greatest
pub record Queueing : Type 0 where
  pub queues : List (List Mark)
  pub rests : List (List Mark)
  pub schedulers : ℕ
  pub greatest : ℕ

-- the nodes of an instance
abbrev pub marks_of : List (List Mark) → ℕ → List Mark
marks_of lists i = get_or lists i []

-- they are of as many schedulers, and of names up to the same one
abbrev pub HasSameCounts : Queueing → Queueing → Type 0
HasSameCounts s t = (t.schedulers ≡ s.schedulers) × (t.greatest ≡ s.greatest)

-- no node of that name, or of that carrier, stands anywhere
abbrev pub HasNone : Node → Queueing → Type 0
HasNone node s = (i : ℕ) → All (λ m. are_alike node m.node ≡ false) (marks_of s.queues i)
    × All (λ m. are_alike node m.node ≡ false) (marks_of s.rests i)

-- how many nodes of that name, or of that carrier, stand somewhere
abbrev pub standing_in : Queueing → Node → ℕ
standing_in s node = alike_among node s.queues + alike_among node s.rests

-- what first nodes and cells stand for
abbrev pub queueing_of : List (Option Node) → List (Option Node) → List Cell → List Cell → Queueing
queueing_of heads rests names carriers =
    let from = chain (cell_at names carriers) (length names + length carriers) in
    record {
      queues = map from heads;
      rests = map from rests;
      schedulers = length heads - 1;
      greatest = length names - 1;
    }

-- first nodes and cells stand for these queues and rests: all end, each node that stands has a
-- cell of its own, and none stands twice
pub record StandFor (heads rests : List (Option Node)) (names carriers : List Cell) (s : Queueing) :
    Type 0 where
  pub queued : AreChains (cell_at names carriers) heads s.queues
  pub rested : AreChains (cell_at names carriers) rests s.rests
  pub once : (node : Node) → standing_in s node ≤ 1
  pub within : (node : Node) → count_of (length names) (length carriers) node ≤ number_of node
      → standing_in s node ≡ 0
  pub heads_count : length heads ≡ s.schedulers + 1
  pub rests_count : length rests ≡ s.schedulers + 1
  pub names_count : length names ≡ s.greatest + 1
  pub carriers_count : length carriers ≡ NUMBERS * s.schedulers + 1
