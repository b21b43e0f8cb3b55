-- Nodes of which no two are alike are no more than a run has names and carrier numbers.
use Rattle.std.proofs.Common.{◌≡◌, ℕ, zero, suc, ◌+◌, ◌*◌, ◌<◌, ◌≤◌, List, [], ◌∷◌, refl, arith}
use Rattle.std.specs.Prelude.{All, length}
use Rattle.std.proofs.lemmas.List.Elements.{All-head, All-tail}
use Rattle.ea_model.specs.declared.units.TheConstants.{NUMBERS}
use Rattle.ea_machine.specs.declared.nodes.Node.{Node}
use Rattle.ea_machine.specs.declared.nodes.Node.TheVariants.{Block, Carrier}
use Rattle.ea_machine.specs.Alike.{IsNode, are_alike}
use Rattle.ea_machine.specs.Sums.{one_if, sum_over, total_at}
use Rattle.ea_sound.proofs.Totals.{total_at-part}
use Rattle.ea_sound.proofs.Weights.{one-itself}

-- how many of these nodes are of the name, or of the carrier, of that one
abbrev pub alike_among : Node → List Node → ℕ
alike_among node nodes = sum_over (λ d. one_if (are_alike node d)) nodes

module _ (node_of : ℕ → Node) where
  -- those of the first k nodes of a kind
  abbrev among : ℕ → List Node → ℕ
  among k nodes = total_at k (λ i. alike_among (node_of i)) (λ i. nodes)

  among-cons : (k : ℕ) (node : Node) (nodes : List Node)
      → among k (node ∷ nodes) ≡ among k (node ∷ []) + among k nodes
  among-cons zero node nodes = refl
  among-cons (suc k) node nodes = omega (arith, among-cons k node nodes)

  among-most : (k : ℕ) (nodes : List Node) → ((node : Node) → alike_among node nodes ≤ 1)
      → among k nodes ≤ k
  among-most zero nodes once = omega arith
  among-most (suc k) nodes once = omega (arith, among-most k nodes once, once (node_of k))

  among-one : (k i : ℕ) (node : Node) → i < k → 1 ≤ alike_among (node_of i) (node ∷ [])
      → 1 ≤ among k (node ∷ [])
  among-one k i node l some =
      omega (arith, some, total_at-part (λ j. alike_among (node_of j)) (λ j. node ∷ []) i k l)

-- a node of each name, and of each carrier number, from 1 on
abbrev pub block_of : ℕ → Node
block_of i = Block (suc i) (record { carrier = 0; offset = 0 })

abbrev pub carrier_of : ℕ → Node
carrier_of i = Carrier (suc i)

module _ (g k : ℕ) where
  -- a node of a name up to g, or of a carrier number up to k
  abbrev pub IsWithin : Node → Type 0
  IsWithin (Block name spot) = (1 ≤ name) × (name ≤ g)
  IsWithin (Carrier number) = (1 ≤ number) × (number ≤ k)

  one-among : (node : Node) → IsWithin node
      → 1 ≤ among block_of g (node ∷ []) + among carrier_of k (node ∷ [])
  one-among (Block zero p) within = absurd (omega (arith, within.0))
  one-among (Block (suc n) p) within = omega (
    arith,
    among-one block_of g n (Block (suc n) p) (omega (arith, within.1))
        (omega (arith, one-itself (suc n))),
  )
  one-among (Carrier zero) within = absurd (omega (arith, within.0))
  one-among (Carrier (suc c)) within = omega (
    arith,
    among-one carrier_of k c (Carrier (suc c)) (omega (arith, within.1))
        (omega (arith, one-itself (suc c))),
  )

  all-among : (nodes : List Node) → All IsWithin nodes
      → length nodes ≤ among block_of g nodes + among carrier_of k nodes
  all-among [] all = omega arith
  all-among (node ∷ nodes) all = omega (
    arith,
    one-among node (All-head IsWithin node nodes all),
    all-among nodes (All-tail IsWithin node nodes all),
    among-cons block_of g node nodes,
    among-cons carrier_of k node nodes,
  )

  -- where none has another of its name or carrier, they are at most that many
  pub few-nodes : (nodes : List Node) → All IsWithin nodes
      → ((node : Node) → alike_among node nodes ≤ 1) → length nodes ≤ g + k
  few-nodes nodes all once = omega (
    arith,
    all-among nodes all,
    among-most block_of g nodes once,
    among-most carrier_of k nodes once,
  )

-- a node of a run is of one of its names and carrier numbers
pub is-within : (n g : ℕ) (node : Node) → IsNode n g node → IsWithin g (n * NUMBERS) node
is-within n g (Block name spot) is = (is.0, is.1)
is-within n g (Carrier number) is = (is.0, omega (arith, is.1))
