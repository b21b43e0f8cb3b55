-- Nodes of a queue or a walk, and the one that is linked.
use Rattle.std.proofs.Common.{◌≡◌, ℕ, ◌+◌, true, List, [], ◌∷◌, refl, arith}
use Rattle.std.proofs.lemmas.Bool.{cond_both}
use Rattle.ea_machine.specs.declared.nodes.Node.{Node}
use Rattle.ea_machine.specs.declared.nodes.Node.TheVariants.{Block, Carrier}
use Rattle.ea_machine.specs.Nodes.{Mark, link_in, same_node}
use Rattle.ea_machine.specs.Sums.{sum_over}

pub same_node-is : (n m : Node) → same_node n m ≡ true → n ≡ m
same_node-is (Block n p) (Block m q) e = grind (arith, e)
same_node-is (Carrier c) (Carrier d) e = grind (arith, e)
same_node-is (Block n p) (Carrier d) e = absurd cc
same_node-is (Carrier c) (Block m q) e = absurd cc

pub same_node-itself : (n : Node) → same_node n n ≡ true
same_node-itself (Block n p) = grind arith
same_node-itself (Carrier c) = grind arith

-- to link a node leaves the nodes that stand there
pub sum-link_in : (f : Node → ℕ) (n : Node) (ms : List Mark)
    → sum_over (λ m. f m.node) (link_in n ms) ≡ sum_over (λ m. f m.node) ms
sum-link_in f n [] = refl
sum-link_in f n (m ∷ ms) =
    cond_both (same_node n m.node) (record m { linked = true }) m
    (λ x. f x.node + sum_over (λ y. f y.node) (link_in n ms)
    ≡ f m.node + sum_over (λ y. f y.node) ms)
    (λ _. omega (arith, sum-link_in f n ms)) (λ _. omega (arith, sum-link_in f n ms))
