-- Nodes in queues and walks, as each row that changes these leaves them, under any weight.
use Rattle.std.proofs.Common.{◌≡◌, ℕ, ◌+◌, ◌<◌, List, [], ◌∷◌, ap, arith}
use Rattle.ea_machine.specs.declared.nodes.Node.{Node}
use Rattle.ea_sound.specs.Contents.{seats}
use Rattle.ea_machine.specs.Nodes.{Mark, link_in, pushed}
use Rattle.ea_machine.specs.Rows.{TakeAll, Push, Link}
use Rattle.ea_machine.specs.Setup.{Setup}
use Rattle.ea_machine.specs.Shared.{Shared, put}
use Rattle.ea_machine.specs.Sums.{sum_over, total_at}
use Rattle.ea_machine.specs.Table.{effect}
use Rattle.ea_sound.proofs.Marks.{sum-link_in}
use Rattle.ea_sound.proofs.Totals.{total_at-put}

-- the marks in queues, and in what is left of walks
abbrev pub marks : Setup → (ℕ → Mark → ℕ) → Shared → ℕ
marks e f s = total_at (seats e) (λ i. sum_over (f i)) s.queues
    + total_at (seats e) (λ i. sum_over (f i)) s.rests

-- with other marks left of a walk
abbrev pub with_rest : ℕ → List Mark → Shared → Shared
with_rest i ms s = record s { rests = put s.rests i ms }

-- a weight of nodes, whether they are linked or not
abbrev pub of_nodes : (ℕ → Node → ℕ) → ℕ → Mark → ℕ
of_nodes f i m = f i m.node

module _ (e : Setup) (s : Shared) (f : ℕ → Mark → ℕ) where
  -- a queue becomes a walk, where none was left
  pub marks-take_all : (me : ℕ) → me < seats e → s.rests me ≡ []
      → marks e f (effect me TakeAll s) ≡ marks e f s
  unfolding effect
  marks-take_all me seat none = omega (
    arith,
    total_at-put (λ i. sum_over (f i)) s.queues me [] (seats e) seat,
    total_at-put (λ i. sum_over (f i)) s.rests me (s.queues me) (seats e) seat,
    ap (sum_over (f me)) none,
  )

  -- what is left of a walk changes
  pub marks-with_rest : (me : ℕ) (ms : List Mark) → me < seats e
      → marks e f (with_rest me ms s) + sum_over (f me) (s.rests me)
      ≡ marks e f s + sum_over (f me) ms
  marks-with_rest me ms seat =
      omega (arith, total_at-put (λ i. sum_over (f i)) s.rests me ms (seats e) seat)

  -- a node is pushed
  pub marks-push : (me to : ℕ) (node : Node) → to < seats e
      → marks e f (effect me (Push node to) s) ≡ marks e f s + f to (pushed node)
  unfolding effect
  marks-push me to node there = omega (
    arith,
    total_at-put (λ i. sum_over (f i)) s.queues to (pushed node ∷ s.queues to) (seats e) there,
  )

  -- a node is linked
  pub marks-link : (me to : ℕ) (node : Node) → to < seats e
      → marks e f (effect me (Link node to) s)
      + (sum_over (f to) (s.queues to) + sum_over (f to) (s.rests to))
      ≡ marks e f s
      + (sum_over (f to) (link_in node (s.queues to)) + sum_over (f to) (link_in node (s.rests to)))
  unfolding effect
  marks-link me to node there = omega (
    arith,
    total_at-put (λ i. sum_over (f i)) s.queues to (link_in node (s.queues to)) (seats e) there,
    total_at-put (λ i. sum_over (f i)) s.rests to (link_in node (s.rests to)) (seats e) there,
  )

-- a weight of nodes stays through a link
pub marks-linked : (e : Setup) (s : Shared) (f : ℕ → Node → ℕ) (me to : ℕ) (node : Node)
    → to < seats e → marks e (of_nodes f) (effect me (Link node to) s) ≡ marks e (of_nodes f) s
marks-linked e s f me to node there = omega (
  arith,
  marks-link e s (of_nodes f) me to node there,
  sum-link_in (f to) node (s.queues to),
  sum-link_in (f to) node (s.rests to),
)
