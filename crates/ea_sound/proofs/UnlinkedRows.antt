-- Nodes that aren't linked have one scheduler each that is about to link them.
use Rattle.std.proofs.Common.{◌≡◌, ◌≢◌, ℕ, zero, suc, ◌+◌, ◌<◌, ◌≤◌, List, [], ◌∷◌, true, false}
use Rattle.std.proofs.Common.{refl, ap, ◌∙◌, arith}
use Rattle.std.specs.Prelude.{Bool, if◌then◌else◌, ◌==◌, ◌&&◌}
use Rattle.ea_machine.specs.declared.nodes.Node.{Node}
use Rattle.ea_machine.specs.Actor.{Actor}
use Rattle.ea_sound.specs.Contents.{seats}
use Rattle.ea_sound.specs.NodePlaces.{node_at, of_link, of_unlinked, unlinked_at}
use Rattle.ea_machine.specs.Nodes.{Mark, link_in, same_node}
use Rattle.ea_machine.specs.Rows.{Link}
use Rattle.ea_machine.specs.Setup.{Setup}
use Rattle.ea_machine.specs.Shared.{Shared}
use Rattle.ea_machine.specs.State.{State}
use Rattle.ea_machine.specs.Sums.{one_if, sum_over}
use Rattle.ea_machine.specs.Table.{effect}
use Rattle.ea_sound.specs.Moments.{with_actor}
use Rattle.ea_sound.specs.Rule.{Unlinked}
use Rattle.ea_sound.proofs.Marks.{same_node-is, same_node-itself}
use Rattle.ea_sound.proofs.MarkRows.{marks, marks-link}
use Rattle.ea_sound.proofs.Totals.{total-put, total-part, total_at-only}

abbrev pub of_links : (ℕ → Node → ℕ) → Actor → ℕ
of_links u a = of_link u a.stage

module _ (e : Setup) (w : State) (me : ℕ) (seat : me < seats e) (h : Unlinked e w) (s : Shared)
    (a : Actor) where
  pub unlinked_moved : ((u : ℕ → Node → ℕ) → marks e (of_unlinked u) s + of_links u (w.actors me)
      ≡ marks e (of_unlinked u) w.shared + of_links u a) → Unlinked e (with_actor w s me a)
  unlinked_moved level = record {
    balance = λ u. omega (
      arith,
      level u,
      h.balance u,
      total-put (of_links u) w.actors me a (seats e) seat,
    );
  }

-- the weight of those that are the node and aren't linked: it leaves with the link
abbrev of_linked : (ℕ → Node → ℕ) → ℕ → Node → Mark → ℕ
of_linked u i node m = if same_node node m.node then of_unlinked u i m else 0

sum-freed : (u : ℕ → Node → ℕ) (i : ℕ) (node : Node) (ms : List Mark)
    → sum_over (of_unlinked u i) (link_in node ms) + sum_over (of_linked u i node) ms
    ≡ sum_over (of_unlinked u i) ms
sum-freed u i node [] = refl
sum-freed u i node (m ∷ ms) = by (same_node node m.node) (sum-freed u i node ms) where
  by : (b : Bool)
      → sum_over (of_unlinked u i) (link_in node ms) + sum_over (of_linked u i node) ms
      ≡ sum_over (of_unlinked u i) ms
      → of_unlinked u i (if b then record m { linked = true } else m)
      + sum_over (of_unlinked u i) (link_in node ms)
      + ((if b then of_unlinked u i m else 0) + sum_over (of_linked u i node) ms)
      ≡ of_unlinked u i m + sum_over (of_unlinked u i) ms
  by true same = omega (arith, same)
  by false same = omega (arith, same)

-- how often the node stands in a list of its instance without being linked, mark by mark
abbrev counted_by : ℕ → Bool → Bool → ℕ
counted_by to same linked = if linked then 0 else one_if ((to == to) && same)

abbrev left_by : ℕ → Bool → Bool → ℕ
left_by k same linked = if same then (if linked then 0 else k) else 0

counted-one : (to : ℕ) → counted_by to true false ≡ 1
counted-one to = grind arith

counted-none : (to : ℕ) (linked : Bool) → counted_by to false linked ≡ 0
counted-none to true = refl
counted-none to false = grind arith

-- of no such node nothing leaves, and of one its weight
module _ (u : ℕ → Node → ℕ) (to : ℕ) (node : Node) where
  abbrev stands : List Mark → ℕ
  stands ms = sum_over (of_unlinked (node_at node to) to) ms

  abbrev leaves : List Mark → ℕ
  leaves ms = sum_over (of_linked u to node) ms

  abbrev LeavesAs : ℕ → ℕ → Type 0
  LeavesAs n k = (n ≡ 0 → k ≡ 0) × (n ≡ 1 → k ≡ u to node)

  leaves-as : (ms : List Mark) → LeavesAs (stands ms) (leaves ms)
  leaves-as [] = ((λ z. refl), λ z. absurd (omega (arith, z)))
  leaves-as (m ∷ ms) = by (same_node node m.node) m.linked refl (leaves-as ms) where
    by : (same linked : Bool) → same_node node m.node ≡ same → LeavesAs (stands ms) (leaves ms)
        → LeavesAs (counted_by to same linked + stands ms)
        (left_by (u to m.node) same linked + leaves ms)
    by true true is h =
        ((λ z. omega (arith, h.0 (omega (arith, z)))), λ z. omega (arith, h.1 (omega (arith, z))))
    by true false is h = (
      (λ z. absurd (omega (arith, z, counted-one to))),
      λ z. omega (
        arith,
        h.0 (omega (arith, z, counted-one to)),
        ap (u to) (same_node-is node m.node is),
      ),
    )
    by false linked is h = (
      (λ z. omega (arith, h.0 (omega (arith, z, counted-none to linked)))),
      λ z. omega (arith, h.1 (omega (arith, z, counted-none to linked))),
    )

  -- in two lists
  both_leave : (n m x y : ℕ) → LeavesAs n x → LeavesAs m y → n + m ≡ 1 → x + y ≡ u to node
  both_leave zero m x y f g one = omega (arith, f.0 refl, g.1 (omega (arith, one)))
  both_leave (suc zero) m x y f g one = omega (arith, f.1 refl, g.0 (omega (arith, one)))
  both_leave (suc (suc n)) m x y f g one = absurd (omega (arith, one))

  -- it counts at its instance alone
  pub node_at-other : (i : ℕ) (ms : List Mark) → i ≢ to
      → sum_over (of_unlinked (node_at node to) i) ms ≡ 0
  node_at-other i [] other = refl
  node_at-other i (m ∷ ms) other = omega (arith, one m, node_at-other i ms other) where
    one : (m : Mark) → of_unlinked (node_at node to) i m ≡ 0
    one m = grind (arith, other)

pub node_at-itself : (node : Node) (to : ℕ) → node_at node to to node ≡ 1
node_at-itself node to =
    ap (λ b. one_if ((to == to) && b)) (same_node-itself node) ∙ counted-one to

module _ (e : Setup) (w : State) (me : ℕ) (seat : me < seats e) (h : Unlinked e w) (node : Node)
    (to : ℕ) (there : to < seats e)
    (mine : (u : ℕ → Node → ℕ) → of_links u (w.actors me) ≡ u to node) where
  -- a node that a scheduler is about to link stands there
  pub node_stands : 1 ≤ unlinked_at node to w
  node_stands = omega (
    arith,
    h.balance (node_at node to),
    total-part (of_links (node_at node to)) w.actors me (seats e) seat,
    mine (node_at node to),
    node_at-itself node to,
    total_at-only (λ i. sum_over (of_unlinked (node_at node to) i)) w.shared.queues to (seats e)
        (λ i l other. node_at-other (λ i x. 0) to node i (w.shared.queues i) other),
    total_at-only (λ i. sum_over (of_unlinked (node_at node to) i)) w.shared.rests to (seats e)
        (λ i l other. node_at-other (λ i x. 0) to node i (w.shared.rests i) other),
  )

  -- it is linked, where it stands once, which the names or the returning carriers tell
  pub link_unlinked : (a : Actor) → unlinked_at node to w ≤ 1
      → ((u : ℕ → Node → ℕ) → of_links u a ≡ 0)
      → Unlinked e (with_actor w (effect me (Link node to) w.shared) me a)
  link_unlinked a once none = unlinked_moved e w me seat h _ a (λ u. omega (
    arith,
    mine u,
    none u,
    marks-link e w.shared (of_unlinked u) me to node there,
    sum-freed u to node (w.shared.queues to),
    sum-freed u to node (w.shared.rests to),
    both_leave u to node _ _ _ _ (leaves-as u to node (w.shared.queues to))
        (leaves-as u to node (w.shared.rests to)) (omega (arith, node_stands, once)),
  ))
