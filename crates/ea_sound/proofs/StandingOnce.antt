-- In each reached state no two nodes of one name, or of one carrier, stand in queues and walks, nor
-- among those that a walk passed and those that are left of it; and the greatest name of a trace is
-- one.
use Rattle.std.proofs.Common.{◌≡◌, ℕ, ◌+◌, ◌<◌, ◌≤◌, List, [], ◌∷◌, refl, arith}
use Rattle.std.specs.Prelude.{All}
use Rattle.std.proofs.lemmas.List.Elements.{All-head, All-tail}
use Rattle.ea_model.specs.declared.carriers.Spot.{Spot}
use Rattle.ea_model.specs.declared.operations.Op.{Op}
use Rattle.ea_model.specs.declared.operations.Op.TheVariants.{Alloc, Free, Realloc, Give, Take}
use Rattle.ea_model.specs.declared.operations.Op.TheVariants.{Info, Idle}
use Rattle.ea_model.specs.declared.trace.Trace.{Trace}
use Rattle.ea_model.specs.declared.units.TheConstants.{MAX_NAME}
use Rattle.ea_model.specs.Trace.{IsOperation, IsValidTrace, greatest_in, greatest_of, operations_of}
use Rattle.ea_machine.specs.declared.nodes.Node.{Node}
use Rattle.ea_machine.specs.declared.nodes.Node.TheVariants.{Block, Carrier}
use Rattle.ea_machine.specs.Alike.{alike_in, are_alike}
use Rattle.ea_sound.specs.Contents.{seats}
use Rattle.ea_sound.specs.Names.{of_mark, of_node, only}
use Rattle.ea_sound.specs.NodePlaces.{anywhere, of_carrier_actor, of_carrier_mark}
use Rattle.ea_sound.specs.NodePlaces.{of_carrier_node}
use Rattle.ea_machine.specs.Nodes.{Mark}
use Rattle.ea_machine.specs.Setup.{Setup}
use Rattle.ea_machine.specs.State.{State}
use Rattle.ea_machine.specs.Sums.{one_if, sum_over}
use Rattle.ea_sound.specs.Present.{Rule}
use Rattle.ea_sound.specs.Rule.{names_of}
use Rattle.ea_sound.specs.Standing.{standing_nodes}
use Rattle.ea_sound.proofs.FewNodes.{alike_among}
use Rattle.ea_sound.proofs.Global.{anywhere-only}
use Rattle.ea_sound.proofs.NodeSpots.{most-one}
use Rattle.ea_sound.proofs.SoundNodes.{nodes-exact}
use Rattle.ea_sound.proofs.Totals.{total-part, total_at-part, total_at-same}

-- nodes of a name are those that weigh, and so are those of a carrier
block-node : (n : ℕ) (p : Spot) (d : Node)
    → one_if (are_alike (Block n p) d) ≡ of_node (only n) d
block-node n p (Block m q) = grind arith
block-node n p (Carrier c) = refl

carrier-node : (c i : ℕ) (d : Node)
    → one_if (are_alike (Carrier c) d) ≡ of_carrier_node (anywhere c) i d
carrier-node c i (Block m q) = refl
carrier-node c i (Carrier d) = grind arith

block-alike : (n : ℕ) (p : Spot) (ms : List Mark)
    → alike_in (Block n p) ms ≡ sum_over (of_mark (only n)) ms
block-alike n p [] = refl
block-alike n p (m ∷ ms) = omega (arith, block-node n p m.node, block-alike n p ms)

carrier-alike : (c i : ℕ) (ms : List Mark)
    → alike_in (Carrier c) ms ≡ sum_over (of_carrier_mark (anywhere c) i) ms
carrier-alike c i [] = refl
carrier-alike c i (m ∷ ms) = omega (arith, carrier-node c i m.node, carrier-alike c i ms)

block-among : (n : ℕ) (p : Spot) (nodes : List Node)
    → alike_among (Block n p) nodes ≡ sum_over (of_node (only n)) nodes
block-among n p [] = refl
block-among n p (d ∷ nodes) = omega (arith, block-node n p d, block-among n p nodes)

carrier-among : (c i : ℕ) (nodes : List Node)
    → alike_among (Carrier c) nodes ≡ sum_over (of_carrier_node (anywhere c) i) nodes
carrier-among c i [] = refl
carrier-among c i (d ∷ nodes) = omega (arith, carrier-node c i d, carrier-among c i nodes)

module _ (e : Setup) (w : State) (rule : Rule e w) where
  pub standing-once : (node : Node) → standing_nodes e.schedulers node w.shared ≤ 1
  standing-once (Block n p) = omega (
    arith,
    rule.kept.names.balance (only n),
    rule.kept.names.once n,
    total_at-same (λ i. alike_in (Block n p)) (λ i. sum_over (of_mark (only n))) w.shared.queues
        (seats e) (λ i l. block-alike n p (w.shared.queues i)),
    total_at-same (λ i. alike_in (Block n p)) (λ i. sum_over (of_mark (only n))) w.shared.rests
        (seats e) (λ i l. block-alike n p (w.shared.rests i)),
  )
  standing-once (Carrier d) = omega (
    arith,
    nodes-exact e w rule.kept (anywhere d) d (anywhere-only d),
    most-one d (w.shared.places d),
    total_at-same (λ i. alike_in (Carrier d)) (λ i. sum_over (of_carrier_mark (anywhere d) i))
        w.shared.queues (seats e) (λ i l. carrier-alike d i (w.shared.queues i)),
    total_at-same (λ i. alike_in (Carrier d)) (λ i. sum_over (of_carrier_mark (anywhere d) i))
        w.shared.rests (seats e) (λ i l. carrier-alike d i (w.shared.rests i)),
  )

  -- those that a walk passed, and those that are left of it
  module _ (i : ℕ) (seat : i < seats e) where
    pub walked-once : (node : Node)
        → alike_among node (w.actors i).passed + alike_in node (w.shared.rests i) ≤ 1
    walked-once (Block n p) = omega (
      arith,
      rule.kept.names.balance (only n),
      rule.kept.names.once n,
      total-part (names_of (only n)) w.actors i (seats e) seat,
      total-part (sum_over (of_mark (only n))) w.shared.rests i (seats e) seat,
      block-among n p (w.actors i).passed,
      block-alike n p (w.shared.rests i),
    )
    walked-once (Carrier d) = omega (
      arith,
      nodes-exact e w rule.kept (anywhere d) d (anywhere-only d),
      most-one d (w.shared.places d),
      total_at-part (of_carrier_actor (anywhere d)) w.actors i (seats e) seat,
      total_at-part (λ j. sum_over (of_carrier_mark (anywhere d) j)) w.shared.rests i (seats e)
          seat,
      carrier-among d i (w.actors i).passed,
      carrier-alike d i (w.shared.rests i),
    )

all-small : (n : ℕ) (ops : List Op) → All (IsOperation n) ops → greatest_of ops ≤ MAX_NAME
all-small n [] all = omega arith
all-small n (o ∷ ops) all = omega (
  arith,
  one o (All-head (IsOperation n) o ops all),
  all-small n ops (All-tail (IsOperation n) o ops all),
) where
  one : (o : Op) → IsOperation n o → greatest_in o ≤ MAX_NAME
  one (Alloc m bytes) is = is.0.1
  one (Free m) is = is.1
  one (Realloc old m bytes) is = omega (arith, is.0.1, is.1.1)
  one (Give m to) is = is.0.1
  one (Take m tries) is = is.0.1
  one Info is = omega arith
  one Idle is = omega arith

pub small-names : (schedulers : ℕ) (t : Trace) → IsValidTrace schedulers t → t.greatest ≤ MAX_NAME
small-names schedulers t made =
    omega (arith, made.greatest, all-small schedulers (operations_of t) made.operations)
