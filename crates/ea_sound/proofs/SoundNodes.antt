-- Nodes of carriers that return, and nodes that aren't linked.
use Rattle.std.proofs.Common.{◌≡◌, ◌≢◌, ℕ, ◌<◌, ◌≤◌, Bool, true, false, refl, ap, ◌∙◌, inl, inr}
use Rattle.std.proofs.Common.{arith}
use Rattle.std.specs.Prelude.{◌==◌, ◌&&◌}
use Rattle.std.proofs.lemmas.Bool.{cases_lt}
use Rattle.ea_model.specs.declared.carriers.Spot.{Spot}
use Rattle.ea_model.specs.Content.{Content}
use Rattle.ea_machine.specs.declared.nodes.Node.{Node}
use Rattle.ea_machine.specs.declared.nodes.Node.TheVariants.{Block, Carrier}
use Rattle.ea_sound.specs.Contents.{seats, slots}
use Rattle.ea_sound.specs.Names.{of_mark, of_node, only}
use Rattle.ea_sound.specs.NodePlaces.{LinksNodes, ReturnsCarriers, anywhere, at_instance}
use Rattle.ea_sound.specs.NodePlaces.{before_link, carrier_nodes, is_returning, node_at}
use Rattle.ea_sound.specs.NodePlaces.{of_carrier_mark, of_carrier_node, of_unlinked, unlinked_at}
use Rattle.ea_machine.specs.Nodes.{Mark, same_spot}
use Rattle.ea_machine.specs.Owners.{CarrierAt, Absent, Employed, Pooled, Busy, Returning}
use Rattle.ea_model.specs.Instance.{owner_of}
use Rattle.ea_machine.specs.Setup.{Setup}
use Rattle.ea_sound.specs.Sound.{HasNothing}
use Rattle.ea_machine.specs.State.{State}
use Rattle.ea_machine.specs.Sums.{one_if, sum_over}
use Rattle.ea_sound.specs.Present.{Rule}
use Rattle.ea_sound.specs.Rule.{Kept, returning_at}
use Rattle.ea_sound.proofs.Global.{anywhere-only}
use Rattle.ea_sound.proofs.Numbered.{OnlyOf, no_scheduler-beyond, total_at-exact}
use Rattle.ea_sound.proofs.Totals.{total-part, total_at-part}
use Rattle.ea_sound.proofs.UnlinkedRows.{node_at-other}
use Rattle.ea_sound.proofs.Weights.{one-most, sum-less}

returning-other : (g : ℕ → ℕ → ℕ) (c : ℕ) → OnlyOf c g → (d : ℕ) (p : CarrierAt) → d ≢ c
    → returning_at g d p ≡ 0
returning-other g c only d Absent other = refl
returning-other g c only d (Employed i) other = refl
returning-other g c only d (Pooled i l x) other = refl
returning-other g c only d (Busy i) other = refl
returning-other g c only d (Returning i x) other = only i d other

at_instance-only : (i c : ℕ) → OnlyOf c (at_instance i c)
at_instance-only i c j d other = grind (arith, other)

anywhere-here : (c : ℕ) (p : CarrierAt) → returning_at (anywhere c) c p ≡ one_if (is_returning p)
anywhere-here c Absent = refl
anywhere-here c (Employed i) = refl
anywhere-here c (Pooled i l x) = refl
anywhere-here c (Busy i) = refl
anywhere-here c (Returning i x) = grind arith

owner-here : (c : ℕ) (p : CarrierAt) → ((i : ℕ) (x : Content) → p ≡ Returning i x → i ≡ owner_of c)
    → returning_at (at_instance (owner_of c) c) c p ≡ one_if (is_returning p)
owner-here c Absent to = refl
owner-here c (Employed i) to = refl
owner-here c (Pooled i l x) to = refl
owner-here c (Busy i) to = refl
owner-here c (Returning i x) to = itself (owner_of c) (to i x refl) where
  itself : (o : ℕ) → i ≡ o → at_instance o c i c ≡ 1
  itself o is = grind (arith, is)

returning-most : (i c : ℕ) (p : CarrierAt) → returning_at (at_instance i c) c p ≤ 1
returning-most i c Absent = omega arith
returning-most i c (Employed j) = omega arith
returning-most i c (Pooled j l x) = omega arith
returning-most i c (Busy j) = omega arith
returning-most i c (Returning j x) = one-most ((j == i) && (c == c))

-- a node that isn't linked is one of the nodes of its block or carrier
of_name : (n : ℕ) (p : Spot) (i : ℕ) (linked : Bool) (node : Node)
    → of_unlinked (node_at (Block n p) i) i (record { node = node; linked = linked })
    ≤ of_node (only n) node
of_name n p i true node = omega arith
of_name n p i false (Carrier c) = grind arith
of_name n p i false (Block m q) = by (same_spot p q) where
  by : (b : Bool) → one_if ((i == i) && ((n == m) && b)) ≤ one_if (m == n)
  by true = grind arith
  by false = grind arith

of_carrier : (c i : ℕ) (linked : Bool) (node : Node)
    → of_unlinked (node_at (Carrier c) i) i (record { node = node; linked = linked })
    ≤ of_carrier_node (at_instance i c) i node
of_carrier c i true node = omega arith
of_carrier c i false (Carrier d) = grind arith
of_carrier c i false (Block m q) = grind arith

module _ (e : Setup) (w : State) (k : Kept e w) where
  -- the nodes of a carrier by its word
  pub nodes-exact : (g : ℕ → ℕ → ℕ) (c : ℕ) → OnlyOf c g
      → carrier_nodes e g w ≡ returning_at g c (w.shared.places c)
  nodes-exact g c only = k.returns.balance g
      ∙ total_at-exact (returning_at g) w.shared.places c (slots e)
      (λ d other. returning-other g c only d (w.shared.places d) other)
      (λ past. ap (returning_at g c) (k.placed.beyond c past))

  -- a node stands once at most at an instance without being linked
  pub unlinked-once : (node : Node) (i : ℕ) → i < seats e → unlinked_at node i w ≤ 1
  unlinked-once (Block n p) i seat = omega (
    arith,
    sum-less (of_unlinked (node_at (Block n p) i) i) (of_mark (only n)) (w.shared.queues i)
        (λ j d within. of_name n p i _ _),
    sum-less (of_unlinked (node_at (Block n p) i) i) (of_mark (only n)) (w.shared.rests i)
        (λ j d within. of_name n p i _ _),
    total-part (sum_over (of_mark (only n))) w.shared.queues i (seats e) seat,
    total-part (sum_over (of_mark (only n))) w.shared.rests i (seats e) seat,
    k.names.balance (only n),
    k.names.once n,
  )
  unlinked-once (Carrier c) i seat = omega (
    arith,
    sum-less (of_unlinked (node_at (Carrier c) i) i) (of_carrier_mark (at_instance i c) i)
        (w.shared.queues i) (λ j d within. of_carrier c i _ _),
    sum-less (of_unlinked (node_at (Carrier c) i) i) (of_carrier_mark (at_instance i c) i)
        (w.shared.rests i) (λ j d within. of_carrier c i _ _),
    total_at-part (λ j. sum_over (of_carrier_mark (at_instance i c) j)) w.shared.queues i
        (seats e) seat,
    total_at-part (λ j. sum_over (of_carrier_mark (at_instance i c) j)) w.shared.rests i
        (seats e) seat,
    nodes-exact (at_instance i c) c (at_instance-only i c),
    returning-most i c (w.shared.places c),
  )

module _ (e : Setup) (w : State) (rule : Rule e w) where
  k : Kept e w
  k = rule.kept

  pub sound-returning : ReturnsCarriers e w
  sound-returning = record {
    empty = λ c i x is. ((k.placed.returning c i x is).1, (k.returns.to_owner c i x is).1);
    once = λ c. nodes-exact e w k (anywhere c) c (anywhere-only c)
        ∙ anywhere-here c (w.shared.places c);
    with_owner = λ c. nodes-exact e w k (at_instance (owner_of c) c) c
        (at_instance-only (owner_of c) c)
        ∙ owner-here c (w.shared.places c) (λ i x is. (k.returns.to_owner c i x is).0);
  }

  module _ (node : Node) (i : ℕ) where
    abbrev stands : ℕ → Mark → ℕ
    stands j = of_unlinked (node_at node i) j

    nobody : seats e ≤ i → HasNothing i w
    nobody past = rule.present.nobody i (no_scheduler-beyond e i past)

    balanced : unlinked_at node i w ≡ before_link e node i w
    balanced = omega (
      arith,
      k.unlinked.balance (node_at node i),
      total_at-exact (λ j. sum_over (stands j)) w.shared.queues i (seats e)
          (λ j other. node_at-other (λ i n. 0) i node j (w.shared.queues j) other)
          (λ past. ap (sum_over (stands i)) (nobody past).queue),
      total_at-exact (λ j. sum_over (stands j)) w.shared.rests i (seats e)
          (λ j other. node_at-other (λ i n. 0) i node j (w.shared.rests j) other)
          (λ past. ap (sum_over (stands i)) (nobody past).rest),
    )

    once : unlinked_at node i w ≤ 1
    once = elim (cases_lt i (seats e)) [
      | inl seat ↦ unlinked-once e w k node i seat
      | inr past ↦ omega (
        arith,
        ap (sum_over (stands i)) (nobody past).queue,
        ap (sum_over (stands i)) (nobody past).rest,
      )
    ]

  pub sound-unlinked : LinksNodes e w
  sound-unlinked node i = (balanced node i, once node i)
