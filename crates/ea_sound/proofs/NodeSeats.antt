-- Where a scheduler links a node, and whose a carrier is that returns.
use Rattle.std.proofs.Common.{◌≡◌, ◌≢◌, ℕ, zero, suc, ◌+◌, ◌<◌, ◌≤◌, true, refl, sym, ap, ◌∙◌}
use Rattle.std.proofs.Common.{subst, inl, inr, arith}
use Rattle.std.proofs.lemmas.Bool.{cases_eq}
use Rattle.ea_model.specs.Content.{Content}
use Rattle.ea_machine.specs.declared.nodes.Node.{Node}
use Rattle.ea_machine.specs.declared.nodes.Node.TheVariants.{Carrier}
use Rattle.ea_machine.specs.declared.stages.Stage.TheVariants.{Routed, Collecting}
use Rattle.ea_machine.specs.declared.stages.Route.TheVariants.{Linking, Pushing}
use Rattle.ea_machine.specs.Actor.{Actor}
use Rattle.ea_machine.specs.declared.tasks.Why.{Why}
use Rattle.ea_machine.specs.declared.tasks.Gone.{Gone}
use Rattle.ea_sound.specs.Contents.{AtHome, seats}
use Rattle.ea_sound.specs.NodePlaces.{anywhere, carrier_nodes, node_at, of_carrier_actor}
use Rattle.ea_sound.specs.NodePlaces.{of_carrier_hand, of_link, of_unlinked}
use Rattle.ea_machine.specs.Owners.{CarrierAt, Absent, Employed, Pooled, Busy, Returning}
use Rattle.ea_model.specs.Instance.{owner_of}
use Rattle.ea_machine.specs.Setup.{Setup, is_scheduler, migration}
use Rattle.ea_machine.specs.State.{State}
use Rattle.ea_machine.specs.Sums.{sum_over, total_at}
use Rattle.ea_sound.specs.Rule.{Belongs, Kept, returning_at}
use Rattle.ea_sound.proofs.Employers.{mine, mine-itself, mine-only, not-mine, there-on}
use Rattle.ea_sound.proofs.Global.{anywhere-only}
use Rattle.ea_sound.proofs.OwnEntries.{owner-scheduler, somewhere-returning}
use Rattle.ea_sound.proofs.SoundNodes.{nodes-exact}
use Rattle.ea_sound.proofs.Totals.{total-part, total_at-part, total_at-within}
use Rattle.ea_sound.proofs.UnlinkedRows.{node_at-itself, node_at-other}
use Rattle.ea_sound.proofs.Weights.{one-itself}

module _ (e : Setup) (w : State) (k : Kept e w) where
  -- a carrier that returns has a number, and its owner is a scheduler
  module _ (c i : ℕ) (x : Content) (returns : w.shared.places c ≡ Returning i x) where
    returning-there : w.shared.places c ≢ Absent
    returning-there z = let never : Returning i x ≡ Absent = sym returns ∙ z in cc

    pub returning-on : migration e ≡ true
    returning-on = there-on e w k c returning-there

    returning-owner : x.owner ≡ owner_of c
    returning-owner = (subst (AtHome (λ y. Belongs e y.owner y)) returns (k.ranges.home c)).owner
        ∙ ap owner_of (k.placed.returning c i x returns).0

    pub returning-scheduler : is_scheduler e (owner_of c) ≡ true
    returning-scheduler = subst (λ j. is_scheduler e j ≡ true) returning-owner
        (owner-scheduler e w k x (somewhere-returning e w k c i x returns))

  -- a carrier whose node stands returns
  abbrev pub IsReturning : ℕ → Type 0
  IsReturning c = (i : ℕ) × (x : Content) × (w.shared.places c ≡ Returning i x)

  pub node-returning : (c : ℕ) → 1 ≤ carrier_nodes e (anywhere c) w → IsReturning c
  node-returning c some = by (w.shared.places c) refl
      (omega (arith, some, nodes-exact e w k (anywhere c) c (anywhere-only c))) where
        by : (p : CarrierAt) → w.shared.places c ≡ p → 1 ≤ returning_at (anywhere c) c p
            → IsReturning c
        by Absent q l = absurd (omega (arith, l))
        by (Employed i) q l = absurd (omega (arith, l))
        by (Pooled i g x) q l = absurd (omega (arith, l))
        by (Busy i) q l = absurd (omega (arith, l))
        by (Returning i x) q l = (i, x, q)

  module _ (me : ℕ) (seat : me < seats e) where
    module _ (why : Why) (gone : Gone) where
      pub pushing-returning : (c to : ℕ)
          → (w.actors me).stage ≡ Routed (Pushing (Carrier c) to) why gone → IsReturning c
      pushing-returning c to stage = node-returning c (omega (
        arith,
        ap (of_carrier_hand (anywhere c) me) stage,
        one-itself c,
        total_at-part (of_carrier_actor (anywhere c)) w.actors me (seats e) seat,
      ))

      -- a scheduler links a node at a seat
      pub linking-seat : (node : Node) (to : ℕ)
          → (w.actors me).stage ≡ Routed (Linking node to) why gone → to < seats e
      linking-seat node to stage =
          by (total_at (seats e) (λ i. sum_over (of_unlinked (node_at node to) i)) w.shared.queues)
          refl where
            stands : 1 ≤ total_at (seats e) (λ i. sum_over (of_unlinked (node_at node to) i))
                w.shared.queues
                + total_at (seats e) (λ i. sum_over (of_unlinked (node_at node to) i))
                w.shared.rests
            stands = omega (
              arith,
              k.unlinked.balance (node_at node to),
              total-part (λ (a : Actor). of_link (node_at node to) a.stage) w.actors me (seats e)
                  seat,
              ap (of_link (node_at node to)) stage,
              node_at-itself node to,
            )

            by : (n : ℕ)
                → total_at (seats e) (λ i. sum_over (of_unlinked (node_at node to) i))
                w.shared.queues ≡ n
                → to < seats e
            by zero z = total_at-within (λ i. sum_over (of_unlinked (node_at node to) i))
                w.shared.rests to (seats e)
                (λ i other. node_at-other (λ j n. 0) to node i (w.shared.rests i) other)
                (omega (arith, stands, z))
            by (suc n) z = total_at-within (λ i. sum_over (of_unlinked (node_at node to) i))
                w.shared.queues to (seats e)
                (λ i other. node_at-other (λ j n. 0) to node i (w.shared.queues i) other)
                (omega (arith, z))

-- a carrier that a scheduler is to collect returns to it
pub collecting-home : (e : Setup) (w : State) → Kept e w → (me : ℕ) → me < seats e → (c : ℕ)
    → (w.actors me).stage ≡ Collecting c → (x : Content) × (w.shared.places c ≡ Returning me x)
collecting-home e w k me seat c now = by (w.shared.places c) refl (omega (
  arith,
  ap (of_carrier_hand (mine me c) me) now,
  mine-itself me c,
  total_at-part (of_carrier_actor (mine me c)) w.actors me (seats e) seat,
  nodes-exact e w k (mine me c) c (mine-only me c),
)) where
  by : (p : CarrierAt) → w.shared.places c ≡ p → 1 ≤ returning_at (mine me c) c p
      → (x : Content) × (w.shared.places c ≡ Returning me x)
  by Absent q l = absurd (omega (arith, l))
  by (Employed i) q l = absurd (omega (arith, l))
  by (Pooled i g x) q l = absurd (omega (arith, l))
  by (Busy i) q l = absurd (omega (arith, l))
  by (Returning i x) q l = elim (cases_eq i me) [
    | inl s ↦ (x, q ∙ ap (λ j. Returning j x) s)
    | inr other ↦ absurd (omega (arith, l, not-mine me c i c other))
  ]
