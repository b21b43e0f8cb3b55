-- Where the node is that a scheduler is about to push, or to link.
use Rattle.std.proofs.Common.{◌≡◌, ℕ, zero, suc, ◌+◌, ◌<◌, ◌≤◌, Bool, true, false, List, [], ◌∷◌}
use Rattle.std.proofs.Common.{refl, sym, ap, subst, inl, inr, arith}
use Rattle.std.specs.Prelude.{All, Contains, ◌==◌, ◌&&◌}
use Rattle.std.proofs.lemmas.Bool.{cases_lt}
use Rattle.std.proofs.lemmas.List.Elements.{All-cons, All-nil, All-weaker, Contains-append_left}
use Rattle.std.proofs.lemmas.List.Elements.{Contains-append_right, Contains-push}
use Rattle.ea_model.specs.declared.carriers.Spot.{Spot}
use Rattle.ea_machine.specs.declared.nodes.Node.{Node}
use Rattle.ea_machine.specs.declared.nodes.Node.TheVariants.{Block, Carrier}
use Rattle.ea_machine.specs.declared.stages.Stage.TheVariants.{Routed}
use Rattle.ea_machine.specs.declared.stages.Route.TheVariants.{Linking, Pushing}
use Rattle.ea_machine.specs.Alike.{HasNoAlike, are_alike}
use Rattle.ea_machine.specs.declared.tasks.Why.{Why}
use Rattle.ea_machine.specs.declared.tasks.Gone.{Gone}
use Rattle.ea_sound.specs.Contents.{seats}
use Rattle.ea_machine.specs.Guards.{IsNowhere, IsUnlinkedAt}
use Rattle.ea_sound.specs.Names.{of_hand, of_mark, of_node, only}
use Rattle.ea_sound.specs.NodePlaces.{anywhere, node_at, of_carrier_actor, of_carrier_hand}
use Rattle.ea_sound.specs.NodePlaces.{of_carrier_mark, of_carrier_node, of_link, of_unlinked}
use Rattle.ea_machine.specs.Nodes.{Mark, pushed, same_node, same_spot}
use Rattle.ea_machine.specs.Owners.{CarrierAt, Absent, Employed, Pooled, Busy, Returning}
use Rattle.ea_machine.specs.Setup.{Setup}
use Rattle.ea_sound.specs.Sound.{HasNothing}
use Rattle.ea_machine.specs.State.{State}
use Rattle.ea_machine.specs.Sums.{one_if, sum_over, total_at}
use Rattle.ea_sound.specs.Present.{Rule}
use Rattle.ea_sound.specs.Rule.{names_of, returning_at}
use Rattle.ea_sound.proofs.Global.{anywhere-only}
use Rattle.ea_sound.proofs.Marks.{same_node-is}
use Rattle.ea_sound.proofs.NodeSeats.{linking-seat}
use Rattle.ea_sound.proofs.Numbered.{no_scheduler-beyond}
use Rattle.ea_sound.proofs.SoundNodes.{nodes-exact}
use Rattle.ea_sound.proofs.Totals.{total-part, total_at-part}
use Rattle.ea_sound.proofs.UnlinkedRows.{node_stands}
use Rattle.ea_sound.proofs.Weights.{one-itself}

-- items that weigh nothing
all-zero : {A : Type 0} (f : A → ℕ) (xs : List A) → sum_over f xs ≡ 0 → All (λ x. f x ≡ 0) xs
all-zero f [] z = All-nil (λ x. f x ≡ 0)
all-zero f (x ∷ xs) z = All-cons (λ x. f x ≡ 0) x xs (omega (arith, z))
    (all-zero f xs (omega (arith, z)))

-- a node that weighs nothing is of another name, or of another carrier
other-block : (n : ℕ) (p : Spot) (d : Node) → of_node (only n) d ≡ 0
    → are_alike (Block n p) d ≡ false
other-block n p (Block m q) z = grind (arith, z)
other-block n p (Carrier c) z = refl

other-carrier : (c i : ℕ) (d : Node) → of_carrier_node (anywhere c) i d ≡ 0
    → are_alike (Carrier c) d ≡ false
other-carrier c i (Block m q) z = refl
other-carrier c i (Carrier d) z = grind (arith, z)

-- so it is another node
other-node : (node d : Node) → are_alike node d ≡ false → same_node node d ≡ false
other-node (Block n p) (Block m q) other = ap (λ b. b && same_spot p q) other
other-node (Block n p) (Carrier d) other = refl
other-node (Carrier c) (Block m q) other = refl
other-node (Carrier c) (Carrier d) other = other

-- a node that isn't linked and counts stands there
is-pushed : (node : Node) (to : ℕ) (d : Node) (linked : Bool)
    → 1 ≤ of_unlinked (node_at node to) to (record { node = d; linked = linked })
    → record { node = d; linked = linked } ≡ pushed node
is-pushed node to d true some = absurd (omega (arith, some))
is-pushed node to d false some =
    ap pushed (sym (same_node-is node d (same (same_node node d) some)))
  where
    same : (b : Bool) → 1 ≤ one_if ((to == to) && b) → b ≡ true
    same true l = refl
    same false l = absurd (none (to == to) l) where
      none : (b : Bool) → 1 ≤ one_if (b && false) → ⊥
      none true l = omega (arith, l)
      none false l = omega (arith, l)

stands-there : (node : Node) (to : ℕ) (ms : List Mark)
    → 1 ≤ sum_over (of_unlinked (node_at node to) to) ms → Contains ms (pushed node)
stands-there node to [] some = absurd (omega (arith, some))
stands-there node to (m ∷ ms) some =
    by (of_unlinked (node_at node to) to m) refl (stands-there node to ms) where
      by : (k : ℕ) → of_unlinked (node_at node to) to m ≡ k
          → (1 ≤ sum_over (of_unlinked (node_at node to) to) ms → Contains ms (pushed node))
          → Contains (m ∷ ms) (pushed node)
      by zero z later = Contains-append_right (m ∷ []) ms (pushed node)
          (later (omega (arith, some, z)))
      by (suc k) z later = subst (Contains (m ∷ ms))
          (is-pushed node to m.node m.linked (omega (arith, z)))
          (Contains-append_left (m ∷ []) ms m (Contains-push [] m))

pub most-one : (c : ℕ) (p : CarrierAt) → returning_at (anywhere c) c p ≤ 1
most-one c Absent = omega arith
most-one c (Employed i) = omega arith
most-one c (Pooled i g x) = omega arith
most-one c (Busy i) = omega arith
most-one c (Returning i x) = omega (arith, one-itself c)

module _ (e : Setup) (w : State) (rule : Rule e w) where
  -- where all that counts of a node is with a scheduler, none of its name or carrier stands
  -- elsewhere
  module _ (node : Node) (f : ℕ → Mark → ℕ)
      (other : (i : ℕ) (m : Mark) → f i m ≡ 0 → are_alike node m.node ≡ false)
      (queues : total_at (seats e) (λ i. sum_over (f i)) w.shared.queues ≡ 0)
      (rests : total_at (seats e) (λ i. sum_over (f i)) w.shared.rests ≡ 0) where
    abbrev Others : List Mark → Type 0
    Others ms = All (λ m. are_alike node m.node ≡ false) ms

    others-list : (i : ℕ) (ms : List Mark) → sum_over (f i) ms ≡ 0 → Others ms
    others-list i ms z = All-weaker (λ m. f i m ≡ 0) (λ m. are_alike node m.node ≡ false)
        (other i) ms (all-zero (f i) ms z)

    no_alike : HasNoAlike node w.shared
    no_alike i = elim (cases_lt i (seats e)) [
      | inl seat ↦ (
        others-list i (w.shared.queues i) (omega (
          arith,
          queues,
          total_at-part (λ j. sum_over (f j)) w.shared.queues i (seats e) seat,
        )),
        others-list i (w.shared.rests i) (omega (
          arith,
          rests,
          total_at-part (λ j. sum_over (f j)) w.shared.rests i (seats e) seat,
        )),
      )
      | inr past ↦
          let has : HasNothing i w = rule.present.nobody i (no_scheduler-beyond e i past) in (
            subst Others (sym has.queue) (All-nil (λ m. are_alike node m.node ≡ false)),
            subst Others (sym has.rest) (All-nil (λ m. are_alike node m.node ≡ false)),
          )
    ]

  module _ (me : ℕ) (seat : me < seats e) (why : Why) (gone : Gone) where
    -- no node of the name or carrier of the one that a scheduler is about to push is in a queue or
    -- in a walk
    pub pushing-no_alike : (node : Node) (to : ℕ)
        → (w.actors me).stage ≡ Routed (Pushing node to) why gone → HasNoAlike node w.shared
    pushing-no_alike (Block n p) to now =
        let mine = total-part (names_of (only n)) w.actors me (seats e) seat in
        let hand = ap (of_hand (only n)) now in
        no_alike (Block n p) (λ i. of_mark (only n)) (λ i m z. other-block n p m.node z)
        (omega (
          arith,
          rule.kept.names.balance (only n),
          rule.kept.names.once n,
          mine,
          hand,
          one-itself n,
        ))
        (omega (
          arith,
          rule.kept.names.balance (only n),
          rule.kept.names.once n,
          mine,
          hand,
          one-itself n,
        ))
    pushing-no_alike (Carrier c) to now =
        let mine = total_at-part (of_carrier_actor (anywhere c)) w.actors me (seats e) seat in
        let hand = ap (of_carrier_hand (anywhere c) me) now in
        let exact = nodes-exact e w rule.kept (anywhere c) c (anywhere-only c) in
        no_alike (Carrier c) (of_carrier_mark (anywhere c)) (λ i m z. other-carrier c i m.node z)
        (omega (arith, exact, most-one c (w.shared.places c), mine, hand, one-itself c))
        (omega (arith, exact, most-one c (w.shared.places c), mine, hand, one-itself c))

    -- so the node itself is in none
    pub pushing-nowhere : (node : Node) (to : ℕ)
        → (w.actors me).stage ≡ Routed (Pushing node to) why gone → IsNowhere node w.shared
    pushing-nowhere node to now i =
        let apart = pushing-no_alike node to now i in (others _ apart.0, others _ apart.1) where
          others : (ms : List Mark) → All (λ m. are_alike node m.node ≡ false) ms
              → All (λ m. same_node node m.node ≡ false) ms
          others ms = All-weaker (λ m. are_alike node m.node ≡ false)
              (λ m. same_node node m.node ≡ false) (λ m. other-node node m.node) ms

    -- the node that it is about to link is in the queue or the walk, and not linked
    pub linking-unlinked : (node : Node) (to : ℕ)
        → (w.actors me).stage ≡ Routed (Linking node to) why gone
        → IsUnlinkedAt node to w.shared
    linking-unlinked node to now =
        by (sum_over (of_unlinked (node_at node to) to) (w.shared.queues to)) refl where
          stands : 1 ≤ sum_over (of_unlinked (node_at node to) to) (w.shared.queues to)
              + sum_over (of_unlinked (node_at node to) to) (w.shared.rests to)
          stands = node_stands e w me seat rule.kept.unlinked node to
              (linking-seat e w rule.kept me seat why gone node to now) (λ u. ap (of_link u) now)

          by : (k : ℕ)
              → sum_over (of_unlinked (node_at node to) to) (w.shared.queues to) ≡ k
              → IsUnlinkedAt node to w.shared
          by zero z = inr (stands-there node to (w.shared.rests to) (omega (arith, stands, z)))
          by (suc k) z = inl (stands-there node to (w.shared.queues to) (omega (arith, z)))
