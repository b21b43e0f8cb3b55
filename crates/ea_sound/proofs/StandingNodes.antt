-- Nodes in queues and in walks, and those that are about to be pushed: a block's has a name that a
-- block has, and a carrier's is that of a carrier that returns to its owner.
use Rattle.std.proofs.Common.{◌≡◌, ℕ, ◌<◌, ◌≤◌, false, List, [], ◌∷◌, sym, ap, subst, inl, inr}
use Rattle.std.proofs.Common.{arith}
use Rattle.std.specs.Prelude.{All}
use Rattle.std.proofs.lemmas.Bool.{cases_lt}
use Rattle.std.proofs.lemmas.List.Elements.{All-cons, All-nil}
use Rattle.ea_model.specs.declared.carriers.Spot.{Spot}
use Rattle.ea_model.specs.Content.{Content}
use Rattle.ea_machine.specs.declared.nodes.Node.{Node}
use Rattle.ea_machine.specs.declared.nodes.Node.TheVariants.{Block, Carrier}
use Rattle.ea_machine.specs.declared.tasks.Gone.{Gone}
use Rattle.ea_machine.specs.declared.tasks.Why.{Why}
use Rattle.ea_machine.specs.declared.stages.Stage.TheVariants.{Routed}
use Rattle.ea_machine.specs.declared.stages.Route.TheVariants.{Pushing}
use Rattle.ea_sound.specs.Contents.{seats}
use Rattle.ea_sound.specs.Names.{allocated, of_hand, of_mark, of_node, only}
use Rattle.ea_sound.specs.NodePlaces.{anywhere, carrier_nodes, of_carrier_actor, of_carrier_hand}
use Rattle.ea_sound.specs.NodePlaces.{of_carrier_mark, of_carrier_node}
use Rattle.ea_machine.specs.Nodes.{Mark}
use Rattle.ea_machine.specs.Owners.{Returning}
use Rattle.ea_sound.specs.Places.{IsNumber, is_there}
use Rattle.ea_machine.specs.Setup.{Setup, is_scheduler}
use Rattle.ea_machine.specs.State.{State}
use Rattle.ea_machine.specs.Sums.{one_if, sum_over, total, total_at}
use Rattle.ea_sound.specs.Present.{Rule}
use Rattle.ea_sound.specs.Rule.{Kept, names_of}
use Rattle.ea_sound.proofs.Homes.{sum-there}
use Rattle.ea_sound.proofs.NodeSeats.{node-returning, returning-on}
use Rattle.ea_sound.proofs.Numbered.{no_scheduler-beyond}
use Rattle.ea_sound.proofs.SoundOwners.{content-number}
use Rattle.ea_sound.proofs.Totals.{total-part, total_at-part}
use Rattle.ea_sound.proofs.Weights.{one-itself}

-- what holds of each item that weighs no more than all
pub all-parts : {A : Type 0} (P : A → Type 0) (xs : List A)
    → ((x : A) → ((f : A → ℕ) → f x ≤ sum_over f xs) → P x) → All P xs
all-parts P [] holds = All-nil P
all-parts P (x ∷ xs) holds = All-cons P x xs (holds x (λ f. omega arith))
    (all-parts P xs (λ y part. holds y (λ f. omega (arith, part f))))

module _ (e : Setup) (w : State) where
  -- the node counts among those at an instance
  pub record IsAt (i : ℕ) (node : Node) : Type 0 where
    pub names : (f : ℕ → Spot → ℕ) → of_node f node ≤ allocated e f w
    pub carriers : (g : ℕ → ℕ → ℕ) → of_carrier_node g i node ≤ carrier_nodes e g w

module _ (e : Setup) (w : State) (k : Kept e w) where
  -- the name is that of a block
  pub at-name : (i n : ℕ) (p : Spot) → IsAt e w i (Block n p) → 1 ≤ allocated e (only n) w
  at-name i n p at = omega (arith, at.names (only n), one-itself n)

  -- a carrier that returns has a number
  returning-number : (c i : ℕ) (x : Content) → w.shared.places c ≡ Returning i x → IsNumber e c
  returning-number c i x returns = content-number e w k c (omega (
    arith,
    sum-there e w k c (returning-on e w k c i x returns),
    ap (λ p. one_if (is_there p)) returns,
  ))

  -- so has the carrier of a node
  pub at-number : (i c : ℕ) → IsAt e w i (Carrier c) → IsNumber e c
  at-number i c at =
      let r = node-returning e w k c (omega (arith, at.carriers (anywhere c), one-itself c)) in
      returning-number c r.0 r.1 r.2

  module _ (me : ℕ) (seat : me < seats e) where
    -- the node that a scheduler is about to push
    pub pushing-at : (node : Node) (to : ℕ) (why : Why) (gone : Gone)
        → (w.actors me).stage ≡ Routed (Pushing node to) why gone → IsAt e w to node
    pushing-at node to why gone now = record {
      names = λ f. omega (
        arith,
        ap (of_hand f) now,
        total-part (names_of f) w.actors me (seats e) seat,
        k.names.balance f,
      );
      carriers = λ g. omega (
        arith,
        ap (of_carrier_hand g me) now,
        total_at-part (of_carrier_actor g) w.actors me (seats e) seat,
      );
    }

    -- those that its walk passed
    pub passed-at : All (IsAt e w me) (w.actors me).passed
    passed-at = all-parts (IsAt e w me) (w.actors me).passed (λ node part. record {
      names = λ f. omega (
        arith,
        part (of_node f),
        total-part (names_of f) w.actors me (seats e) seat,
        k.names.balance f,
      );
      carriers = λ g. omega (
        arith,
        part (of_carrier_node g me),
        total_at-part (of_carrier_actor g) w.actors me (seats e) seat,
      );
    })

module _ (e : Setup) (w : State) (rule : Rule e w) where
  -- the nodes of queues, or those of walks that aren't passed
  module _ (lists : ℕ → List Mark)
      (names : (f : ℕ → Spot → ℕ) → total (seats e) (sum_over (of_mark f)) lists
      ≤ allocated e f w)
      (carriers : (g : ℕ → ℕ → ℕ)
      → total_at (seats e) (λ i. sum_over (of_carrier_mark g i)) lists ≤ carrier_nodes e g w)
      (empty : (i : ℕ) → is_scheduler e i ≡ false → lists i ≡ []) where
    abbrev AreAt : ℕ → List Mark → Type 0
    AreAt i ms = All (λ m. IsAt e w i m.node) ms

    marks-at : (i : ℕ) → AreAt i (lists i)
    marks-at i = elim (cases_lt i (seats e)) [
      | inl seat ↦ all-parts (λ m. IsAt e w i m.node) (lists i) (λ m part. record {
        names = λ f. omega (
          arith,
          part (of_mark f),
          total-part (sum_over (of_mark f)) lists i (seats e) seat,
          names f,
        );
        carriers = λ g. omega (
          arith,
          part (of_carrier_mark g i),
          total_at-part (λ j. sum_over (of_carrier_mark g j)) lists i (seats e) seat,
          carriers g,
        );
      })
      | inr past ↦ subst (AreAt i) (sym (empty i (no_scheduler-beyond e i past)))
          (All-nil (λ m. IsAt e w i m.node))
    ]

  -- those of a queue
  pub queue-at : (i : ℕ) → All (λ m. IsAt e w i m.node) (w.shared.queues i)
  queue-at = marks-at w.shared.queues (λ f. omega (arith, rule.kept.names.balance f))
      (λ g. omega arith) (λ i none. (rule.present.nobody i none).queue)

  -- those of a walk that aren't passed
  pub rest-at : (i : ℕ) → All (λ m. IsAt e w i m.node) (w.shared.rests i)
  rest-at = marks-at w.shared.rests (λ f. omega (arith, rule.kept.names.balance f))
      (λ g. omega arith) (λ i none. (rule.present.nobody i none).rest)
