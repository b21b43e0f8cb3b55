-- Where the nodes of carriers stand that return to their owners, and which nodes aren't linked.
-- `ReturnsCarriers` and `LinksNodes` are these parts of a sound state.
-- Source: Erlang/OTP, 'Carrier Migration', section 'Migration': the owner alone deallocates a
-- carrier.
use Rattle.std.specs.Prelude.{◌≡◌, ℕ, ◌+◌, ◌≤◌, ◌&&◌, Bool, true, false, ◌==◌, if◌then◌else◌, []}
use Rattle.ea_model.specs.declared.carriers.Kind.TheVariants.{Multi}
use Rattle.ea_model.specs.Content.{Content}
use Rattle.ea_machine.specs.declared.nodes.Node.{Node}
use Rattle.ea_machine.specs.declared.nodes.Node.TheVariants.{Block, Carrier}
use Rattle.ea_machine.specs.Nodes.{Mark, same_node}
use Rattle.ea_machine.specs.Owners.{CarrierAt, Absent, Employed, Pooled, Busy, Returning}
use Rattle.ea_model.specs.Instance.{owner_of}
use Rattle.ea_machine.specs.Setup.{Setup}
use Rattle.ea_machine.specs.declared.stages.Stage.{Stage}
use Rattle.ea_machine.specs.declared.stages.Stage.TheVariants.{Routed, Collecting}
use Rattle.ea_machine.specs.declared.stages.Route.{Route}
use Rattle.ea_machine.specs.declared.stages.Route.TheVariants.{Looking, Trying, Settling}
use Rattle.ea_machine.specs.declared.stages.Route.TheVariants.{Abandoning, Sending, Clearing}
use Rattle.ea_machine.specs.declared.stages.Route.TheVariants.{Pushing, Linking}
use Rattle.ea_machine.specs.Actor.{Actor, on_route}
use Rattle.ea_machine.specs.State.{State}
use Rattle.ea_machine.specs.Sums.{one_if, sum_over, total, total_at}
use Rattle.ea_sound.specs.Contents.{seats}

-- nodes of carriers: g gives a number for the instance at which one stands, or to which it is about
-- to be pushed, and for its carrier

abbrev pub of_carrier_node : (ℕ → ℕ → ℕ) → ℕ → Node → ℕ
of_carrier_node g i (Block name spot) = 0
of_carrier_node g i (Carrier number) = g i number

abbrev pub of_carrier_mark : (ℕ → ℕ → ℕ) → ℕ → Mark → ℕ
of_carrier_mark g i m = of_carrier_node g i m.node

abbrev pub of_carrier_route : (ℕ → ℕ → ℕ) → Route Content → ℕ
of_carrier_route g (Looking hand) = 0
of_carrier_route g (Trying hand seen) = 0
of_carrier_route g (Settling x) = 0
of_carrier_route g (Abandoning x) = 0
of_carrier_route g (Sending x) = 0
of_carrier_route g (Clearing x) = 0
of_carrier_route g (Pushing node to) = of_carrier_node g to node
of_carrier_route g (Linking node to) = 0

abbrev pub of_carrier_hand : (ℕ → ℕ → ℕ) → ℕ → Stage Content → ℕ
of_carrier_hand g i (Routed route why gone) = of_carrier_route g route
of_carrier_hand g i (Collecting number) = g i number
of_carrier_hand g i _ = 0

-- those at a scheduler: passed by its walk, or in its hand
abbrev pub of_carrier_actor : (ℕ → ℕ → ℕ) → ℕ → Actor → ℕ
of_carrier_actor g i a = sum_over (of_carrier_node g i) a.passed + of_carrier_hand g i a.stage

-- all: in hands and passed, in queues, and still to be passed
abbrev pub carrier_nodes : Setup → (ℕ → ℕ → ℕ) → State → ℕ
carrier_nodes setup g state = total_at (seats setup) (of_carrier_actor g) state.actors
    + total_at (seats setup) (λ i. sum_over (of_carrier_mark g i)) state.shared.queues
    + total_at (seats setup) (λ i. sum_over (of_carrier_mark g i)) state.shared.rests

-- 1 for the carrier, wherever its node stands
abbrev pub anywhere : ℕ → ℕ → ℕ → ℕ
anywhere number j n = one_if (n == number)

-- 1 for the carrier at that instance
abbrev pub at_instance : ℕ → ℕ → ℕ → ℕ → ℕ
at_instance i number j n = one_if ((j == i) && (n == number))

abbrev pub is_returning : CarrierAt → Bool
is_returning Absent = false
is_returning (Employed i) = false
is_returning (Pooled i largest x) = false
is_returning (Busy i) = false
is_returning (Returning i x) = true

-- a carrier that returns has no block, and its node stands once: in the hand of the scheduler that
-- sends it to its owner, or in its owner's queue, walk or hand. No other carrier has a node
pub record ReturnsCarriers (setup : Setup) (state : State) : Type 0 where
  pub empty : (number i : ℕ) (x : Content) → state.shared.places number ≡ Returning i x
      → (x.kind ≡ Multi) × (x.blocks ≡ [])
  pub once : (number : ℕ) → carrier_nodes setup (anywhere number) state
      ≡ one_if (is_returning (state.shared.places number))
  pub with_owner : (number : ℕ)
      → carrier_nodes setup (at_instance (owner_of number) number) state
      ≡ one_if (is_returning (state.shared.places number))

-- nodes that aren't linked: u gives a number for the instance at which one stands, and for the node

abbrev pub of_unlinked : (ℕ → Node → ℕ) → ℕ → Mark → ℕ
of_unlinked u i m = if m.linked then 0 else u i m.node

abbrev pub of_link_route : (ℕ → Node → ℕ) → Route Content → ℕ
of_link_route u (Looking hand) = 0
of_link_route u (Trying hand seen) = 0
of_link_route u (Settling x) = 0
of_link_route u (Abandoning x) = 0
of_link_route u (Sending x) = 0
of_link_route u (Clearing x) = 0
of_link_route u (Pushing node to) = 0
of_link_route u (Linking node to) = u to node

-- the node that a scheduler has pushed and is about to link
abbrev pub of_link : (ℕ → Node → ℕ) → Stage Content → ℕ
of_link u stage = on_route 0 (of_link_route u) stage

-- 1 for that node at that instance
abbrev pub node_at : Node → ℕ → ℕ → Node → ℕ
node_at node i j n = one_if ((j == i) && same_node node n)

-- how often it stands there without being linked: in the queue, or in what is left of the walk
abbrev pub unlinked_at : Node → ℕ → State → ℕ
unlinked_at node i state =
    sum_over (of_unlinked (node_at node i) i) (state.shared.queues i)
    + sum_over (of_unlinked (node_at node i) i) (state.shared.rests i)

-- how many schedulers have pushed it there and are about to link it
abbrev pub before_link : Setup → Node → ℕ → State → ℕ
before_link setup node i state = total (seats setup)
    (λ (a : Actor). of_link (node_at node i) a.stage) state.actors

-- each node that isn't linked was pushed by one scheduler that is about to link it, and each
-- scheduler that is about to link a node has pushed one that isn't linked
abbrev pub LinksNodes : Setup → State → Type 0
LinksNodes setup state = (node : Node) (i : ℕ)
    → (unlinked_at node i state ≡ before_link setup node i state)
    × (unlinked_at node i state ≤ 1)
