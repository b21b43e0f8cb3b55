-- The contents of carriers, wherever they are: with the instance that employs them, in the hand of
-- a scheduler, or at home beside their owner word.
use Rattle.std.specs.Prelude.{ℕ, suc, ◌+◌, List, All, flat_map}
use Rattle.ea_model.specs.Content.{Content}
use Rattle.ea_model.specs.Instance.{employed}
use Rattle.ea_machine.specs.Owners.{CarrierAt, Absent, Employed, Pooled, Busy, Returning}
use Rattle.ea_machine.specs.Setup.{Setup, greatest_number}
use Rattle.ea_machine.specs.declared.stages.Stage.{Stage}
use Rattle.ea_machine.specs.declared.stages.Stage.TheVariants.{Routed}
use Rattle.ea_machine.specs.declared.stages.Route.{Route}
use Rattle.ea_machine.specs.declared.stages.Route.TheVariants.{Looking, Trying, Settling}
use Rattle.ea_machine.specs.declared.stages.Route.TheVariants.{Abandoning, Sending, Clearing}
use Rattle.ea_machine.specs.declared.stages.Route.TheVariants.{Pushing, Linking}
use Rattle.ea_machine.specs.Actor.{Actor, on_route}
use Rattle.ea_machine.specs.State.{State}
use Rattle.ea_machine.specs.Sums.{sum_over, total}

-- how many schedulers and how many carrier numbers there are, with the number 0, which is nobody's
abbrev pub seats : Setup → ℕ
seats setup = suc setup.schedulers

abbrev pub slots : Setup → ℕ
slots setup = suc (greatest_number setup)

-- the content that a route holds, if it holds one, has the property: a busy one, or one that is
-- still employed
abbrev pub OnRoute : (busy employed : Content → Type 0) → Route Content → Type 0
OnRoute B E (Looking hand) = Unit {0}
OnRoute B E (Trying hand seen) = Unit {0}
OnRoute B E (Settling x) = B x
OnRoute B E (Abandoning x) = E x
OnRoute B E (Sending x) = E x
OnRoute B E (Clearing x) = E x
OnRoute B E (Pushing node to) = Unit {0}
OnRoute B E (Linking node to) = Unit {0}

-- the content in the hand, if there is one
abbrev pub InHand : (busy employed : Content → Type 0) → Stage Content → Type 0
InHand B E (Routed route why gone) = OnRoute B E route
InHand B E _ = Unit {0}

-- the content at home, if there is one
abbrev pub AtHome : (Content → Type 0) → CarrierAt → Type 0
AtHome P Absent = Unit {0}
AtHome P (Employed i) = Unit {0}
AtHome P (Pooled i largest x) = P x
AtHome P (Busy i) = Unit {0}
AtHome P (Returning i x) = P x

-- each content has the property, wherever it is
pub record Everywhere (P : Content → Type 0) (state : State) : Type 0 where
  pub contents : (i : ℕ) → All P (state.actors i).instance.contents
  pub singles : (i : ℕ) → All P (state.actors i).instance.singles
  pub in_hand : (i : ℕ) → InHand P P (state.actors i).stage
  pub home : (number : ℕ) → AtHome P (state.shared.places number)

-- what is given for the content that a route holds, a busy one or one that is still employed, or 0
abbrev pub route_sum : (busy employed : Content → ℕ) → Route Content → ℕ
route_sum busy employed (Looking hand) = 0
route_sum busy employed (Trying hand seen) = 0
route_sum busy employed (Settling x) = busy x
route_sum busy employed (Abandoning x) = employed x
route_sum busy employed (Sending x) = employed x
route_sum busy employed (Clearing x) = employed x
route_sum busy employed (Pushing node to) = 0
route_sum busy employed (Linking node to) = 0

-- for the content in the hand
abbrev pub hand_sum : (busy employed : Content → ℕ) → Stage Content → ℕ
hand_sum busy employed stage = on_route 0 (route_sum busy employed) stage

-- for the contents at a scheduler: those that its instance employs, and one in its hand
abbrev pub actor_sum : (busy employed : Content → ℕ) → Actor → ℕ
actor_sum busy employed a = sum_over employed a.instance.contents
    + sum_over employed a.instance.singles + hand_sum busy employed a.stage

-- for the content at home
abbrev pub home_sum : (Content → ℕ) → CarrierAt → ℕ
home_sum f Absent = 0
home_sum f (Employed i) = 0
home_sum f (Pooled i largest x) = f x
home_sum f (Busy i) = 0
home_sum f (Returning i x) = f x

-- the sum of what f gives for all contents, wherever they are
abbrev pub sum_everywhere : Setup → (Content → ℕ) → State → ℕ
sum_everywhere setup f state = total (seats setup) (actor_sum f f) state.actors
    + total (slots setup) (home_sum f) state.shared.places
