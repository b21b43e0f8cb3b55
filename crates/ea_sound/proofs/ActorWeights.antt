-- Weights of the contents at a scheduler, and of the content at home.
use Rattle.std.proofs.Common.{◌≡◌, ℕ, zero, suc, ◌≤◌, refl, arith}
use Rattle.ea_model.specs.Content.{Content}
use Rattle.ea_machine.specs.declared.stages.Stage.{Stage}
use Rattle.ea_machine.specs.declared.stages.Stage.TheVariants.{Begin, Routed, Collecting, Searching}
use Rattle.ea_machine.specs.declared.stages.Stage.TheVariants.{Fetching, Creating, Giving, Taking}
use Rattle.ea_machine.specs.declared.stages.Stage.TheVariants.{Ended, Ready}
use Rattle.ea_machine.specs.declared.stages.Route.{Route}
use Rattle.ea_machine.specs.declared.stages.Route.TheVariants.{Looking, Trying, Settling}
use Rattle.ea_machine.specs.declared.stages.Route.TheVariants.{Abandoning, Sending, Clearing}
use Rattle.ea_machine.specs.declared.stages.Route.TheVariants.{Pushing, Linking}
use Rattle.ea_machine.specs.Actor.{Actor}
use Rattle.ea_sound.specs.Contents.{actor_sum, hand_sum, home_sum, route_sum, seats, slots}
use Rattle.ea_sound.specs.Contents.{sum_everywhere}
use Rattle.ea_machine.specs.Owners.{CarrierAt, Absent, Employed, Pooled, Busy, Returning}
use Rattle.ea_machine.specs.Setup.{Setup}
use Rattle.ea_machine.specs.State.{State}
use Rattle.ea_machine.specs.Sums.{total}
use Rattle.ea_sound.proofs.Weights.{sum-less, sum-none}

-- where the first weights are 0, the second ones are
module _ (b h f g : Content → ℕ) (busy : (x : Content) → b x ≡ 0 → f x ≡ 0)
    (employed : (x : Content) → h x ≡ 0 → g x ≡ 0) where
  route-none : (r : Route Content) → route_sum b h r ≡ 0 → route_sum f g r ≡ 0
  route-none (Looking hand) z = refl
  route-none (Trying hand seen) z = refl
  route-none (Settling x) z = busy x z
  route-none (Abandoning x) z = employed x z
  route-none (Sending x) z = employed x z
  route-none (Clearing x) z = employed x z
  route-none (Pushing node to) z = refl
  route-none (Linking node to) z = refl

  pub hand-none : (s : Stage Content) → hand_sum b h s ≡ 0 → hand_sum f g s ≡ 0
  hand-none Begin z = refl
  hand-none (Routed route why gone) z = route-none route z
  hand-none (Collecting number) z = refl
  hand-none (Searching ask at part) z = refl
  hand-none (Fetching ask at part seen) z = refl
  hand-none (Creating ask p) z = refl
  hand-none (Giving given to) z = refl
  hand-none (Taking name tries left) z = refl
  hand-none Ended z = refl
  hand-none Ready z = refl

  pub actor-none : (a : Actor) → actor_sum b h a ≡ 0 → actor_sum f g a ≡ 0
  actor-none a z = omega (
    arith,
    sum-none h g a.instance.contents employed (omega (arith, z)),
    sum-none h g a.instance.singles employed (omega (arith, z)),
    hand-none a.stage (omega (arith, z)),
  )

pub home-none : (h f : Content → ℕ) → ((x : Content) → h x ≡ 0 → f x ≡ 0) → (p : CarrierAt)
    → home_sum h p ≡ 0 → home_sum f p ≡ 0
home-none h f none Absent z = refl
home-none h f none (Employed i) z = refl
home-none h f none (Pooled i g x) z = none x z
home-none h f none (Busy i) z = refl
home-none h f none (Returning i x) z = none x z

-- where the first weight is less, it is so everywhere
total-less : {A : Type 0} (f g : A → ℕ) (m : ℕ → A) (n : ℕ) → ((x : A) → f x ≤ g x)
    → total n f m ≤ total n g m
total-less f g m zero less = omega arith
total-less f g m (suc n) less = omega (arith, total-less f g m n less, less (m n))

module _ (f g : Content → ℕ) (less : (x : Content) → f x ≤ g x) where
  route-less : (r : Route Content) → route_sum f f r ≤ route_sum g g r
  route-less (Looking hand) = omega arith
  route-less (Trying hand seen) = omega arith
  route-less (Settling x) = less x
  route-less (Abandoning x) = less x
  route-less (Sending x) = less x
  route-less (Clearing x) = less x
  route-less (Pushing node to) = omega arith
  route-less (Linking node to) = omega arith

  hand-less : (s : Stage Content) → hand_sum f f s ≤ hand_sum g g s
  hand-less Begin = omega arith
  hand-less (Routed route why gone) = route-less route
  hand-less (Collecting number) = omega arith
  hand-less (Searching ask at part) = omega arith
  hand-less (Fetching ask at part seen) = omega arith
  hand-less (Creating ask p) = omega arith
  hand-less (Giving given to) = omega arith
  hand-less (Taking name tries left) = omega arith
  hand-less Ended = omega arith
  hand-less Ready = omega arith

  home-less : (p : CarrierAt) → home_sum f p ≤ home_sum g p
  home-less Absent = omega arith
  home-less (Employed i) = omega arith
  home-less (Pooled i h x) = less x
  home-less (Busy i) = omega arith
  home-less (Returning i x) = less x

  actor-less : (a : Actor) → actor_sum f f a ≤ actor_sum g g a
  actor-less a = omega (
    arith,
    sum-less f g a.instance.contents (λ i d within. less _),
    sum-less f g a.instance.singles (λ i d within. less _),
    hand-less a.stage,
  )

  pub everywhere-less : (e : Setup) (w : State) → sum_everywhere e f w ≤ sum_everywhere e g w
  everywhere-less e w = omega (
    arith,
    total-less (actor_sum f f) (actor_sum g g) w.actors (seats e) actor-less,
    total-less (home_sum f) (home_sum g) w.shared.places (slots e) home-less,
  )
