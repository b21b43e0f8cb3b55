-- What three weights give for each content, a fourth gives alone: so of all contents.
use Rattle.std.proofs.Common.{◌≡◌, ℕ, zero, suc, ◌+◌, List, [], ◌∷◌, refl, arith}
use Rattle.std.specs.Prelude.{All}
use Rattle.std.proofs.lemmas.List.Elements.{All-head, All-tail}
use Rattle.ea_model.specs.Content.{Content}
use Rattle.ea_machine.specs.declared.stages.Stage.{Stage}
use Rattle.ea_machine.specs.declared.stages.Stage.TheVariants.{Begin, Routed, Collecting, Searching}
use Rattle.ea_machine.specs.declared.stages.Stage.TheVariants.{Fetching, Creating, Giving, Taking}
use Rattle.ea_machine.specs.declared.stages.Stage.TheVariants.{Ended, Ready}
use Rattle.ea_machine.specs.declared.stages.Route.{Route}
use Rattle.ea_machine.specs.declared.stages.Route.TheVariants.{Looking, Trying, Settling}
use Rattle.ea_machine.specs.declared.stages.Route.TheVariants.{Abandoning, Sending, Clearing}
use Rattle.ea_machine.specs.declared.stages.Route.TheVariants.{Pushing, Linking}
use Rattle.ea_sound.specs.Contents.{AtHome, Everywhere, InHand, OnRoute, actor_sum, hand_sum}
use Rattle.ea_sound.specs.Contents.{home_sum, route_sum, seats, slots, sum_everywhere}
use Rattle.ea_machine.specs.Owners.{CarrierAt, Absent, Employed, Pooled, Busy, Returning}
use Rattle.ea_machine.specs.Setup.{Setup}
use Rattle.ea_machine.specs.State.{State}
use Rattle.ea_machine.specs.Sums.{sum_over, total}
use Rattle.ea_sound.specs.Rule.{Kept}
use Rattle.ea_sound.proofs.Anywhere.{everywhere}

total-parts : {A : Type 0} (f g h t : A → ℕ) (m : ℕ → A) (n : ℕ)
    → ((i : ℕ) → f (m i) + g (m i) + h (m i) ≡ t (m i))
    → total n f m + total n g m + total n h m ≡ total n t m
total-parts f g h t m zero parts = refl
total-parts f g h t m (suc n) parts = omega (arith, parts n, total-parts f g h t m n parts)

module _ (f g h t : Content → ℕ) where
  abbrev pub AreParts : Content → Type 0
  AreParts x = f x + g x + h x ≡ t x

  list-parts : (xs : List Content) → All AreParts xs
      → sum_over f xs + sum_over g xs + sum_over h xs ≡ sum_over t xs
  list-parts [] parts = refl
  list-parts (x ∷ xs) parts = omega (
    arith,
    All-head AreParts x xs parts,
    list-parts xs (All-tail AreParts x xs parts),
  )

  route-parts : (r : Route Content) → OnRoute AreParts AreParts r
      → route_sum f f r + route_sum g g r + route_sum h h r ≡ route_sum t t r
  route-parts (Looking hand) parts = refl
  route-parts (Trying hand seen) parts = refl
  route-parts (Settling x) parts = parts
  route-parts (Abandoning x) parts = parts
  route-parts (Sending x) parts = parts
  route-parts (Clearing x) parts = parts
  route-parts (Pushing node to) parts = refl
  route-parts (Linking node to) parts = refl

  hand-parts : (s : Stage Content) → InHand AreParts AreParts s
      → hand_sum f f s + hand_sum g g s + hand_sum h h s ≡ hand_sum t t s
  hand-parts Begin parts = refl
  hand-parts (Routed r why gone) parts = route-parts r parts
  hand-parts (Collecting number) parts = refl
  hand-parts (Searching ask at part) parts = refl
  hand-parts (Fetching ask at part seen) parts = refl
  hand-parts (Creating ask p) parts = refl
  hand-parts (Giving given to) parts = refl
  hand-parts (Taking name tries left) parts = refl
  hand-parts Ended parts = refl
  hand-parts Ready parts = refl

  home-parts : (p : CarrierAt) → AtHome AreParts p
      → home_sum f p + home_sum g p + home_sum h p ≡ home_sum t p
  home-parts Absent parts = refl
  home-parts (Employed i) parts = refl
  home-parts (Pooled i largest x) parts = parts
  home-parts (Busy i) parts = refl
  home-parts (Returning i x) parts = parts

  pub sum-parts : (e : Setup) (w : State) → Everywhere AreParts w
      → sum_everywhere e f w + sum_everywhere e g w + sum_everywhere e h w
      ≡ sum_everywhere e t w
  sum-parts e w parts = omega (
    arith,
    total-parts (actor_sum f f) (actor_sum g g) (actor_sum h h) (actor_sum t t) w.actors (seats e)
        (λ i. omega (
          arith,
          list-parts (w.actors i).instance.contents (parts.contents i),
          list-parts (w.actors i).instance.singles (parts.singles i),
          hand-parts (w.actors i).stage (parts.in_hand i),
        )),
    total-parts (home_sum f) (home_sum g) (home_sum h) (home_sum t) w.shared.places (slots e)
        (λ c. home-parts (w.shared.places c) (parts.home c)),
  )

-- nothing for each content is nothing in all
pub sum-nothing : (e : Setup) (w : State) → Kept e w → (f : Content → ℕ)
    → ((x : Content) → f x ≡ 0) → sum_everywhere e f w ≡ 0
sum-nothing e w k f none =
    let parts = everywhere e w k (AreParts f f f f) (λ i x b l c. omega (arith, none x)) in
    omega (arith, sum-parts f f f f e w parts)
