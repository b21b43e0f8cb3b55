-- A name that a block has lies somewhere: where a sum is more than 0, a part of it is found.
use Rattle.std.proofs.Common.{ℕ, zero, suc, ◌+◌, ◌*◌, ◌<◌, ◌≤◌, List, [], ◌∷◌, inl, inr, arith}
use Rattle.std.specs.Prelude.{◌==◌, ◌&&◌}
use Rattle.std.proofs.lemmas.Bool.{cases_lt}
use Rattle.ea_model.specs.declared.carriers.Extent.{Extent}
use Rattle.ea_model.specs.Content.{Content}
use Rattle.ea_machine.specs.Actor.{Actor}
use Rattle.ea_machine.specs.declared.stages.Route.{Route}
use Rattle.ea_machine.specs.declared.stages.Route.TheVariants.{Looking, Trying, Settling}
use Rattle.ea_machine.specs.declared.stages.Route.TheVariants.{Abandoning, Sending, Clearing}
use Rattle.ea_machine.specs.declared.stages.Route.TheVariants.{Pushing, Linking}
use Rattle.ea_machine.specs.declared.stages.Stage.{Stage}
use Rattle.ea_machine.specs.declared.stages.Stage.TheVariants.{Begin, Routed, Collecting, Searching}
use Rattle.ea_machine.specs.declared.stages.Stage.TheVariants.{Fetching, Creating, Giving, Taking}
use Rattle.ea_machine.specs.declared.stages.Stage.TheVariants.{Ended, Ready}
use Rattle.ea_machine.specs.Owners.{CarrierAt, Absent, Busy, Employed, Pooled, Returning}
use Rattle.ea_machine.specs.Setup.{Setup}
use Rattle.ea_machine.specs.State.{State}
use Rattle.ea_machine.specs.Sums.{one_if, sum_over, total}
use Rattle.ea_sound.specs.Contents.{actor_sum, hand_sum, home_sum, route_sum, seats, slots}
use Rattle.ea_sound.specs.Contents.{sum_everywhere}
use Rattle.ea_sound.specs.Names.{of_block, of_content, only}
use Rattle.ea_sound.specs.Over.{LiesOver, is_over}
use Rattle.ea_sound.specs.Released.{blocks_named}
use Rattle.ea_sound.proofs.Totals.{total-part}

-- where a sum is more than 0, a part of it is, which is in the sum of whatever is given

module _ {A : Type 0} (f : A → ℕ) where
  item-heavy : (xs : List A) → 0 < sum_over f xs
      → (x : A) × (0 < f x) × ((g : A → ℕ) → g x ≤ sum_over g xs)
  item-heavy [] some = absurd (omega (arith, some))
  item-heavy (x ∷ xs) some = elim (cases_lt 0 (f x)) [
    | inl here ↦ (x, here, λ g. omega arith)
    | inr none ↦
        let more = item-heavy xs (omega (arith, some, none)) in
        (more.0, more.1, λ g. omega (arith, more.2 g))
  ]

  value-heavy : (m : ℕ → A) (n : ℕ) → 0 < total n f m → (k : ℕ) × (k < n) × (0 < f (m k))
  value-heavy m zero some = absurd (omega (arith, some))
  value-heavy m (suc n) some = elim (cases_lt 0 (f (m n))) [
    | inl here ↦ (n, omega arith, here)
    | inr none ↦
        let more = value-heavy m n (omega (arith, some, none)) in
        (more.0, omega (arith, more.1), more.2)
  ]

-- of contents
abbrev Heavy : (Content → ℕ) → ((Content → ℕ) → ℕ) → Type 0
Heavy f sum = (x : Content) × (0 < f x) × ((g : Content → ℕ) → g x ≤ sum g)

module _ (f : Content → ℕ) where
  route-heavy : (r : Route Content) → 0 < route_sum f f r → Heavy f (λ g. route_sum g g r)
  route-heavy (Looking hand) some = absurd (omega (arith, some))
  route-heavy (Trying hand seen) some = absurd (omega (arith, some))
  route-heavy (Settling x) some = (x, some, λ g. omega arith)
  route-heavy (Abandoning x) some = (x, some, λ g. omega arith)
  route-heavy (Sending x) some = (x, some, λ g. omega arith)
  route-heavy (Clearing x) some = (x, some, λ g. omega arith)
  route-heavy (Pushing node to) some = absurd (omega (arith, some))
  route-heavy (Linking node to) some = absurd (omega (arith, some))

  hand-heavy : (s : Stage Content) → 0 < hand_sum f f s → Heavy f (λ g. hand_sum g g s)
  hand-heavy Begin some = absurd (omega (arith, some))
  hand-heavy (Routed r why gone) some = route-heavy r some
  hand-heavy (Collecting number) some = absurd (omega (arith, some))
  hand-heavy (Searching ask at part) some = absurd (omega (arith, some))
  hand-heavy (Fetching ask at part seen) some = absurd (omega (arith, some))
  hand-heavy (Creating ask p) some = absurd (omega (arith, some))
  hand-heavy (Giving given to) some = absurd (omega (arith, some))
  hand-heavy (Taking name tries left) some = absurd (omega (arith, some))
  hand-heavy Ended some = absurd (omega (arith, some))
  hand-heavy Ready some = absurd (omega (arith, some))

  actor-heavy : (a : Actor) → 0 < actor_sum f f a → Heavy f (λ g. actor_sum g g a)
  actor-heavy a some = elim (cases_lt 0 (sum_over f a.instance.contents)) [
    | inl many ↦
        let x = item-heavy f a.instance.contents many in
        (x.0, x.1, λ g. omega (arith, x.2 g))
    | inr none ↦ elim (cases_lt 0 (sum_over f a.instance.singles)) [
      | inl one ↦
          let x = item-heavy f a.instance.singles one in
          (x.0, x.1, λ g. omega (arith, x.2 g))
      | inr neither ↦
          let x = hand-heavy a.stage (omega (arith, some, none, neither)) in
          (x.0, x.1, λ g. omega (arith, x.2 g))
    ]
  ]

  home-heavy : (p : CarrierAt) → 0 < home_sum f p → Heavy f (λ g. home_sum g p)
  home-heavy Absent some = absurd (omega (arith, some))
  home-heavy (Employed i) some = absurd (omega (arith, some))
  home-heavy (Pooled i largest x) some = (x, some, λ g. omega arith)
  home-heavy (Busy i) some = absurd (omega (arith, some))
  home-heavy (Returning i x) some = (x, some, λ g. omega arith)

  content-heavy : (e : Setup) (w : State) → 0 < sum_everywhere e f w
      → Heavy f (λ g. sum_everywhere e g w)
  content-heavy e w some = elim (cases_lt 0 (total (seats e) (actor_sum f f) w.actors)) [
    | inl with_one ↦
        let at = value-heavy (actor_sum f f) w.actors (seats e) with_one in
        let x = actor-heavy (w.actors at.0) at.2 in (
          x.0,
          x.1,
          λ g. omega (
            arith,
            x.2 g,
            total-part (actor_sum g g) w.actors at.0 (seats e) at.1,
          ),
        )
    | inr none ↦
        let at = value-heavy (home_sum f) w.shared.places (slots e) (omega (arith, some, none)) in
        let x = home-heavy (w.shared.places at.0) at.2 in (
          x.0,
          x.1,
          λ g. omega (
            arith,
            x.2 g,
            total-part (home_sum g) w.shared.places at.0 (slots e) at.1,
          ),
        )
  ]

-- a block of the name lies over its own units
over-itself : (n at units name : ℕ) → 0 < one_if (name == n)
    → 0 < one_if ((name == n) && ((at == at) && (units == units)))
over-itself n at units name some = grind (arith, some)

-- a name that a block has lies somewhere
pub lies-somewhere : (e : Setup) (w : State) (n : ℕ) → 0 < blocks_named e n w
    → (r : Extent) × LiesOver e n r w
lies-somewhere e w n some =
    let x = content-heavy (of_content (only n)) e w some in
    let number = x.0.number in
    let base = x.0.base in
    let b = item-heavy (of_block (only n) number) x.0.blocks x.1 in
    let r : Extent = record { first = 512 * base + b.0.offset; units = b.0.size } in (
      r,
      omega (
        arith,
        over-itself n (512 * base + b.0.offset) b.0.size b.0.name b.1,
        b.2 (λ c. one_if (is_over n r base c)),
        x.2 (λ y. sum_over (λ c. one_if (is_over n r y.base c)) y.blocks),
      ),
    )
