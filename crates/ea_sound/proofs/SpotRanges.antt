-- The spots of names that stand are in their ranges: blocks lie at even offsets, in carriers that
-- have a number.
use Rattle.std.proofs.Common.{◌≡◌, ℕ, ◌+◌, ◌%◌, ◌<◌, ◌≤◌, Bool, List, [], ◌∷◌, refl, inl, inr}
use Rattle.std.proofs.Common.{arith}
use Rattle.std.specs.Prelude.{All, ◌==◌, ◌&&◌, nat_lt, not}
use Rattle.std.proofs.lemmas.List.Elements.{All-head, All-tail}
use Rattle.ea_model.specs.declared.carriers.BlockAt.{BlockAt}
use Rattle.ea_model.specs.declared.carriers.Spot.{Spot}
use Rattle.ea_model.specs.declared.units.TheConstants.{MAX_UNITS}
use Rattle.ea_model.specs.Content.{Content, Tiled}
use Rattle.ea_laws.specs.Kept.{HasOneBlock, IsLaidOut, IsLaidOutAlone}
use Rattle.ea_machine.specs.declared.stages.Stage.{Stage}
use Rattle.ea_machine.specs.declared.stages.Stage.TheVariants.{Begin, Routed, Collecting, Searching}
use Rattle.ea_machine.specs.declared.stages.Stage.TheVariants.{Fetching, Creating, Giving, Taking}
use Rattle.ea_machine.specs.declared.stages.Stage.TheVariants.{Ended, Ready}
use Rattle.ea_machine.specs.declared.stages.Route.{Route}
use Rattle.ea_machine.specs.declared.stages.Route.TheVariants.{Looking, Trying, Settling}
use Rattle.ea_machine.specs.declared.stages.Route.TheVariants.{Abandoning, Sending, Clearing}
use Rattle.ea_machine.specs.declared.stages.Route.TheVariants.{Pushing, Linking}
use Rattle.ea_machine.specs.Alike.{IsSpot}
use Rattle.ea_sound.specs.Contents.{AtHome, InHand, OnRoute, actor_sum, hand_sum, home_sum}
use Rattle.ea_sound.specs.Contents.{route_sum, seats, slots, sum_everywhere}
use Rattle.ea_sound.specs.Names.{allocated, of_block, of_content, only_at}
use Rattle.ea_machine.specs.Owners.{CarrierAt, Absent, Employed, Pooled, Busy, Returning}
use Rattle.ea_sound.specs.Places.{has_number}
use Rattle.ea_sound.specs.Ranges.{IsLaidOutAsKind, LaysOut}
use Rattle.ea_machine.specs.Setup.{Setup}
use Rattle.ea_machine.specs.State.{State}
use Rattle.ea_machine.specs.Sums.{one_if, sum_over}
use Rattle.ea_sound.specs.Present.{Rule}
use Rattle.ea_sound.proofs.BlockWeights.{only_at-itself, other-content}
use Rattle.ea_sound.proofs.Employers.{at_least_one}
use Rattle.ea_sound.proofs.Global.{of_anywhere}
use Rattle.ea_sound.proofs.SoundOwners.{content-number}
use Rattle.ea_sound.proofs.SoundRanges.{sound-ranges}
use Rattle.ea_sound.proofs.StandingBlocks.{everywhere-none}
use Rattle.ea_sound.proofs.Totals.{total-none}

-- whether an offset has no room in a word
abbrev bad : ℕ → Bool
bad offset = not ((offset % 2 == 0) && nat_lt offset MAX_UNITS)

not-bad : (offset : ℕ) → one_if (bad offset) ≡ 0 → (offset % 2 ≡ 0) × (offset < MAX_UNITS)
not-bad offset z = grind (arith, z)

fine : (offset : ℕ) → offset % 2 ≡ 0 → offset < MAX_UNITS → one_if (bad offset) ≡ 0
fine offset even low = grind (arith, even, low)

-- weighs blocks at such offsets
abbrev at_bad : ℕ → Spot → ℕ
at_bad n p = one_if (bad p.offset)

tiled-low : (at end : ℕ) (bs : List BlockAt) → Tiled at end bs → at ≤ end
tiled-low at end [] tiled = tiled.0
tiled-low at end (b ∷ bs) tiled =
    omega (arith, tiled.0, tiled-low (b.offset + b.size) end bs tiled.4)

tiled-fine : (number at end : ℕ) (bs : List BlockAt) → at % 2 ≡ 0 → end ≤ MAX_UNITS
    → Tiled at end bs → sum_over (of_block at_bad number) bs ≡ 0
tiled-fine number at end [] even low tiled = refl
tiled-fine number at end (b ∷ bs) even low tiled =
    let from = tiled.0 in
    let gap = tiled.1.even in
    let least = tiled.2 in
    let size = tiled.3 in
    let after = tiled-low (b.offset + b.size) end bs tiled.4 in
    let mine : b.offset % 2 ≡ 0 = omega (arith, even, from, gap) in
    omega (
      arith,
      fine b.offset mine (omega (arith, low, least, after)),
      tiled-fine number (b.offset + b.size) end bs (omega (arith, mine, size)) low tiled.4,
    )

content-fine : (x : Content) → IsLaidOut x → of_content at_bad x ≡ 0
content-fine x laid = tiled-fine x.number 8 x.units x.blocks (omega arith) (omega (arith, laid.low))
    laid.tiled

alone-fine : (x : Content) → IsLaidOutAlone x → of_content at_bad x ≡ 0
alone-fine x laid = by x.blocks laid.block where
  by : (bs : List BlockAt) → HasOneBlock x.units bs → sum_over (of_block at_bad x.number) bs ≡ 0
  by [] one = refl
  by (b ∷ []) one =
      omega (arith, fine b.offset (omega (arith, one.0)) (omega (arith, one.0)))
  by (b ∷ (d ∷ bs)) one = absurd one

kind-fine : (x : Content) → IsLaidOutAsKind x → of_content at_bad x ≡ 0
kind-fine x (inl laid) = content-fine x laid
kind-fine x (inr laid) = alone-fine x laid

all-fine : (F : Content → ℕ) (P : Content → Type 0) → ((x : Content) → P x → F x ≡ 0)
    → (xs : List Content) → All P xs → sum_over F xs ≡ 0
all-fine F P f [] all = refl
all-fine F P f (x ∷ xs) all = omega (
  arith,
  f x (All-head P x xs all),
  all-fine F P f xs (All-tail P x xs all),
)

abbrev F : Content → ℕ
F = of_content at_bad

route-fine : (r : Route Content) → OnRoute IsLaidOut IsLaidOutAsKind r → route_sum F F r ≡ 0
route-fine (Looking hand) laid = refl
route-fine (Trying hand seen) laid = refl
route-fine (Settling x) laid = content-fine x laid
route-fine (Abandoning x) laid = kind-fine x laid
route-fine (Sending x) laid = kind-fine x laid
route-fine (Clearing x) laid = kind-fine x laid
route-fine (Pushing node to) laid = refl
route-fine (Linking node to) laid = refl

hand-fine : (s : Stage Content) → InHand IsLaidOut IsLaidOutAsKind s → hand_sum F F s ≡ 0
hand-fine Begin laid = refl
hand-fine (Routed route why gone) laid = route-fine route laid
hand-fine (Collecting number) laid = refl
hand-fine (Searching ask at part) laid = refl
hand-fine (Fetching ask at part seen) laid = refl
hand-fine (Creating ask p) laid = refl
hand-fine (Giving given to) laid = refl
hand-fine (Taking name tries left) laid = refl
hand-fine Ended laid = refl
hand-fine Ready laid = refl

home-fine : (p : CarrierAt) → AtHome IsLaidOut p → home_sum F p ≡ 0
home-fine Absent laid = refl
home-fine (Employed i) laid = refl
home-fine (Pooled i g x) laid = content-fine x laid
home-fine (Busy i) laid = refl
home-fine (Returning i x) laid = content-fine x laid

module _ (e : Setup) (w : State) (rule : Rule e w) where
  laid : LaysOut e w
  laid = sound-ranges e w rule.kept

  -- no block lies at such an offset
  none-bad : allocated e at_bad w ≡ 0
  none-bad = omega (
    arith,
    total-none (actor_sum F F) w.actors (seats e) (λ i seat. omega (
      arith,
      all-fine F IsLaidOut content-fine (w.actors i).instance.contents (laid.contents i),
      all-fine F IsLaidOutAlone alone-fine (w.actors i).instance.singles (laid.singles i),
      hand-fine (w.actors i).stage (laid.in_hand i),
    )),
    total-none (home_sum F) w.shared.places (slots e)
        (λ d slot. home-fine (w.shared.places d) (laid.home d)),
  )

  -- a name that stands has its block at a spot in its range
  pub standing-spot : (n : ℕ) (p : Spot) → ((f : ℕ → Spot → ℕ) → f n p ≤ allocated e f w)
      → IsSpot e.schedulers p
  standing-spot n p part =
      let offset = not-bad p.offset (omega (arith, part at_bad, none-bad)) in
      let carrier = content-number e w rule.kept p.carrier
      (at_least_one (sum_everywhere e (has_number p.carrier) w) (λ z. omega (
        arith,
        part (only_at n p),
        only_at-itself n p,
        everywhere-none e w (has_number p.carrier) (of_content (only_at n p))
            (of_anywhere p.carrier 0 (of_content (only_at n p)) (other-content n p)) z,
      ))) in
      (carrier.0, omega (arith, carrier.1), offset.0, offset.1)
