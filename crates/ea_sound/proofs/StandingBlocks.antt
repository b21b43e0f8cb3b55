-- A block whose name stands: its carrier has an employer, its owner is a scheduler, and the block
-- is in the content that is found.
use Rattle.std.proofs.Common.{◌≡◌, ℕ, ◌<◌, ◌≤◌, true, refl, ap, subst, arith}
use Rattle.std.specs.Prelude.{Some}
use Rattle.ea_model.specs.declared.carriers.BlockAt.{BlockAt}
use Rattle.ea_model.specs.declared.carriers.Spot.{Spot}
use Rattle.ea_model.specs.Content.{Content, block_at}
use Rattle.ea_model.specs.Instance.{content_of, employed, owner_of}
use Rattle.ea_model.proofs.Options.{same-some}
use Rattle.ea_machine.specs.Actor.{Actor}
use Rattle.ea_sound.specs.Contents.{actor_sum, hand_sum, home_sum, seats, slots, sum_everywhere}
use Rattle.ea_sound.specs.Names.{allocated, of_block, of_content, only_at}
use Rattle.ea_machine.specs.Owners.{CarrierAt, Absent, Employed, Pooled, Busy, Returning}
use Rattle.ea_sound.specs.Places.{has_number, none}
use Rattle.ea_machine.specs.Setup.{Setup, is_scheduler, migration}
use Rattle.ea_machine.specs.State.{State}
use Rattle.ea_machine.specs.Sums.{sum_over}
use Rattle.ea_sound.specs.Present.{HasEmployer}
use Rattle.ea_sound.specs.Rule.{Kept, names_of}
use Rattle.ea_sound.proofs.ActorWeights.{actor-none, hand-none, home-none}
use Rattle.ea_sound.proofs.BlockWeights.{other-content}
use Rattle.ea_sound.proofs.Employers.{at_least_one, busy-hand, employed-here, found-counts}
use Rattle.ea_sound.proofs.Employers.{found-one, found-weighs}
use Rattle.ea_sound.proofs.Global.{contents_once, of_anywhere}
use Rattle.ea_sound.proofs.Hits.{hit}
use Rattle.ea_sound.proofs.Homes.{sum-absent, sum-returning}
use Rattle.ea_sound.proofs.OwnEntries.{numbered-scheduler}
use Rattle.ea_sound.proofs.Totals.{total-none, total-part}

-- where one weight is nowhere, another isn't
pub everywhere-none : (e : Setup) (w : State) (h f : Content → ℕ)
    → ((x : Content) → h x ≡ 0 → f x ≡ 0) → sum_everywhere e h w ≡ 0 → sum_everywhere e f w ≡ 0
everywhere-none e w h f none z = omega (
  arith,
  total-none (actor_sum f f) w.actors (seats e)
      (λ i seat. actor-none h h f f none none (w.actors i)
      (omega (arith, z, total-part (actor_sum h h) w.actors i (seats e) seat))),
  total-none (home_sum f) w.shared.places (slots e)
      (λ c slot. home-none h f none (w.shared.places c)
      (omega (arith, z, total-part (home_sum h) w.shared.places c (slots e) slot))),
)

module _ (e : Setup) (w : State) (k : Kept e w) where
  module _ (n : ℕ) (p : Spot) (some : 1 ≤ allocated e (only_at n p) w) where
    abbrev at_spot : Content → ℕ
    at_spot = of_content (only_at n p)

    -- the owner of the carrier is a scheduler
    pub block-owner : is_scheduler e (owner_of p.carrier) ≡ true
    block-owner = numbered-scheduler e w k p.carrier
        (at_least_one (sum_everywhere e (has_number p.carrier) w) (λ z. omega (
          arith,
          some,
          everywhere-none e w (has_number p.carrier) at_spot
              (of_anywhere p.carrier 0 at_spot (other-content n p)) z,
        )))

    -- where carriers migrate the carrier is neither absent nor returning
    pub block-employer : migration e ≡ true → (me : ℕ)
        → hand_sum (has_number p.carrier) none (w.actors me).stage ≡ 0
        → HasEmployer me (w.shared.places p.carrier)
    block-employer on me bare = by (w.shared.places p.carrier) refl where
      by : (q : CarrierAt) → w.shared.places p.carrier ≡ q → HasEmployer me q
      by Absent q =
          absurd (omega (arith, some, sum-absent e w k p.carrier at_spot on q (other-content n p)))
      by (Employed i) q = tt
      by (Pooled i g x) q = tt
      by (Busy i) q = λ s. omega (
        arith,
        bare,
        busy-hand e w k p.carrier i q,
        ap (λ j. hand_sum (has_number p.carrier) none (w.actors j).stage) s,
      )
      by (Returning i x) q = absurd (omega (
        arith,
        some,
        sum-returning e w k p.carrier i x at_spot q (other-content n p),
        ap (sum_over (of_block (only_at n p) x.number))
            (k.returns.to_owner p.carrier i x q).1,
      ))

  -- the block is in the content that is found
  module _ (me : ℕ) (seat : me < seats e) (a : Actor) (is : w.actors me ≡ a) (n : ℕ) (p : Spot)
      (stands : 1 ≤ names_of (only_at n p) a) (x : Content)
      (there : content_of (employed a.instance) p.carrier ≡ Some x) where
    pub hit-found : (b : BlockAt) × (block_at x.blocks p.offset ≡ Some b) × (b.name ≡ n)
    hit-found =
        let c = p.carrier in
        let at_spot = of_content (only_at n p) in
        let one = found-one c x a.instance there in
        let bare : hand_sum (has_number c) (has_number c) a.stage ≡ 0 = omega (
          arith,
          one,
          found-weighs (has_number c) c x a.instance there,
          contents_once e w k c me seat,
          ap (actor_sum (has_number c) (has_number c)) is,
        ) in
        let here = employed-here e w k me c (omega (
          arith,
          found-counts c x a there,
          ap (actor_sum none (has_number c)) is,
        )) in
        let none_in = of_anywhere c 0 at_spot (other-content n p) in
        let (y, found, (b, at, named)) = hit e w me seat k a is n p here stands
        (hand-none (has_number c) (has_number c) at_spot at_spot none_in none_in a.stage bare) in
        let same = same-some (content_of (employed a.instance) c) y x found there in
        (b, subst (λ (z : Content). block_at z.blocks p.offset ≡ Some b) same at, named)
