-- A carrier whose content is at home: all that it has is there, and the block of a name that stands
-- at a spot of it.
use Rattle.std.proofs.Common.{◌≡◌, refl, ◌≢◌, ℕ, ◌+◌, ◌<◌, ◌≤◌, true, sym, ap, ◌∙◌, subst, arith}
use Rattle.std.specs.Prelude.{Some}
use Rattle.ea_model.specs.declared.carriers.BlockAt.{BlockAt}
use Rattle.ea_model.specs.declared.carriers.Spot.{Spot}
use Rattle.ea_model.specs.Content.{Content, block_at, released}
use Rattle.ea_laws.specs.Kept.{IsLaidOut, number_of}
use Rattle.ea_machine.specs.Actor.{Actor}
use Rattle.ea_sound.specs.Contents.{AtHome, actor_sum, home_sum, seats, slots, sum_everywhere}
use Rattle.ea_sound.specs.Names.{of_content, of_named, only_at}
use Rattle.ea_sound.specs.NodePlaces.{anywhere}
use Rattle.ea_machine.specs.declared.nodes.Named.{Named}
use Rattle.ea_machine.specs.Owners.{CarrierAt, Absent, Employed, Pooled, Busy, Returning}
use Rattle.ea_sound.specs.Places.{has_number, is_there}
use Rattle.ea_machine.specs.Setup.{Setup, migration}
use Rattle.ea_machine.specs.State.{State}
use Rattle.ea_machine.specs.Sums.{one_if, total, total_at}
use Rattle.ea_sound.specs.Blocks.{spot_at}
use Rattle.ea_sound.specs.Rule.{Belongs, Kept, employed_at, names_of, numbers_of}
use Rattle.ea_sound.proofs.ActorWeights.{actor-none}
use Rattle.ea_sound.proofs.BlockWeights.{content-hit, other-content, sum-released}
use Rattle.ea_sound.proofs.Employers.{there-on, there-slot}
use Rattle.ea_sound.proofs.Global.{IsOf, anywhere-only, of_anywhere, sum-numbered}
use Rattle.ea_sound.proofs.Hits.{stands-allocated}
use Rattle.ea_sound.proofs.KeyedWeights.{counts-key, counts-other}
use Rattle.ea_sound.proofs.Laid.{laid-rising}
use Rattle.ea_sound.proofs.Numbered.{numbered-on}
use Rattle.ea_sound.proofs.Totals.{total-none, total_at-part}
use Rattle.ea_sound.proofs.Weights.{one-itself}

module _ (e : Setup) (w : State) (k : Kept e w) where
  -- where no scheduler has a content of the number, all of it is at home
  module _ (c : ℕ) (on : migration e ≡ true)
      (bare : employed_at (anywhere c) (anywhere c) c (w.shared.places c) ≡ 0) where
    nobody-has : total_at (seats e) (numbers_of (anywhere c) (anywhere c)) w.actors ≡ 0
    nobody-has = numbered-on e w k (anywhere c) (anywhere c) c (anywhere-only c)
        (anywhere-only c) on
        ∙ bare

    sum-home : (f : Content → ℕ) → IsOf c f
        → sum_everywhere e f w ≡ home_sum f (w.shared.places c)
    sum-home f of = omega (
      arith,
      sum-numbered e w k f c of,
      total-none (actor_sum f f) w.actors (seats e)
          (λ i seat. actor-none (λ x. anywhere c i x.number) (λ x. anywhere c i x.number) f f
          (of_anywhere c i f of) (of_anywhere c i f of) (w.actors i)
          (omega (
            arith,
            nobody-has,
            total_at-part (numbers_of (anywhere c) (anywhere c)) w.actors i (seats e) seat,
          ))),
    )

  -- one content of each carrier that is there
  pub sum-there : (c : ℕ) → migration e ≡ true
      → sum_everywhere e (has_number c) w ≡ one_if (is_there (w.shared.places c))
  sum-there c on = sum-numbered e w k (has_number c) c (counts-other number_of c)
      ∙ by (w.shared.places c) refl where
        numbers : total_at (seats e) (numbers_of (anywhere c) (anywhere c)) w.actors
            ≡ employed_at (anywhere c) (anywhere c) c (w.shared.places c)
        numbers = numbered-on e w k (anywhere c) (anywhere c) c (anywhere-only c)
            (anywhere-only c) on

        by : (p : CarrierAt) → w.shared.places c ≡ p
            → total (seats e) (actor_sum (has_number c) (has_number c)) w.actors
            + home_sum (has_number c) p ≡ one_if (is_there p)
        by Absent q = omega (arith, numbers, ap (employed_at (anywhere c) (anywhere c) c) q)
        by (Employed i) q = omega
            (arith, numbers, ap (employed_at (anywhere c) (anywhere c) c) q, one-itself c)
        by (Pooled i g x) q = omega (
          arith,
          numbers,
          ap (employed_at (anywhere c) (anywhere c) c) q,
          counts-key number_of c x (k.placed.pooled c i g x q).0,
        )
        by (Busy i) q = omega
            (arith, numbers, ap (employed_at (anywhere c) (anywhere c) c) q, one-itself c)
        by (Returning i x) q = omega (
          arith,
          numbers,
          ap (employed_at (anywhere c) (anywhere c) c) q,
          counts-key number_of c x (k.placed.returning c i x q).0,
        )

  pub sum-absent : (c : ℕ) (f : Content → ℕ) → migration e ≡ true → w.shared.places c ≡ Absent
      → IsOf c f → sum_everywhere e f w ≡ 0
  sum-absent c f on q of = sum-home c on (ap (employed_at (anywhere c) (anywhere c) c) q) f of
      ∙ ap (home_sum f) q

  pub sum-returning : (c i : ℕ) (x : Content) (f : Content → ℕ) → w.shared.places c ≡ Returning i x
      → IsOf c f → sum_everywhere e f w ≡ f x
  sum-returning c i x f q of =
      sum-home c (there-on e w k c (λ z. let never : Returning i x ≡ Absent = sym q ∙ z in cc))
      (ap (employed_at (anywhere c) (anywhere c) c) q) f of
      ∙ ap (home_sum f) q

  -- a pooled carrier
  module _ (c i g : ℕ) (x : Content) (pooled : w.shared.places c ≡ Pooled i g x) where
    pooled-there : w.shared.places c ≢ Absent
    pooled-there z = let never : Pooled i g x ≡ Absent = sym pooled ∙ z in cc

    pub pooled-on : migration e ≡ true
    pooled-on = there-on e w k c pooled-there

    pub pooled-slot : c < slots e
    pooled-slot = there-slot e w k c pooled-there

    pub pooled-number : x.number ≡ c
    pooled-number = (k.placed.pooled c i g x pooled).0

    sum-pooled : (f : Content → ℕ) → IsOf c f → sum_everywhere e f w ≡ f x
    sum-pooled f of = sum-home c pooled-on
        (ap (employed_at (anywhere c) (anywhere c) c) pooled) f of
        ∙ ap (home_sum f) pooled

    pub pooled-belongs : Belongs e x.owner x
    pooled-belongs = subst (AtHome (λ y. Belongs e y.owner y)) pooled (k.ranges.home c)

    pub pooled-laid : IsLaidOut x
    pooled-laid = subst (AtHome IsLaidOut) pooled (k.ranges.home_laid c)

    -- the block of a name that stands with a scheduler
    module _ (me : ℕ) (seat : me < seats e) (a : Actor) (is : w.actors me ≡ a) (h : Named)
        (at : h.spot.carrier ≡ c) (stands : 1 ≤ names_of (only_at h.name h.spot) a) where
      pub pooled-hit : (b : BlockAt) × (block_at x.blocks h.spot.offset ≡ Some b)
          × (b.name ≡ h.name)
      pooled-hit = content-hit h.name h.spot x (laid-rising x pooled-laid) (omega (
        arith,
        stands,
        stands-allocated e w me seat k a is (only_at h.name h.spot),
        sum-pooled (of_content (only_at h.name h.spot))
            (λ y other. other-content h.name h.spot y (λ s. other (s ∙ at))),
      ))

      -- it leaves with its name
      pub pooled-released : (f : ℕ → Spot → ℕ)
          → of_named f h + of_content f (released x h.spot.offset) ≡ of_content f x
      pooled-released f =
          let (b, there, named) = pooled-hit in
          omega (
            arith,
            sum-released f x h.spot.offset b (laid-rising x pooled-laid) there,
            ap (λ n. f n (spot_at x.number h.spot.offset)) named,
            ap (λ n. f h.name (spot_at n h.spot.offset)) (pooled-number ∙ sym at),
          )
