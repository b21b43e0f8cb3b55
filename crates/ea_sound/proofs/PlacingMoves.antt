-- Moves of a scheduler that place a block: in a carrier that it employs, or in one that it makes.
use Rattle.std.proofs.Common.{◌≡◌, ◌≢◌, ℕ, ◌+◌, ◌*◌, ◌≤◌, [], Bool, true, false, refl, sym, ap, ◌∙◌}
use Rattle.std.proofs.Common.{subst, inl, inr, arith}
use Rattle.std.proofs.lemmas.Bool.{cases_eq, true≢false}
use Rattle.std.specs.Prelude.{Some, None, Ok, ◌==◌}
use Rattle.ea_model.specs.declared.carriers.CarrierPlan.{CarrierPlan}
use Rattle.ea_model.specs.declared.carriers.Kind.TheVariants.{Multi, Single}
use Rattle.ea_model.specs.declared.carriers.OwnCarrier.{OwnCarrier}
use Rattle.ea_model.specs.declared.carriers.Spot.{Spot}
use Rattle.ea_model.specs.Content.{Content, placed}
use Rattle.ea_model.specs.Instance.{chosen_spot, content_of, created_content, created_single}
use Rattle.ea_model.specs.Instance.{creating, creating_single, employed, own_at, plan, planned_own}
use Rattle.ea_model.specs.Instance.{placing_at, with_own}
use Rattle.ea_model.proofs.Rising.{All-entered, item_at-All, item_at-key}
use Rattle.ea_laws.specs.Kept.{number_of, own_number}
use Rattle.ea_laws.specs.Spots.{HasGap}
use Rattle.ea_laws.proofs.Apart.{changed-All}
use Rattle.ea_machine.specs.declared.stages.Stage.TheVariants.{Begin}
use Rattle.ea_machine.specs.Actor.{Actor}
use Rattle.ea_machine.specs.declared.asks.Ask.{Ask}
use Rattle.ea_machine.specs.Nodes.{name_of}
use Rattle.ea_sound.specs.Names.{allocated, of_content, of_named, only}
use Rattle.ea_machine.specs.Setup.{Setup, is_scheduler, migration}
use Rattle.ea_machine.specs.Shared.{Shared, put}
use Rattle.ea_machine.specs.State.{State}
use Rattle.ea_machine.specs.Sums.{one_if, sum_over}
use Rattle.ea_sound.specs.Blocks.{employed_sum, spot_at}
use Rattle.ea_sound.specs.Leaves.{Wanted, making, placing}
use Rattle.ea_sound.specs.Moments.{at, with_actor}
use Rattle.ea_sound.specs.Rule.{Belongs, Kept, Standing, blocks_of, of_owner}
use Rattle.ea_sound.proofs.Alike.{Alike, allocated-with, fewer-once, kept-with, lies-with}
use Rattle.ea_sound.proofs.BlockWeights.{sum-placed}
use Rattle.ea_sound.proofs.Choosing.{chosen-gap}
use Rattle.ea_sound.proofs.Created.{created-Belongs, created-owner, creating-Standing}
use Rattle.ea_sound.proofs.Created.{creating_single-Standing}
use Rattle.ea_sound.proofs.EmployedWeights.{employed_sum-creating, employed_sum-creating_single}
use Rattle.ea_sound.proofs.EmployedWeights.{employed_sum-placing}
use Rattle.ea_sound.proofs.KeyedWeights.{sum-entered}
use Rattle.ea_laws.proofs.Orderly.{placing-IsOrderly}
use Rattle.ea_sound.proofs.OwnEntries.{unused-none}
use Rattle.ea_sound.proofs.Plans.{planned-unused}
use Rattle.ea_sound.proofs.RangeRows.{LieWell}
use Rattle.ea_sound.proofs.Totals.{put-here}
use Rattle.ea_sound.proofs.Weights.{one-most}
use Rattle.ea_sound.proofs.Counts.{raised-most}

module _ (e : Setup) (w : State) (s : Shared) (me : ℕ) (is : is_scheduler e me ≡ true) where
  -- a name that had no block has one at most now
  pub new-once : (a b : Actor) (name : ℕ) → Kept e (with_actor w s me a)
      → allocated e (only name) (with_actor w s me a) ≡ 0
      → ((n : ℕ) → blocks_of (only n) b ≤ blocks_of (only n) a + one_if (name == n)) → (n : ℕ)
      → allocated e (only n) (with_actor w s me b) ≤ 1
  new-once a b name k none more n =
      elim (cases_eq name n) [
        | inl q ↦ omega (
          arith,
          allocated-with e w s me is (only n) a b,
          more n,
          one-most (name == n),
          subst (λ m. allocated e (only m) (with_actor w s me a) ≡ 0) q none,
        )
        | inr other ↦ omega (
          arith,
          allocated-with e w s me is (only n) a b,
          more n,
          not_that other,
          k.names.once n,
        )
      ] where
        not_that : name ≢ n → one_if (name == n) ≡ 0
        not_that other = grind (arith, other)

  -- a block is placed where there is a gap
  module _ (ask : Ask) (spot : Spot) (a : Actor) (want : Wanted e w s me a ask)
      (chosen : chosen_spot a.instance ask.need ≡ Some spot)
      (k : Kept e (with_actor w s me (at Begin a))) where
    placed-lie : LieWell e me (at Begin a)
    placed-lie = lies-with e w s me is (at Begin a) k

    stands : Standing e me a.instance
    stands = placed-lie.instance is

    gap : HasGap ask.need spot.carrier spot.offset a.instance.contents
    gap = chosen-gap a.instance ask.need spot stands.order.rising stands.order.laid chosen

    abbrev with_block : Content → Content
    with_block c = placed c spot.offset ask.need ask.name

    changes : (f : Content → ℕ)
        → f gap.0 + employed_sum f (placing_at a.instance spot ask.need ask.name)
        ≡ f (with_block gap.0) + employed_sum f a.instance
    changes f =
        employed_sum-placing f a.instance spot ask.need ask.name gap.0 stands.order gap.1

    more : (f : ℕ → Spot → ℕ)
        → of_content f (with_block gap.0) ≡ f ask.name spot + of_content f gap.0
    more f = omega (
      arith,
      sum-placed f gap.0 spot.offset ask.need ask.name,
      ap (λ n. f ask.name (spot_at n spot.offset))
          (item_at-key number_of spot.carrier gap.0 a.instance.contents gap.1),
    )

    placed-alike : Alike e me (at Begin a) (at Begin (placing ask spot a))
    placed-alike = record {
      names = λ f. omega (
        arith,
        more f,
        changes (of_content f),
        sum-entered name_of (of_named f) (record { name = ask.name; spot = spot }) a.held,
      );
      links = λ u. refl;
      nodes = λ g. refl;
      numbers = λ h k on. omega (arith, changes (λ z. k me z.number));
      numbers_off = λ h k off. omega (arith, changes (λ z. k me z.number));
      owned = λ m. omega (arith, changes (of_owner m));
      lie = record {
        instance = λ _. record {
          settings = stands.settings;
          number = stands.number;
          first = stands.first;
          end = stands.end;
          count = raised-most a.instance.settings e.settings a.instance.count stands.settings;
          order = placing-IsOrderly a.instance spot ask.need ask.name stands.order gap want.least
              want.even;
        };
        nobody = λ none. absurd (true≢false (sym is ∙ none));
        contents = changed-All (Belongs e me) with_block spot.carrier a.instance.contents
            stands.order.rising placed-lie.contents
            (λ c there.
            let b = item_at-All number_of (Belongs e me) spot.carrier c a.instance.contents
            placed-lie.contents there in
            record { owner = b.owner; low = b.low; high = b.high; stays = b.stays });
        singles = placed-lie.singles;
        in_hand = tt;
        hand_laid = tt;
      };
    }

    pub place-kept : Kept e (with_actor w s me (at Begin (placing ask spot a)))
    place-kept =
        kept-with e w s me is (at Begin a) (at Begin (placing ask spot a)) k placed-alike
        (new-once (at Begin a) (at Begin (placing ask spot a)) ask.name k want.fresh
        (λ n. omega (arith, more (only n), changes (of_content (only n)))))

  -- where carriers don't migrate the carrier of a plan comes at once
  module _ (ask : Ask) (p : CarrierPlan) (a : Actor) (want : Wanted e w s me a ask)
      (asked : plan a.instance ask.need ≡ Ok p) (off : migration e ≡ false)
      (k : Kept e (with_actor w s me (at Begin a))) where
    made-lie : LieWell e me (at Begin a)
    made-lie = lies-with e w s me is (at Begin a) k

    instance-before : Standing e me a.instance
    instance-before = made-lie.instance is

    here : put w.actors me (at Begin a) me ≡ at Begin a
    here = put-here w.actors me (at Begin a) me refl

    new : content_of (employed a.instance) p.number ≡ None
    new = subst (λ (b : Actor). content_of (employed b.instance) p.number ≡ None) here
        (unused-none e (with_actor w s me (at Begin a)) k p.number
        (subst (λ (b : Actor). own_at b.instance.own p.number ≡ None)
        (sym (ap (put w.actors me (at Begin a))
        (created-owner e me a.instance instance-before ask.need p asked) ∙ here))
        (planned-unused a.instance ask.need p asked)) me)

    owned-more : (f : OwnCarrier → ℕ) → sum_over f (with_own (planned_own p) a.instance.own)
        ≡ f (planned_own p) + sum_over f a.instance.own
    owned-more f = sum-entered own_number f (planned_own p) a.instance.own

    alone : (f : Content → ℕ)
        → employed_sum f (creating_single a.instance p ask.need ask.name)
        ≡ f (created_single a.instance.number p ask.need ask.name) + employed_sum f a.instance
    alone f = employed_sum-creating_single f a.instance p ask.need ask.name

    single-alike : Alike e me (at Begin a) (at Begin (making ask p a true))
    single-alike = record {
      names = λ f. omega (
        arith,
        alone (of_content f),
        sum-entered name_of (of_named f)
            (record { name = ask.name; spot = spot_at p.number 8 }) a.held,
      );
      links = λ u. refl;
      nodes = λ g. refl;
      numbers = λ h j on. absurd (true≢false (sym on ∙ off));
      numbers_off = λ h j off. omega
          (arith, alone (λ z. j me z.number), owned-more (λ (o : OwnCarrier). j me o.number));
      owned = λ m. omega (
        arith,
        alone (of_owner m),
        owned-more (λ (o : OwnCarrier). m me o.number o.base (512 * o.pages)),
        ap (λ i. m i p.number p.base (512 * p.pages)) instance-before.number,
      );
      lie = record {
        instance = λ _. creating_single-Standing e me a.instance instance-before ask.need p asked
            new ask.name want.least want.even;
        nobody = λ none. absurd (true≢false (sym is ∙ none));
        contents = made-lie.contents;
        singles = All-entered number_of (Belongs e me) _ a.instance.singles
            (created-Belongs e me a.instance instance-before ask.need p asked Single _)
            made-lie.singles;
        in_hand = tt;
        hand_laid = tt;
      };
    }

    many : (f : Content → ℕ) → employed_sum f (creating a.instance p)
        ≡ f (created_content a.instance.number Multi p) + employed_sum f a.instance
    many f = employed_sum-creating f a.instance p

    multi-alike : Alike e me (at Begin a) (at Begin (making ask p a false))
    multi-alike = record {
      names = λ f. omega (arith, many (of_content f));
      links = λ u. refl;
      nodes = λ g. refl;
      numbers = λ h j on. absurd (true≢false (sym on ∙ off));
      numbers_off = λ h j off. omega
          (arith, many (λ z. j me z.number), owned-more (λ (o : OwnCarrier). j me o.number));
      owned = λ m. omega (
        arith,
        many (of_owner m),
        owned-more (λ (o : OwnCarrier). m me o.number o.base (512 * o.pages)),
        ap (λ i. m i p.number p.base (512 * p.pages)) instance-before.number,
      );
      lie = record {
        instance = λ _. creating-Standing e me a.instance instance-before ask.need p asked new;
        nobody = λ none. absurd (true≢false (sym is ∙ none));
        contents = All-entered number_of (Belongs e me) _ a.instance.contents
            (created-Belongs e me a.instance instance-before ask.need p asked Multi [])
            made-lie.contents;
        singles = made-lie.singles;
        in_hand = tt;
        hand_laid = tt;
      };
    }

    pub make-kept : (single : Bool) → Kept e (with_actor w s me (at Begin (making ask p a single)))
    make-kept true =
        kept-with e w s me is (at Begin a) (at Begin (making ask p a true)) k single-alike
        (new-once (at Begin a) (at Begin (making ask p a true)) ask.name k want.fresh
        (λ n. omega (arith, alone (of_content (only n)))))
    make-kept false =
        kept-with e w s me is (at Begin a) (at Begin (making ask p a false)) k multi-alike
        (fewer-once e w s me is (at Begin a) (at Begin (making ask p a false)) k
        (λ n. omega (arith, many (of_content (only n)))))
