-- A scheduler that resizes a block in its place, under a new name, keeps what every moment keeps.
use Rattle.std.proofs.Common.{◌≡◌, ◌≢◌, ℕ, ◌+◌, ◌*◌, ◌/◌, ◌%◌, ◌<◌, ◌≤◌, true, refl, sym, ap, ◌∙◌}
use Rattle.std.proofs.Common.{subst, inl, inr, arith}
use Rattle.std.proofs.lemmas.Bool.{true≢false}
use Rattle.std.specs.Prelude.{Some, None, All}
use Rattle.ea_model.specs.declared.carriers.BlockAt.{BlockAt}
use Rattle.ea_model.specs.declared.carriers.Kind.TheVariants.{Multi, Single}
use Rattle.ea_model.specs.declared.carriers.OwnCarrier.{OwnCarrier}
use Rattle.ea_model.specs.declared.carriers.Spot.{Spot}
use Rattle.ea_model.specs.declared.reallocation.Decision.{Decision}
use Rattle.ea_model.specs.declared.reallocation.Decision.TheVariants.{Stay, ShrinkHere, GrowHere}
use Rattle.ea_model.specs.declared.reallocation.Decision.TheVariants.{ShrinkCarrier, Move}
use Rattle.ea_model.specs.declared.reallocation.Where.TheVariants as whereabouts
use Rattle.ea_model.specs.Content.{Content, block_at}
use Rattle.ea_model.specs.Decision.{decision}
use Rattle.ea_model.specs.Instance.{Instance, content_of, decision_at, employed, own_at, own_of}
use Rattle.ea_model.specs.Instance.{resized_by, resized_to, resizing_at, where_at}
use Rattle.ea_model.proofs.Rising.{item_at-All, item_at-key}
use Rattle.ea_laws.specs.Kept.{number_of, IsLaidOutAlone}
use Rattle.ea_laws.proofs.Keeping.{pages_of_units}
use Rattle.ea_laws.proofs.Resizing.{shortened-alone}
use Rattle.ea_machine.specs.declared.stages.Stage.TheVariants.{Begin}
use Rattle.ea_machine.specs.Actor.{Actor}
use Rattle.ea_sound.specs.Names.{of_content, of_named, only}
use Rattle.ea_machine.specs.Nodes.{named_at, without_name, name_of}
use Rattle.ea_machine.specs.declared.nodes.Named.{Named}
use Rattle.ea_machine.specs.Placements.{holding}
use Rattle.ea_machine.specs.Setup.{Setup, is_scheduler}
use Rattle.ea_machine.specs.Shared.{Shared}
use Rattle.ea_machine.specs.State.{State}
use Rattle.ea_machine.specs.Sums.{sum_over}
use Rattle.ea_machine.specs.Tasks.{let_go}
use Rattle.ea_sound.specs.Blocks.{employed_sum, spot_at}
use Rattle.ea_sound.specs.Leaves.{IsFresh}
use Rattle.ea_sound.specs.Moments.{at, with_actor}
use Rattle.ea_sound.specs.Rule.{Belongs, Kept, Standing, of_owner}
use Rattle.ea_sound.proofs.Alike.{Alike, kept-with, lies-with}
use Rattle.ea_sound.proofs.BlockWeights.{block-rising, sum-after}
use Rattle.ea_sound.proofs.EmployedWeights.{employed_sum-resizing, sum-own_resizing}
use Rattle.ea_sound.proofs.Hits.{employed-holds, held-stands}
use Rattle.ea_sound.proofs.KeyedWeights.{sum-entered, sum-without}
use Rattle.ea_sound.proofs.Numbered.{scheduler-seat}
use Rattle.ea_sound.proofs.Occupied.{resizing-All}
use Rattle.ea_laws.proofs.Orderly.{resizing-IsOrderly, resizing-fixed, resizing-size}
use Rattle.ea_laws.proofs.Orderly.{resizing-where, stays-employed}
use Rattle.ea_sound.proofs.OwnEntries.{owner-has, somewhere-found}
use Rattle.ea_sound.proofs.PlacingMoves.{new-once}
use Rattle.ea_sound.proofs.RangeRows.{LieWell}
use Rattle.ea_laws.proofs.Resizing.{content_after, single-shortens}
use Rattle.ea_sound.proofs.StandingBlocks.{hit-found}
use Rattle.ea_sound.proofs.StillMoves.{held-once}
use Rattle.ea_sound.proofs.Totals.{put-here}
use Rattle.ea_sound.proofs.Counts.{resized-most}
use Rattle.ea_model.specs.Settings.{most_count}

whole-units : (c : Content) → IsLaidOutAlone c → 512 * (c.units / 512) ≡ c.units
whole-units c laid = omega (arith, laid.whole.0)

module _ (e : Setup) (w : State) (s : Shared) (me : ℕ) (is : is_scheduler e me ≡ true)
    (old : Named) (fresh need : ℕ) (a : Actor) (held : named_at old.name a.held ≡ Some old)
    (new : IsFresh e w s me fresh (at Begin a)) (least : 6 ≤ need) (even : need % 2 ≡ 0)
    (stays : decision_at a.instance old.spot need ≢ Move)
    (k : Kept e (with_actor w s me (at Begin a))) where
  abbrev i : Instance
  i = a.instance

  abbrev spot : Spot
  spot = old.spot

  abbrev v : State
  v = with_actor w s me (at Begin a)

  lie : LieWell e me (at Begin a)
  lie = lies-with e w s me is (at Begin a) k

  stands : Standing e me i
  stands = lie.instance is

  here : v.actors me ≡ at Begin a
  here = put-here w.actors me (at Begin a) me refl

  -- the carrier and its block
  there : (c : Content) × (content_of (employed i) spot.carrier ≡ Some c)
  there = stays-employed i spot need stands.order stays

  abbrev c : Content
  c = there.0

  found : (b : BlockAt) × (block_at c.blocks spot.offset ≡ Some b) × (b.name ≡ old.name)
  found = hit-found e v k me (scheduler-seat e me is) (at Begin a) here old.name spot
      (held-stands old.name old (at Begin a) held) c there.1

  belongs : Belongs e me c
  belongs = employed-holds (Belongs e me) i spot.carrier c lie.contents lie.singles there.1

  -- a singleblock carrier is the scheduler's own
  module _ (alone : content_of i.singles spot.carrier ≡ Some c) where
    laid-alone : IsLaidOutAlone c
    laid-alone = item_at-All number_of IsLaidOutAlone spot.carrier c i.singles
        stands.order.alone alone

    owner-me : c.owner ≡ me
    owner-me = elim belongs.stays [
      | inl multi ↦ absurd (let never : Multi ≡ Single = sym multi ∙ laid-alone.single in cc)
      | inr mine ↦ mine
    ]

    owns : own_at i.own spot.carrier ≡ Some (own_of c)
    owns =
        let somewhere = somewhere-found e v k spot.carrier c me
        (subst (λ (b : Actor). content_of (employed b.instance) spot.carrier ≡ Some c)
        (sym here) there.1) in
        subst (λ n. own_at i.own n ≡ Some (own_of c))
        (item_at-key number_of spot.carrier c (employed i) there.1)
        (subst (λ (b : Actor). own_at b.instance.own c.number ≡ Some (own_of c))
        (ap v.actors owner-me ∙ here) (owner-has e v k c somewhere))

  -- and it gets fewer pages
  shrinks : (pages : ℕ) → decision_at i spot need ≡ ShrinkCarrier pages
      → (content_of i.singles spot.carrier ≡ Some c) × (pages < c.units / 512)
  shrinks pages q =
      let b = found.0 in
      elim (resizing-where i spot need fresh c b stands.order there.1 found.1) [
        | inl many ↦ absurd
            (let never : Some c ≡ None = sym many.1 ∙ shortened-alone i spot need pages q in cc)
        | inr one ↦
            let sized = resizing-size i spot need fresh c b stands.order there.1 found.1 in
            let decides : decision i.settings b.size need (whereabouts.Single c.units)
            ≡ decision_at i spot need =
            sym (ap (λ n. decision i.settings n need (where_at i spot)) sized
            ∙ ap (decision i.settings b.size need) one.0) in (
              one.2,
              (single-shortens i.settings c b spot.offset need fresh found.1 least even
                  (laid-alone one.2) pages (decides ∙ q)).1,
            )
      ]

  -- the content then lies where it lay, and with its owner if its units changed
  record Fits (x : Content) : Type 0 where
    number : x.number ≡ c.number
    belongs : Belongs e me x
    owned : (m : ℕ → ℕ → ℕ → ℕ → ℕ)
        → of_owner m x + m me c.number c.base (512 * (c.units / 512))
        ≡ of_owner m c + m me x.number x.base (512 * (x.units / 512))

  after-fits : (d : Decision) → decision_at i spot need ≡ d → (size : ℕ)
      → Fits (content_after d spot.offset size fresh c)
  after-fits Stay q size = record {
    number = refl;
    belongs = record {
      owner = belongs.owner;
      low = belongs.low;
      high = belongs.high;
      stays = belongs.stays;
    };
    owned = λ m. refl;
  }
  after-fits ShrinkHere q size = record {
    number = refl;
    belongs = record {
      owner = belongs.owner;
      low = belongs.low;
      high = belongs.high;
      stays = belongs.stays;
    };
    owned = λ m. refl;
  }
  after-fits GrowHere q size = record {
    number = refl;
    belongs = record {
      owner = belongs.owner;
      low = belongs.low;
      high = belongs.high;
      stays = belongs.stays;
    };
    owned = λ m. refl;
  }
  after-fits (ShrinkCarrier pages) q size =
      let shrunk = shrinks pages q in
      let mine = owner-me shrunk.0 in
      record {
        number = refl;
        belongs = record {
          owner = belongs.owner;
          low = belongs.low;
          high = omega (arith, belongs.high, shrunk.1, pages_of_units pages);
          stays = belongs.stays;
        };
        owned = λ m. omega (
          arith,
          ap (λ j. m j c.number c.base (512 * pages)) mine,
          ap (λ j. m j c.number c.base c.units) mine,
          ap (λ n. m me c.number c.base (512 * n)) (pages_of_units pages),
          ap (m me c.number c.base) (whole-units c (laid-alone shrunk.0)),
        );
      }
  after-fits Move q size = absurd (stays q)

  after : Content
  after = content_after (decision_at i spot need) spot.offset (resized_to i spot need) fresh c

  fits : Fits after
  unfolding after
  fits = after-fits (decision_at i spot need) refl (resized_to i spot need)

  -- own carriers change as contents do
  own-by : (d : Decision) → decision_at i spot need ≡ d → (f : OwnCarrier → ℕ)
      → f (own_of c) + sum_over f (resized_by d i spot (resized_to i spot need) fresh).own
      ≡ f (own_of (content_after d spot.offset (resized_to i spot need) fresh c))
      + sum_over f i.own
  own-by Stay q f = refl
  own-by ShrinkHere q f = refl
  own-by GrowHere q f = refl
  own-by (ShrinkCarrier pages) q f = subst
      (λ d. f (own_of c) + sum_over f (resized_by d i spot (resized_to i spot need) fresh).own
      ≡ f (own_of (content_after d spot.offset (resized_to i spot need) fresh c))
      + sum_over f i.own) q
      (sum-own_resizing i spot need fresh c stands.order there.1 f (owns (shrinks pages q).0))
  own-by Move q f = refl

  own-changes : (f : OwnCarrier → ℕ)
      → f (own_of c) + sum_over f (resizing_at i spot need fresh).own
      ≡ f (own_of after) + sum_over f i.own
  unfolding after
  own-changes f = own-by (decision_at i spot need) refl f

  changes : (f : Content → ℕ)
      → f c + employed_sum f (resizing_at i spot need fresh) ≡ f after + employed_sum f i
  unfolding after
  changes f = employed_sum-resizing i spot need fresh c stands.order there.1 f

  renamed : (f : ℕ → Spot → ℕ)
      → f old.name spot + of_content f after ≡ f fresh spot + of_content f c
  unfolding after
  renamed f = omega (
    arith,
    sum-after f c spot.offset found.0
        (block-rising i spot.carrier c stands.order there.1) found.1
        (decision_at i spot need) (resized_to i spot need) fresh stays,
    ap (λ n. f n (spot_at c.number spot.offset)) found.2,
    ap (λ n. f old.name (spot_at n spot.offset))
        (item_at-key number_of spot.carrier c (employed i) there.1),
    ap (λ n. f fresh (spot_at n spot.offset))
        (item_at-key number_of spot.carrier c (employed i) there.1),
  )

  abbrev resized_actor : Actor
  resized_actor = at Begin (holding fresh spot (let_go old.name
      (record a { instance = resizing_at i spot need fresh })))

  in-both : All (Belongs e me) (resizing_at i spot need fresh).contents
      × All (Belongs e me) (resizing_at i spot need fresh).singles
  unfolding after
  in-both = resizing-All (Belongs e me) i spot need fresh c stands.order there.1 lie.contents
      lie.singles fits.belongs

  resized-stands : Standing e me (resizing_at i spot need fresh)
  resized-stands =
      let fixed = resizing-fixed i spot need fresh in
      record {
        settings = fixed.0 ∙ stands.settings;
        number = fixed.1 ∙ stands.number;
        first = fixed.2 ∙ stands.first;
        end = fixed.3 ∙ stands.end;
        count = resized-most (decision_at i spot need) i spot (resized_to i spot need) fresh
            (most_count e.settings) stands.count;
        order = resizing-IsOrderly i spot need fresh c found.0 stands.order there.1 found.1 least
            even owns;
      }

  resized-alike : Alike e me (at Begin a) resized_actor
  resized-alike = record {
    names = λ f. omega (
      arith,
      renamed f,
      changes (of_content f),
      sum-entered name_of (of_named f) (record { name = fresh; spot = spot })
          (without_name old.name a.held),
      sum-without name_of (of_named f) old.name old a.held
          (held-once e w s me is (at Begin a) old.name k) held,
    );
    links = λ u. refl;
    nodes = λ g. refl;
    numbers = λ h j on. omega (arith, changes (λ z. j me z.number), ap (j me) fits.number);
    numbers_off = λ h j off. omega (
      arith,
      changes (λ z. j me z.number),
      own-changes (λ (o : OwnCarrier). j me o.number),
      ap (j me) fits.number,
    );
    owned = λ m. omega (
      arith,
      changes (of_owner m),
      own-changes (λ (o : OwnCarrier). m me o.number o.base (512 * o.pages)),
      fits.owned m,
    );
    lie = record {
      instance = λ _. resized-stands;
      nobody = λ none. absurd (true≢false (sym is ∙ none));
      contents = in-both.0;
      singles = in-both.1;
      in_hand = tt;
      hand_laid = tt;
    };
  }

  pub resize-kept : Kept e (with_actor w s me resized_actor)
  resize-kept = kept-with e w s me is (at Begin a) resized_actor k resized-alike
      (new-once e w s me is (at Begin a) resized_actor fresh k new
      (λ n. omega (arith, renamed (only n), changes (of_content (only n)))))
