-- Rows with which a scheduler comes to employ a carrier: fetch-try and create.
use Rattle.std.proofs.Common.{◌≡◌, ℕ, ◌+◌, ◌*◌, ◌%◌, ◌<◌, ◌≤◌, true, false, [], refl, sym, ap, ◌∙◌}
use Rattle.std.proofs.Common.{subst, inl, inr, arith}
use Rattle.std.specs.Prelude.{None, Ok, ◌==◌, All}
use Rattle.std.proofs.lemmas.Bool.{cases_eq}
use Rattle.ea_model.specs.declared.carriers.CarrierPlan.{CarrierPlan}
use Rattle.ea_model.specs.declared.carriers.Kind.TheVariants.{Multi, Single}
use Rattle.ea_model.specs.declared.carriers.OwnCarrier.{OwnCarrier}
use Rattle.ea_model.specs.declared.carriers.Spot.{Spot}
use Rattle.ea_model.specs.Content.{Content}
use Rattle.ea_model.specs.Instance.{content_of, created_content, created_single, creating}
use Rattle.ea_model.specs.Instance.{creating_single, employed, own_at, plan, planned_own}
use Rattle.ea_model.specs.Instance.{single_place, owner_of}
use Rattle.ea_model.proofs.Rising.{All-entered}
use Rattle.ea_laws.specs.Kept.{number_of, own_number}
use Rattle.ea_machine.specs.declared.nodes.Node.{Node}
use Rattle.ea_machine.specs.declared.stages.Stage.{Stage}
use Rattle.ea_machine.specs.declared.stages.Stage.TheVariants.{Begin}
use Rattle.ea_machine.specs.Actor.{Actor}
use Rattle.ea_sound.specs.Contents.{hand_sum, home_sum, seats, slots}
use Rattle.ea_model.specs.Employment.{employing}
use Rattle.ea_machine.specs.Nodes.{name_of}
use Rattle.ea_sound.specs.Names.{allocated, of_content, of_hand, of_named, of_node, only}
use Rattle.ea_sound.specs.NodePlaces.{of_carrier_hand, of_carrier_node, of_link}
use Rattle.ea_machine.specs.Owners.{Absent, Employed, Pooled}
use Rattle.ea_machine.specs.Placements.{holding, spot_of_place}
use Rattle.ea_machine.specs.Setup.{Setup, is_scheduler, migration}
use Rattle.ea_machine.specs.Shared.{at_place}
use Rattle.ea_machine.specs.State.{State}
use Rattle.ea_machine.specs.Sums.{one_if, sum_over}
use Rattle.ea_sound.specs.Blocks.{employed_sum}
use Rattle.ea_sound.specs.Moments.{at, with_actor}
use Rattle.ea_sound.specs.Rule.{Belongs, Kept, Standing, blocks_of, employed_at, of_own, of_owner}
use Rattle.ea_sound.specs.Rule.{returning_at}
use Rattle.ea_sound.proofs.Created.{created-Belongs, created-owner, created-slot, creating-Standing}
use Rattle.ea_sound.proofs.Created.{creating_single-Standing}
use Rattle.ea_sound.proofs.EmployedWeights.{employed_sum-creating, employed_sum-creating_single}
use Rattle.ea_sound.proofs.EmployedWeights.{employed_sum-employing}
use Rattle.ea_sound.proofs.HandRows.{belongs-taken}
use Rattle.ea_sound.proofs.Homes.{pooled-belongs, pooled-laid, pooled-number, pooled-on}
use Rattle.ea_sound.proofs.Homes.{pooled-slot}
use Rattle.ea_sound.proofs.KeyedWeights.{sum-entered}
use Rattle.ea_sound.proofs.Moved.{FitsPlace, Moved, place_kept, place_moved}
use Rattle.ea_sound.proofs.Numbered.{scheduler-seat}
use Rattle.ea_laws.proofs.Orderly.{employing-IsOrderly}
use Rattle.ea_sound.proofs.OwnEntries.{not_here-none, unused-absent, unused-none}
use Rattle.ea_sound.proofs.Plans.{planned-unused}
use Rattle.ea_sound.proofs.Totals.{total-put}
use Rattle.ea_sound.proofs.Weights.{one-most, one-other}

-- a stage with nothing in the hand
pub record IsBare (stage : Stage Content) : Type 0 where
  pub names : (f : ℕ → Spot → ℕ) → of_hand f stage ≡ 0
  pub hands : (b k : Content → ℕ) → hand_sum b k stage ≡ 0
  pub links : (u : ℕ → Node → ℕ) → of_link u stage ≡ 0
  pub nodes : (g : ℕ → ℕ → ℕ) (i : ℕ) → of_carrier_hand g i stage ≡ 0

-- carrier c, that no scheduler has, comes to the instance of scheduler `me`, who was b and is a
-- then
record Comes (e : Setup) (w : State) (me c : ℕ) (b a : Actor) : Type 0 where
  slot : c < slots e
  passed : a.passed ≡ b.passed
  nobody : (h k : ℕ → ℕ → ℕ) → employed_at h k c (w.shared.places c) ≡ 0
  stays : (g : ℕ → ℕ → ℕ) → returning_at g c (w.shared.places c) ≡ 0
  names : (f : ℕ → Spot → ℕ) → sum_over (of_named f) a.held + employed_sum (of_content f) b.instance
      + home_sum (of_content f) (w.shared.places c)
      ≡ sum_over (of_named f) b.held + employed_sum (of_content f) a.instance
  numbers : (h : ℕ → ℕ) → employed_sum (λ x. h x.number) a.instance
      ≡ h c + employed_sum (λ x. h x.number) b.instance
  owned : (m : ℕ → ℕ → ℕ → ℕ → ℕ) → employed_sum (of_owner m) a.instance + of_own m me b
      ≡ employed_sum (of_owner m) b.instance + home_sum (of_owner m) (w.shared.places c)
      + of_own m me a
  standing : Standing e me a.instance
  contents : All (Belongs e me) a.instance.contents
  singles : All (Belongs e me) a.instance.singles

module _ (e : Setup) (w : State) (me : ℕ) (is : is_scheduler e me ≡ true) (k : Kept e w)
    (stage : Stage Content) (bare : IsBare stage) (now : (w.actors me).stage ≡ stage) where
  abbrev old : Actor
  old = w.actors me

  bare_hand : (b h : Content → ℕ) → hand_sum b h old.stage ≡ 0
  bare_hand b h = ap (hand_sum b h) now ∙ bare.hands b h

  comes : (c : ℕ) (a : Actor) → Comes e w me c old a → FitsPlace e w me c (Employed me) (at Begin a)
  comes c a it = record {
    slot = it.slot;
    names = λ f. omega (
      arith,
      it.names f,
      ap (of_hand f) now,
      bare.names f,
      bare_hand (of_content f) (of_content f),
      ap (sum_over (of_node f)) it.passed,
    );
    links = λ u. sym (ap (of_link u) now ∙ bare.links u);
    nodes = λ g. omega (
      arith,
      it.stays g,
      ap (of_carrier_hand g me) now,
      bare.nodes g me,
      ap (sum_over (of_carrier_node g me)) it.passed,
    );
    contents = λ b h. omega (
      arith,
      it.numbers (h me),
      it.nobody b h,
      bare_hand (λ x. b me x.number) (λ x. h me x.number),
    );
    owned = λ m. omega (arith, it.owned m, bare_hand (of_owner m) (of_owner m));
    may = tt;
    lie = record {
      instance = λ _. it.standing;
      nobody = λ none. absurd (let t : true ≡ false = sym is ∙ none in cc);
      contents = it.contents;
      singles = it.singles;
      in_hand = tt;
      hand_laid = tt;
    };
    home = (tt, tt);
  }

  stands : Standing e me old.instance
  stands = k.ranges.instances me is

  -- a won fetch-try: the content comes from home
  module _ (c i g : ℕ) (x : Content) (word : w.shared.places c ≡ Pooled i g x) where
    number : x.number ≡ c
    number = pooled-number e w k c i g x word

    fetched_new : content_of (employed old.instance) x.number ≡ None
    fetched_new = not_here-none e w k x.number me (λ here. elim here [
      | inl h ↦
          let never : Pooled i g x ≡ Employed me =
          sym word ∙ sym (ap w.shared.places number) ∙ h.1 in cc
      | inr h ↦
          let never : true ≡ false = sym (pooled-on e w k c i g x word) ∙ h.0 in cc
    ])

    fetched_sum : (f : Content → ℕ)
        → employed_sum f (employing old.instance x) ≡ f x + employed_sum f old.instance
    fetched_sum f = employed_sum-employing f old.instance x

    fetched_comes : Comes e w me c old (record old { instance = employing old.instance x })
    fetched_comes = record {
      slot = pooled-slot e w k c i g x word;
      passed = refl;
      nobody = λ b h. ap (employed_at b h c) word;
      stays = λ h. ap (returning_at h c) word;
      names = λ f. omega (arith, fetched_sum (of_content f), ap (home_sum (of_content f)) word);
      numbers = λ h. omega (arith, fetched_sum (λ y. h y.number), ap h number);
      owned = λ m. omega (arith, fetched_sum (of_owner m), ap (home_sum (of_owner m)) word);
      standing = record {
        settings = stands.settings;
        number = stands.number;
        first = stands.first;
        end = stands.end;
        count = stands.count;
        order = employing-IsOrderly old.instance stands.order x fetched_new
            (pooled-laid e w k c i g x word);
      };
      contents = All-entered number_of (Belongs e me) x old.instance.contents
          (belongs-taken (k.placed.pooled c i g x word).1 (pooled-belongs e w k c i g x word))
          (k.ranges.contents me);
      singles = k.ranges.singles me;
    }

    pub fetched_carrier : Moved e w me (at_place c (Employed me) w.shared)
        (at Begin (record old { instance = employing old.instance x }))
    fetched_carrier =
        let a : Actor = record old { instance = employing old.instance x } in
        place_moved e w me (scheduler-seat e me is) k (pooled-on e w k c i g x word) c (Employed me)
        (at Begin a) (comes c a fetched_comes)
        (λ n. omega (
          arith,
          fetched_sum (of_content (only n)),
          bare_hand (of_content (only n)) (of_content (only n)),
          ap (home_sum (of_content (only n))) word,
        ))

  -- create: the carrier of a plan is there, without blocks or with the block that it is made for
  module _ (on : migration e ≡ true) (need : ℕ) (p : CarrierPlan)
      (asked : plan old.instance need ≡ Ok p) where
    create_unused : own_at (w.actors (owner_of p.number)).instance.own p.number ≡ None
    create_unused = subst (λ i. own_at (w.actors i).instance.own p.number ≡ None)
        (sym (created-owner e me old.instance stands need p asked))
        (planned-unused old.instance need p asked)

    pub create_absent : w.shared.places p.number ≡ Absent
    create_absent = unused-absent e w k p.number create_unused

    pub create_new : content_of (employed old.instance) p.number ≡ None
    create_new = unused-none e w k p.number create_unused me

    pub create_slot : p.number < slots e
    create_slot = created-slot e me old.instance stands need p asked is

    -- it is among the own carriers
    owned_with : (m : ℕ → ℕ → ℕ → ℕ → ℕ) → m me p.number p.base (512 * p.pages) + of_own m me old
        ≡ of_own m me (record old { instance = creating old.instance p })
    owned_with m = omega (
      arith,
      sum-entered own_number (λ (o : OwnCarrier). m me o.number o.base (512 * o.pages))
          (planned_own p) old.instance.own,
    )

    owner_is : (m : ℕ → ℕ → ℕ → ℕ → ℕ)
        → m old.instance.number p.number p.base (512 * p.pages)
        ≡ m me p.number p.base (512 * p.pages)
    owner_is m = ap (λ i. m i p.number p.base (512 * p.pages)) stands.number

    many_comes : Comes e w me p.number old (record old { instance = creating old.instance p })
    many_comes = record {
      slot = create_slot;
      passed = refl;
      nobody = λ b h. ap (employed_at b h p.number) create_absent;
      stays = λ h. ap (returning_at h p.number) create_absent;
      names = λ f. omega (
        arith,
        employed_sum-creating (of_content f) old.instance p,
        ap (home_sum (of_content f)) create_absent,
      );
      numbers = λ h. employed_sum-creating (λ x. h x.number) old.instance p;
      owned = λ m. omega (
        arith,
        employed_sum-creating (of_owner m) old.instance p,
        owned_with m,
        owner_is m,
        ap (home_sum (of_owner m)) create_absent,
      );
      standing = creating-Standing e me old.instance stands need p asked create_new;
      contents = All-entered number_of (Belongs e me)
          (created_content old.instance.number Multi p) old.instance.contents
          (created-Belongs e me old.instance stands need p asked Multi []) (k.ranges.contents me);
      singles = k.ranges.singles me;
    }

    pub created_many : Moved e w me (at_place p.number (Employed me) w.shared)
        (at Begin (record old { instance = creating old.instance p }))
    created_many =
        let a : Actor = record old { instance = creating old.instance p } in
        place_moved e w me (scheduler-seat e me is) k on p.number (Employed me) (at Begin a)
        (comes p.number a many_comes)
        (λ n. omega (
          arith,
          employed_sum-creating (of_content (only n)) old.instance p,
          bare_hand (of_content (only n)) (of_content (only n)),
          ap (home_sum (of_content (only n))) create_absent,
        ))

    -- a singleblock carrier, with its block
    module _ (name : ℕ) (least : 6 ≤ need) (even : need % 2 ≡ 0)
        (fresh : allocated e (only name) w ≡ 0) where
      abbrev spot : Spot
      spot = spot_of_place (single_place p need)

      abbrev with_alone : Actor
      with_alone =
          holding name spot (record old { instance = creating_single old.instance p need name })

      alone_sum : (f : Content → ℕ) → employed_sum f with_alone.instance
          ≡ f (created_single old.instance.number p need name) + employed_sum f old.instance
      alone_sum f = employed_sum-creating_single f old.instance p need name

      alone_comes : Comes e w me p.number old with_alone
      alone_comes = record {
        slot = create_slot;
        passed = refl;
        nobody = λ b h. ap (employed_at b h p.number) create_absent;
        stays = λ h. ap (returning_at h p.number) create_absent;
        names = λ f. omega (
          arith,
          alone_sum (of_content f),
          sum-entered name_of (of_named f) (record { name = name; spot = spot }) old.held,
          ap (home_sum (of_content f)) create_absent,
        );
        numbers = λ h. alone_sum (λ x. h x.number);
        owned = λ m. omega (
          arith,
          alone_sum (of_owner m),
          owned_with m,
          owner_is m,
          ap (home_sum (of_owner m)) create_absent,
        );
        standing = creating_single-Standing e me old.instance stands need p asked create_new name
            least even;
        contents = k.ranges.contents me;
        singles =
            let x = created_single old.instance.number p need name in
            All-entered number_of (Belongs e me) x old.instance.singles
            (created-Belongs e me old.instance stands need p asked Single x.blocks)
            (k.ranges.singles me);
      }

      alone_allocated : (n : ℕ) → allocated e (only n)
          (with_actor w (at_place p.number (Employed me) w.shared) me (at Begin with_alone))
          ≡ one_if (name == n) + allocated e (only n) w
      alone_allocated n = omega (
        arith,
        alone_sum (of_content (only n)),
        total-put (blocks_of (only n)) w.actors me (at Begin with_alone) (seats e)
            (scheduler-seat e me is),
        total-put (home_sum (of_content (only n))) w.shared.places p.number (Employed me) (slots e)
            create_slot,
        bare_hand (of_content (only n)) (of_content (only n)),
        ap (home_sum (of_content (only n))) create_absent,
      )

      alone_once : (n : ℕ) → allocated e (only n)
          (with_actor w (at_place p.number (Employed me) w.shared) me (at Begin with_alone)) ≤ 1
      alone_once n = elim (cases_eq name n) [
        | inl q ↦ omega (
          arith,
          alone_allocated n,
          fresh,
          ap (λ m. allocated e (only m) w) q,
          one-most (name == n),
        )
        | inr other ↦ omega (arith, alone_allocated n, k.names.once n, one-other name n other)
      ]

      pub created_alone :
          Kept e (with_actor w (at_place p.number (Employed me) w.shared) me (at Begin with_alone))
      created_alone = place_kept e w me (scheduler-seat e me is) k on p.number (Employed me)
          (at Begin with_alone) (comes p.number with_alone alone_comes) alone_once
