-- Moves of a scheduler with a carrier: a block of it is released, and it leaves the instance or its
-- owner.
use Rattle.std.proofs.Common.{◌≡◌, ℕ, ◌+◌, ◌*◌, ◌/◌, List, [], true, false, refl, sym, ap, ◌∙◌}
use Rattle.std.proofs.Common.{subst, inl, inr, arith}
use Rattle.std.proofs.lemmas.Bool.{true≢false}
use Rattle.std.proofs.lemmas.List.Elements.{All-filter, All-weaker}
use Rattle.std.specs.Prelude.{Some, All}
use Rattle.ea_model.specs.declared.carriers.OwnCarrier.{OwnCarrier}
use Rattle.ea_model.specs.declared.carriers.Spot.{Spot}
use Rattle.ea_model.specs.Content.{Content, released}
use Rattle.ea_model.specs.Instance.{Instance, changed, content_of, employed, own_at, own_of}
use Rattle.ea_model.specs.Instance.{releasing_at, without_own, owner_of}
use Rattle.ea_model.proofs.Rising.{item_at-All, item_at-key}
use Rattle.ea_model.specs.Employment.{dismissing}
use Rattle.ea_laws.specs.Kept.{number_of, own_number, IsLaidOut, IsLaidOutAlone}
use Rattle.ea_laws.specs.Kept.{IsOrderly, IsRising}
use Rattle.ea_laws.proofs.Apart.{changed-All}
use Rattle.ea_laws.proofs.Changed.{released-keeps}
use Rattle.ea_laws.proofs.Orderly.{disowning-IsOrderly, dismissing-IsOrderly}
use Rattle.ea_laws.proofs.Orderly.{releasing-IsOrderly}
use Rattle.ea_machine.specs.declared.stages.Stage.TheVariants.{Begin, Routed}
use Rattle.ea_machine.specs.declared.stages.Route.TheVariants.{Looking, Abandoning}
use Rattle.ea_machine.specs.Actor.{Actor}
use Rattle.ea_machine.specs.declared.tasks.Why.{Why}
use Rattle.ea_machine.specs.declared.tasks.Gone.{Gone}
use Rattle.ea_machine.specs.declared.nodes.Named.{Named}
use Rattle.ea_machine.specs.Releases.{dismissed, disowned}
use Rattle.ea_machine.specs.Setup.{Setup, is_scheduler, migration}
use Rattle.ea_machine.specs.Shared.{Shared, put}
use Rattle.ea_machine.specs.State.{State}
use Rattle.ea_machine.specs.Sums.{sum_over}
use Rattle.ea_sound.specs.Contents.{hand_sum}
use Rattle.ea_sound.specs.Names.{of_block, of_content, only}
use Rattle.ea_sound.specs.Ranges.{IsLaidOutAsKind}
use Rattle.ea_sound.specs.Here.{Here}
use Rattle.ea_sound.specs.Blocks.{employed_sum, spot_at}
use Rattle.ea_sound.specs.Moments.{at, with_actor}
use Rattle.ea_sound.specs.Rule.{Belongs, Kept, Standing, of_owner}
use Rattle.ea_sound.proofs.StillMoves.{lists-goes, lower-goes, refill-goes}
use Rattle.ea_sound.proofs.Assembly.{Closed}
use Rattle.ea_sound.proofs.Alike.{Alike, lies-with}
use Rattle.ea_sound.proofs.BlockWeights.{block-rising, only_at-itself, sum-released}
use Rattle.ea_sound.proofs.EmployedWeights.{employed_sum-changing, employed_sum-dismissing}
use Rattle.ea_sound.proofs.KeyedWeights.{sum-without, times-once}
use Rattle.ea_sound.proofs.Hits.{HasBlock, employed-holds, hit}
use Rattle.ea_sound.proofs.Numbered.{scheduler-seat}
use Rattle.ea_sound.proofs.RangeRows.{LieWell}
use Rattle.ea_sound.proofs.OwnEntries.{owner-has, somewhere-hand, this}
use Rattle.ea_sound.proofs.StillMoves.{Fewer, Keeps, clear-goes, goes-alike, hand-goes, log-goes}
use Rattle.ea_sound.proofs.StillMoves.{push-goes, send-goes, try-goes, why-goes}
use Rattle.ea_sound.proofs.Totals.{put-here}
use Rattle.ea_sound.proofs.Counts.{lessened-most}
use Rattle.ea_model.specs.Instance.{has_content}
use Rattle.ea_model.specs.declared.units.TheConstants.{RELEASED_COUNT}
use Rattle.ea_model.specs.Settings.{most_count}

-- a content that is found is laid out, as its kind is
found-laid : (i : Instance) (n : ℕ) (c : Content) → IsOrderly i
    → content_of (employed i) n ≡ Some c → IsLaidOutAsKind c
found-laid i n c order there = employed-holds IsLaidOutAsKind i n c
    (All-weaker IsLaidOut IsLaidOutAsKind (λ x. inl) i.contents order.laid)
    (All-weaker IsLaidOutAlone IsLaidOutAsKind (λ x. inr) i.singles order.alone) there

module _ (e : Setup) (w : State) (s : Shared) (me : ℕ) (is : is_scheduler e me ≡ true)
    (P : Actor → Type 0) (keeps : Keeps e w s me is P) where
  -- a carrier leaves the instance into the hand
  module _ (x : Content) (y : Why) (g : Gone) (a : Actor)
      (there : content_of (employed a.instance) x.number ≡ Some x) (lie : LieWell e me (at Begin a))
    where
      stands : Standing e me a.instance
      stands = lie.instance is

      goes : (f : Content → ℕ) → f x + employed_sum f (dismissing a.instance x.number)
          ≡ employed_sum f a.instance
      goes f = employed_sum-dismissing f a.instance x.number x stands.order there

      dismissed-alike : Alike e me (at Begin a)
          (at (Routed (Abandoning x) y g) (dismissed x.number a))
      dismissed-alike = record {
        names = λ f. omega (arith, goes (of_content f));
        links = λ u. refl;
        nodes = λ g. refl;
        numbers = λ h k on. omega (arith, goes (λ z. k me z.number));
        numbers_off = λ h k off. omega (arith, goes (λ z. k me z.number));
        owned = λ m. omega (arith, goes (of_owner m));
        lie = record {
          instance = λ _. record {
            settings = stands.settings;
            number = stands.number;
            first = stands.first;
            end = stands.end;
            count = stands.count;
            order = dismissing-IsOrderly a.instance x.number stands.order;
          };
          nobody = λ none. absurd (true≢false (sym is ∙ none));
          contents = All-filter _ (Belongs e me) a.instance.contents lie.contents;
          singles = All-filter _ (Belongs e me) a.instance.singles lie.singles;
          in_hand = employed-holds (Belongs e me) a.instance x.number x lie.contents lie.singles
              there;
          hand_laid = found-laid a.instance x.number x stands.order there;
        };
      }

  dismiss-goes : (x : Content) (y : Why) (g : Gone) (a : Actor)
      → content_of (employed a.instance) x.number ≡ Some x → P (at Begin a)
      → P (at (Routed (Abandoning x) y g) (dismissed x.number a))
  dismiss-goes x y g a there p =
      let lie = lies-with e w s me is (at Begin a) (keeps.kept (at Begin a) p) in
      goes-alike e w s me is P keeps (at Begin a)
      (at (Routed (Abandoning x) y g) (dismissed x.number a)) (dismissed-alike x y g a there lie)
      (record {
        blocks = λ n. omega (arith, goes x y g a there lie (of_content (only n)));
        todo = λ n. omega arith;
        busy = λ q. absurd cc;
      }) p

  -- the block in the hand is released where it stands
  module _ (h : Named) (y : Why) (g : Gone) (a : Actor) (here : Here e s me h.spot.carrier)
      (k : Kept e (with_actor w s me (at (Routed (Looking h) y g) a))) where
    abbrev before : Actor
    before = at (Routed (Looking h) y g) a

    released-lie : LieWell e me before
    released-lie = lies-with e w s me is before k

    found : HasBlock a.instance h.name h.spot
    found = hit e (with_actor w s me before) me (scheduler-seat e me is) k before
        (put-here w.actors me before me refl) h.name h.spot here
        (omega (arith, only_at-itself h.name h.spot)) refl

    number-found : found.0.number ≡ h.spot.carrier
    number-found = item_at-key number_of h.spot.carrier found.0 (employed a.instance) found.1

    less : (f : ℕ → Spot → ℕ) → f h.name h.spot + of_content f (released found.0 h.spot.offset)
        ≡ of_content f found.0
    less f = omega (
      arith,
      sum-released f found.0 h.spot.offset found.2.0
          (block-rising a.instance h.spot.carrier found.0 (released-lie.instance is).order found.1)
          found.2.1,
      ap (λ n. f n (spot_at found.0.number h.spot.offset)) found.2.2,
      ap (λ n. f h.name (spot_at n h.spot.offset)) number-found,
    )

    changes : (f : Content → ℕ)
        → f found.0 + employed_sum f (releasing_at a.instance h.spot)
        ≡ f (released found.0 h.spot.offset) + employed_sum f a.instance
    changes f = employed_sum-changing f a.instance h.spot.carrier found.0
        (released-lie.instance is).order found.1 (λ c. released c h.spot.offset)
        (released-keeps h.spot.offset)

    belong-still : (cs : List Content) → IsRising cs → All (Belongs e me) cs
        → All (Belongs e me) (changed (λ c. released c h.spot.offset) h.spot.carrier cs)
    belong-still cs rising all =
        changed-All (Belongs e me) (λ c. released c h.spot.offset) h.spot.carrier cs rising all
        (λ c there.
        let b = item_at-All number_of (Belongs e me) h.spot.carrier c cs all there in
        record { owner = b.owner; low = b.low; high = b.high; stays = b.stays })

    released-alike : Alike e me before
        (at Begin (record a { instance = releasing_at a.instance h.spot }))
    released-alike = record {
      names = λ f. omega (arith, less f, changes (of_content f));
      links = λ u. refl;
      nodes = λ g. refl;
      numbers = λ h k on. omega (arith, changes (λ z. k me z.number));
      numbers_off = λ h k off. omega (arith, changes (λ z. k me z.number));
      owned = λ m. omega (arith, changes (of_owner m));
      lie = record {
        instance = λ _. record {
          settings = (released-lie.instance is).settings;
          number = (released-lie.instance is).number;
          first = (released-lie.instance is).first;
          end = (released-lie.instance is).end;
          count = lessened-most (has_content h.spot.carrier a.instance.contents) RELEASED_COUNT
              a.instance.count (most_count e.settings) (released-lie.instance is).count;
          order = releasing-IsOrderly a.instance h.spot (released-lie.instance is).order;
        };
        nobody = λ none. absurd (true≢false (sym is ∙ none));
        contents = belong-still a.instance.contents
            (released-lie.instance is).order.rising released-lie.contents;
        singles = belong-still a.instance.singles
            (released-lie.instance is).order.rising_singles released-lie.singles;
        in_hand = tt;
        hand_laid = tt;
      };
    }

    release-fewer : Fewer before (at Begin (record a { instance = releasing_at a.instance h.spot }))
    release-fewer = record {
      blocks = λ n. omega (arith, less (only n), changes (of_content (only n)));
      todo = λ n. omega arith;
      busy = λ q. absurd cc;
    }

  -- where carriers don't migrate the emptied carrier in the hand goes for good
  module _ (x : Content) (y : Why) (g : Gone) (a : Actor) (empty : x.blocks ≡ [])
      (mine : owner_of x.number ≡ me) (off : migration e ≡ false)
      (k : Kept e (with_actor w s me (at (Routed (Abandoning x) y g) a))) where
    abbrev in_hand : Actor
    in_hand = at (Routed (Abandoning x) y g) a

    dropped-lie : LieWell e me in_hand
    dropped-lie = lies-with e w s me is in_hand k

    abbrev order : IsOrderly a.instance
    order = (dropped-lie.instance is).order

    hand-here : put w.actors me in_hand me ≡ in_hand
    hand-here = put-here w.actors me in_hand me refl

    owned-here : x.owner ≡ me
    owned-here = dropped-lie.in_hand.owner ∙ mine

    has-own : own_at a.instance.own x.number ≡ Some (own_of x)
    has-own = subst (λ (b : Actor). own_at b.instance.own x.number ≡ Some (own_of x))
        (ap (put w.actors me in_hand) owned-here ∙ hand-here)
        (owner-has e (with_actor w s me in_hand) k x
        (somewhere-hand e (with_actor w s me in_hand) k x me
        (ap (λ (b : Actor). hand_sum (of_owner (this x)) (of_owner (this x)) b.stage) hand-here)))

    leaves : (f : OwnCarrier → ℕ)
        → f (own_of x) + sum_over f (without_own x.number a.instance.own)
        ≡ sum_over f a.instance.own
    leaves f = sum-without own_number f x.number (own_of x) a.instance.own
        (times-once own_number x.number a.instance.own order.kept.rising) has-own

    units-whole : 512 * (x.units / 512) ≡ x.units
    units-whole = elim dropped-lie.hand_laid [
      | inl many ↦ omega (arith, many.whole.0)
      | inr one ↦ omega (arith, one.whole.0)
    ]

    no-blocks : (f : ℕ → Spot → ℕ) → of_content f x ≡ 0
    no-blocks f = ap (sum_over (of_block f x.number)) empty

    dropped-alike : Alike e me in_hand (at Begin (disowned x.number a))
    dropped-alike = record {
      names = λ f. omega (arith, no-blocks f);
      links = λ u. refl;
      nodes = λ g. refl;
      numbers = λ h k on. absurd (true≢false (sym on ∙ off));
      numbers_off = λ h k off. omega (arith, leaves (λ (o : OwnCarrier). k me o.number));
      owned = λ m. omega (
        arith,
        leaves (λ (o : OwnCarrier). m me o.number o.base (512 * o.pages)),
        ap (λ i. m i x.number x.base x.units) owned-here,
        ap (m me x.number x.base) units-whole,
      );
      lie = record {
        instance = λ _. record {
          settings = (dropped-lie.instance is).settings;
          number = (dropped-lie.instance is).number;
          first = (dropped-lie.instance is).first;
          end = (dropped-lie.instance is).end;
          count = (dropped-lie.instance is).count;
          order = disowning-IsOrderly a.instance x.number order;
        };
        nobody = λ none. absurd (true≢false (sym is ∙ none));
        contents = dropped-lie.contents;
        singles = dropped-lie.singles;
        in_hand = tt;
        hand_laid = tt;
      };
    }

  pub closed : Closed e s me P
  closed = record {
    why = why-goes e w s me is P keeps;
    release = λ h y g a here p.
        let k = keeps.kept (at (Routed (Looking h) y g) a) p in
        goes-alike e w s me is P keeps (at (Routed (Looking h) y g) a)
        (at Begin (record a { instance = releasing_at a.instance h.spot }))
        (released-alike h y g a here k) (release-fewer h y g a here k) p;
    dismiss = dismiss-goes;
    send = send-goes e w s me is P keeps;
    clear = clear-goes e w s me is P keeps;
    drop = λ x y g a empty mine off p.
        goes-alike e w s me is P keeps (at (Routed (Abandoning x) y g) a)
        (at Begin (disowned x.number a))
        (dropped-alike x y g a empty mine off (keeps.kept (at (Routed (Abandoning x) y g) a) p))
        (record { blocks = λ n. omega arith; todo = λ n. omega arith; busy = λ q. absurd cc }) p;
    push = push-goes e w s me is P keeps;
    try = try-goes e w s me is P keeps;
    hand = hand-goes e w s me is P keeps;
    log = log-goes e w s me is P keeps;
    lists = lists-goes e w s me is P keeps;
    lower = lower-goes e w s me is P keeps;
    refill = refill-goes e w s me is P keeps;
  }
