-- Clear: a scheduler owns an empty carrier no longer, which it employed or which came home to it.
use Rattle.std.proofs.Common.{◌≡◌, ◌≢◌, ℕ, ◌+◌, ◌*◌, ◌/◌, ◌<◌, [], true, false, sym, ap, ◌∙◌, subst}
use Rattle.std.proofs.Common.{arith}
use Rattle.std.specs.Prelude.{Some}
use Rattle.ea_model.specs.declared.carriers.OwnCarrier.{OwnCarrier}
use Rattle.ea_model.specs.declared.carriers.Spot.{Spot}
use Rattle.ea_model.specs.Content.{Content}
use Rattle.ea_model.specs.Instance.{own_at, own_of, owner_of}
use Rattle.ea_laws.specs.Kept.{IsLaidOut, IsWhole, own_number}
use Rattle.ea_machine.specs.declared.nodes.Node.{Node}
use Rattle.ea_machine.specs.declared.stages.Stage.TheVariants.{Begin, Collecting, Routed}
use Rattle.ea_machine.specs.declared.stages.Route.TheVariants.{Clearing}
use Rattle.ea_machine.specs.Actor.{Actor}
use Rattle.ea_machine.specs.declared.tasks.Why.{Why}
use Rattle.ea_machine.specs.declared.tasks.Gone.{Gone}
use Rattle.ea_sound.specs.Contents.{AtHome, InHand, hand_sum, home_sum, slots}
use Rattle.ea_sound.specs.Names.{of_block, of_content, of_hand}
use Rattle.ea_sound.specs.NodePlaces.{of_carrier_hand, of_link}
use Rattle.ea_machine.specs.Owners.{Absent, Employed, Returning}
use Rattle.ea_sound.specs.Ranges.{IsLaidOutAsKind}
use Rattle.ea_machine.specs.Releases.{disowned}
use Rattle.ea_machine.specs.Setup.{Setup, is_scheduler, migration}
use Rattle.ea_machine.specs.Shared.{at_place}
use Rattle.ea_machine.specs.State.{State}
use Rattle.ea_machine.specs.Sums.{sum_over}
use Rattle.ea_sound.specs.Moments.{at}
use Rattle.ea_sound.specs.Rule.{Belongs, Kept, Standing, employed_at, of_own, of_owner}
use Rattle.ea_sound.specs.Rule.{returning_at}
use Rattle.ea_sound.proofs.Employers.{there-on, there-slot}
use Rattle.ea_sound.proofs.KeyedWeights.{sum-without, times-once}
use Rattle.ea_sound.proofs.Moved.{Moved, place_moved}
use Rattle.ea_sound.proofs.Numbered.{scheduler-seat}
use Rattle.ea_laws.proofs.Orderly.{disowning-IsOrderly}
use Rattle.ea_sound.proofs.OwnEntries.{owner-has, somewhere-hand, somewhere-returning, this}
use Rattle.ea_sound.proofs.RangeRows.{LieWell}
use Rattle.ea_sound.proofs.Laid.{as_kind-whole}

-- no block has a name in an empty carrier
empty-names : (f : ℕ → Spot → ℕ) (x : Content) → x.blocks ≡ [] → of_content f x ≡ 0
empty-names f x none = ap (sum_over (of_block f x.number)) none

module _ (e : Setup) (w : State) (me : ℕ) (is : is_scheduler e me ≡ true) (k : Kept e w)
    (on : migration e ≡ true) (c : ℕ) (slot : c < slots e) (x : Content) (empty : x.blocks ≡ [])
  where
    abbrev old : Actor
    old = w.actors me

    stands : Standing e me old.instance
    stands = k.ranges.instances me is

    -- what the carrier leaves behind
    module _ (owns : own_at old.instance.own c ≡ Some (own_of x)) (owner : x.owner ≡ me)
        (whole : IsWhole x) where
      owned_less : (m : ℕ → ℕ → ℕ → ℕ → ℕ)
          → of_owner m x + of_own m me (at Begin (disowned c old)) ≡ of_own m me old
      owned_less m = omega (
        arith,
        sum-without own_number (λ (o : OwnCarrier). m me o.number o.base (512 * o.pages)) c
            (own_of x) old.instance.own
            (times-once own_number c old.instance.own stands.order.kept.rising) owns,
        ap (λ i. m i x.number x.base x.units) owner,
        ap (m me x.number x.base) units,
      ) where
        units : 512 * (x.units / 512) ≡ x.units
        units = omega (arith, whole.0)

      cleared_lie : LieWell e me (at Begin (disowned c old))
      cleared_lie = record {
        instance = λ _. record {
          settings = stands.settings;
          number = stands.number;
          first = stands.first;
          end = stands.end;
          count = stands.count;
          order = disowning-IsOrderly old.instance c stands.order;
        };
        nobody = λ none. absurd (let t : true ≡ false = sym is ∙ none in cc);
        contents = k.ranges.contents me;
        singles = k.ranges.singles me;
        in_hand = tt;
        hand_laid = tt;
      }

      -- its content was in the hand, or at home with its node in the hand
      cleared : ((f : ℕ → Spot → ℕ) → of_hand f old.stage ≡ 0)
          → ((f : Content → ℕ) → hand_sum f f old.stage + home_sum f (w.shared.places c) ≡ f x)
          → ((u : ℕ → Node → ℕ) → of_link u old.stage ≡ 0)
          → ((g : ℕ → ℕ → ℕ)
          → of_carrier_hand g me old.stage ≡ returning_at g c (w.shared.places c))
          → ((b h : ℕ → ℕ → ℕ) → hand_sum (λ y. b me y.number) (λ y. h me y.number) old.stage
          ≡ employed_at b h c (w.shared.places c))
          → Moved e w me (at_place c Absent w.shared) (at Begin (disowned c old))
      cleared names content links nodes numbers =
          place_moved e w me (scheduler-seat e me is) k on c Absent (at Begin (disowned c old))
          (record {
            slot = slot;
            names = λ f. omega (arith, names f, content (of_content f), empty-names f x empty);
            links = λ u. sym (links u);
            nodes = λ g. omega (arith, nodes g);
            contents = λ b h. omega (arith, numbers b h);
            owned = λ m. omega (arith, owned_less m, content (of_owner m));
            may = tt;
            lie = cleared_lie;
            home = (tt, tt);
          })
          (λ n. omega arith)

module _ (e : Setup) (w : State) (me : ℕ) (is : is_scheduler e me ≡ true) (k : Kept e w) where
  -- a carrier of its own that a scheduler employed
  pub cleared_carrier : (why : Why) (gone : Gone) (x : Content) → migration e ≡ true
      → x.number < slots e → (w.actors me).stage ≡ Routed (Clearing x) why gone
      → w.shared.places x.number ≡ Employed me → x.blocks ≡ [] → owner_of x.number ≡ me
      → Moved e w me (at_place x.number Absent w.shared)
      (at Begin (disowned x.number (w.actors me)))
  cleared_carrier why gone x on slot stage word empty mine =
      let belongs : Belongs e me x =
      subst (InHand (Belongs e me) (Belongs e me)) stage (k.ranges.in_hand me) in
      let laid : IsLaidOutAsKind x =
      subst (InHand IsLaidOut IsLaidOutAsKind) stage (k.ranges.hand_laid me) in
      let owner : x.owner ≡ me = belongs.owner ∙ mine in
      let there = somewhere-hand e w k x me
      (ap (hand_sum (of_owner (this x)) (of_owner (this x))) stage)
      in
      cleared e w me is k on x.number slot x empty
      (subst (λ i. own_at (w.actors i).instance.own x.number ≡ Some (own_of x)) owner
      (owner-has e w k x there)) owner (as_kind-whole x laid)
      (λ f. ap (of_hand f) stage)
      (λ f. omega (arith, ap (hand_sum f f) stage, ap (home_sum f) word))
      (λ u. ap (of_link u) stage)
      (λ g. omega
      (arith, ap (of_carrier_hand g me) stage, ap (returning_at g x.number) word))
      (λ b h. omega (
        arith,
        ap (hand_sum (λ y. b me y.number) (λ y. h me y.number)) stage,
        ap (employed_at b h x.number) word,
      ))

  -- one that came home to it
  pub collected_carrier : (c : ℕ) (x : Content) → (w.actors me).stage ≡ Collecting c
      → w.shared.places c ≡ Returning me x
      → Moved e w me (at_place c Absent w.shared) (at Begin (disowned c (w.actors me)))
  collected_carrier c x stage word =
      let there : w.shared.places c ≢ Absent =
      λ z. let never : Returning me x ≡ Absent = sym word ∙ z in cc in
      let to = k.returns.to_owner c me x word in
      let number : x.number ≡ c = (k.placed.returning c me x word).0 in
      let belongs : Belongs e x.owner x =
      subst (AtHome (λ y. Belongs e y.owner y)) word (k.ranges.home c) in
      let laid : IsLaidOut x = subst (AtHome IsLaidOut) word (k.ranges.home_laid c) in
      let owner : x.owner ≡ me = belongs.owner ∙ ap owner_of number ∙ sym to.0 in
      let owns = owner-has e w k x (somewhere-returning e w k c me x word) in
      cleared e w me is k (there-on e w k c there) c (there-slot e w k c there) x to.1
      (subst (λ n. own_at (w.actors me).instance.own n ≡ Some (own_of x)) number
      (subst (λ i. own_at (w.actors i).instance.own x.number ≡ Some (own_of x)) owner owns)) owner
      laid.whole
      (λ f. ap (of_hand f) stage)
      (λ f. omega (arith, ap (hand_sum f f) stage, ap (home_sum f) word))
      (λ u. ap (of_link u) stage)
      (λ g. omega (arith, ap (of_carrier_hand g me) stage, ap (returning_at g c) word))
      (λ b h. omega (
        arith,
        ap (hand_sum (λ y. b me y.number) (λ y. h me y.number)) stage,
        ap (employed_at b h c) word,
      ))
