-- Rows that move a carrier's content between the hand of a scheduler and its home, or change the
-- word of the carrier whose content is in the hand: busy-try, settle, abandon and send-home.
use Rattle.std.proofs.Common.{◌≡◌, ◌≢◌, ℕ, ◌+◌, ◌<◌, ◌≤◌, [], true, refl, sym, ap, ◌∙◌, subst, inl}
use Rattle.std.proofs.Common.{inr, arith}
use Rattle.ea_model.specs.declared.carriers.Kind.TheVariants.{Multi, Single}
use Rattle.ea_model.specs.declared.carriers.Spot.{Spot}
use Rattle.ea_model.specs.Content.{Content, released}
use Rattle.ea_laws.specs.Kept.{IsLaidOut}
use Rattle.ea_machine.specs.declared.nodes.Node.{Node}
use Rattle.ea_machine.specs.declared.nodes.Node.TheVariants.{Carrier}
use Rattle.ea_machine.specs.declared.owners.OwnerWord.{OwnerWord}
use Rattle.ea_machine.specs.declared.nodes.Named.{Named}
use Rattle.ea_laws.proofs.Laid.{released-IsLaidOut}
use Rattle.ea_machine.specs.declared.stages.Stage.{Stage}
use Rattle.ea_machine.specs.declared.stages.Stage.TheVariants.{Begin, Routed}
use Rattle.ea_machine.specs.declared.stages.Route.TheVariants.{Abandoning, Pushing, Sending}
use Rattle.ea_machine.specs.declared.stages.Route.TheVariants.{Settling, Trying}
use Rattle.ea_machine.specs.declared.tasks.Why.{Why}
use Rattle.ea_machine.specs.declared.tasks.Gone.{Gone}
use Rattle.ea_sound.specs.Contents.{InHand, hand_sum, home_sum, slots}
use Rattle.ea_sound.specs.Names.{of_content, of_hand, of_named, only, only_at}
use Rattle.ea_sound.specs.NodePlaces.{of_carrier_hand, of_link}
use Rattle.ea_machine.specs.Owners.{CarrierAt, Employed, Pooled, Busy, Returning}
use Rattle.ea_model.specs.Instance.{owner_of}
use Rattle.ea_sound.specs.Ranges.{IsLaidOutAsKind}
use Rattle.ea_machine.specs.Setup.{Setup, is_scheduler, migration}
use Rattle.ea_machine.specs.Shared.{at_place}
use Rattle.ea_machine.specs.State.{State}
use Rattle.ea_machine.specs.Table.{pooled}
use Rattle.ea_sound.specs.Moments.{at}
use Rattle.ea_sound.specs.Rule.{Belongs, Kept, employed_at, of_owner, returning_at}
use Rattle.ea_sound.proofs.BlockWeights.{only_at-itself}
use Rattle.ea_sound.proofs.Homes.{pooled-belongs, pooled-laid, pooled-number, pooled-on}
use Rattle.ea_sound.proofs.Homes.{pooled-released, pooled-slot}
use Rattle.ea_sound.proofs.Moved.{Moved, place_moved}
use Rattle.ea_sound.proofs.Numbered.{scheduler-seat}
use Rattle.ea_sound.proofs.PlaceRows.{MayBe}
use Rattle.ea_sound.proofs.RangeRows.{LiesAtHome, lie-same}

-- the stage of scheduler `me` becomes another one, and with it the place of carrier c
pub record Turns (e : Setup) (me c : ℕ) (old : Stage Content) (from : CarrierAt)
    (new : Stage Content) (to : CarrierAt) : Type 0 where
  pub names : (f : ℕ → Spot → ℕ) → of_hand f new
      + (hand_sum (of_content f) (of_content f) old + home_sum (of_content f) from)
      ≡ of_hand f old
      + (hand_sum (of_content f) (of_content f) new + home_sum (of_content f) to)
  pub less : (n : ℕ) → hand_sum (of_content (only n)) (of_content (only n)) new
      + home_sum (of_content (only n)) to
      ≤ hand_sum (of_content (only n)) (of_content (only n)) old
      + home_sum (of_content (only n)) from
  pub links : (u : ℕ → Node → ℕ) → of_link u new ≡ of_link u old
  pub nodes : (g : ℕ → ℕ → ℕ) → of_carrier_hand g me new + returning_at g c from
      ≡ of_carrier_hand g me old + returning_at g c to
  pub contents : (b k : ℕ → ℕ → ℕ)
      → hand_sum (λ x. b me x.number) (λ x. k me x.number) new + employed_at b k c from
      ≡ hand_sum (λ x. b me x.number) (λ x. k me x.number) old + employed_at b k c to
  pub owned : (m : ℕ → ℕ → ℕ → ℕ → ℕ)
      → hand_sum (of_owner m) (of_owner m) new + home_sum (of_owner m) to
      ≡ hand_sum (of_owner m) (of_owner m) old + home_sum (of_owner m) from
  pub may : MayBe e c to
  pub in_hand : InHand (Belongs e me) (Belongs e me) new
  pub hand_laid : InHand IsLaidOut IsLaidOutAsKind new
  pub home : LiesAtHome e to

module _ (e : Setup) (w : State) (me : ℕ) (is : is_scheduler e me ≡ true) (k : Kept e w) where
  module _ (on : migration e ≡ true) (c : ℕ) (slot : c < slots e) where
    pub turned : (old : Stage Content) (from : CarrierAt) (new : Stage Content) (to : CarrierAt)
        → (w.actors me).stage ≡ old → w.shared.places c ≡ from → Turns e me c old from new to
        → Moved e w me (at_place c to w.shared) (at new (w.actors me))
    turned old from new to stage word t =
        place_moved e w me (scheduler-seat e me is) k on c to (at new (w.actors me))
        (record {
          slot = slot;
          names = λ f. omega (
            arith,
            t.names f,
            ap (of_hand f) stage,
            ap (hand_sum (of_content f) (of_content f)) stage,
            ap (home_sum (of_content f)) word,
          );
          links = λ u. t.links u ∙ sym (ap (of_link u) stage);
          nodes = λ g. omega (
            arith,
            t.nodes g,
            ap (of_carrier_hand g me) stage,
            ap (returning_at g c) word,
          );
          contents = λ b k. omega (
            arith,
            t.contents b k,
            ap (hand_sum (λ x. b me x.number) (λ x. k me x.number)) stage,
            ap (employed_at b k c) word,
          );
          owned = λ m. omega (
            arith,
            t.owned m,
            ap (hand_sum (of_owner m) (of_owner m)) stage,
            ap (home_sum (of_owner m)) word,
          );
          may = t.may;
          lie = lie-same e w me is k.ranges (at new (w.actors me)) refl t.in_hand t.hand_laid;
          home = t.home;
        })
        (λ n. omega (
          arith,
          t.less n,
          ap (hand_sum (of_content (only n)) (of_content (only n))) stage,
          ap (home_sum (of_content (only n))) word,
        ))

-- at home only the owner matters; who takes a content from there takes that of a multiblock carrier
belongs-home : {e : Setup} {i : ℕ} {x : Content} → Belongs e i x → Belongs e x.owner x
belongs-home l =
    record { owner = l.owner; low = l.low; high = l.high; stays = inr refl }

pub belongs-taken : {e : Setup} {i : ℕ} {x : Content} → x.kind ≡ Multi → Belongs e x.owner x
    → Belongs e i x
belongs-taken multi l =
    record { owner = l.owner; low = l.low; high = l.high; stays = inl multi }

-- a multiblock carrier is laid out for many blocks
pub multi-laid : (x : Content) → x.kind ≡ Multi → IsLaidOutAsKind x → IsLaidOut x
multi-laid x multi laid = elim laid [
  | inl many ↦ many
  | inr one ↦ absurd (let t : Multi ≡ Single = sym multi ∙ one.single in cc)
]

module _ (e : Setup) (w : State) (me : ℕ) (is : is_scheduler e me ≡ true) (k : Kept e w)
    (on : migration e ≡ true) (why : Why) (gone : Gone) where
  module _ (x : Content) (slot : x.number < slots e) where
    module _ (stage : (w.actors me).stage ≡ Routed (Settling x) why gone)
        (word : w.shared.places x.number ≡ Busy me) where
      settled_belongs : Belongs e me x
      settled_belongs = subst (InHand (Belongs e me) (Belongs e me)) stage (k.ranges.in_hand me)

      settled_laid : IsLaidOut x
      settled_laid = subst (InHand IsLaidOut IsLaidOutAsKind) stage (k.ranges.hand_laid me)

      -- settle: an emptied carrier is employed again, with its content still in the hand
      pub settled_empty : Moved e w me (at_place x.number (Employed me) w.shared)
          (at (Routed (Abandoning x) why gone) (w.actors me))
      settled_empty = turned e w me is k on x.number slot (Routed (Settling x) why gone) (Busy me)
          (Routed (Abandoning x) why gone) (Employed me) stage word
          (record {
            names = λ f. omega arith;
            less = λ n. omega arith;
            links = λ u. refl;
            nodes = λ g. refl;
            contents = λ b h. omega arith;
            owned = λ m. refl;
            may = tt;
            in_hand = settled_belongs;
            hand_laid = inl settled_laid;
            home = (tt, tt);
          })

      -- another goes home again
      pub settled_home : x.kind ≡ Multi → x.blocks ≢ []
          → Moved e w me (at_place x.number (pooled me x) w.shared) (at Begin (w.actors me))
      settled_home multi some = turned e w me is k on x.number slot (Routed (Settling x) why gone)
          (Busy me) Begin (pooled me x) stage word
          (record {
            names = λ f. omega arith;
            less = λ n. omega arith;
            links = λ u. refl;
            nodes = λ g. refl;
            contents = λ b h. omega arith;
            owned = λ m. omega arith;
            may = (refl, multi, some, refl, is);
            in_hand = tt;
            hand_laid = tt;
            home = (belongs-home settled_belongs, settled_laid);
          })

    -- abandon: the content goes home
    pub abandoned : (w.actors me).stage ≡ Routed (Abandoning x) why gone
        → w.shared.places x.number ≡ Employed me → x.kind ≡ Multi → x.blocks ≢ []
        → Moved e w me (at_place x.number (pooled me x) w.shared) (at Begin (w.actors me))
    abandoned stage word multi some = turned e w me is k on x.number slot
        (Routed (Abandoning x) why gone) (Employed me) Begin (pooled me x) stage word
        (record {
          names = λ f. omega arith;
          less = λ n. omega arith;
          links = λ u. refl;
          nodes = λ g. refl;
          contents = λ b h. omega arith;
          owned = λ m. omega arith;
          may = (refl, multi, some, refl, is);
          in_hand = tt;
          hand_laid = tt;
          home = (
            belongs-home
                (subst (InHand (Belongs e me) (Belongs e me)) stage (k.ranges.in_hand me)),
            multi-laid x multi
                (subst (InHand IsLaidOut IsLaidOutAsKind) stage (k.ranges.hand_laid me)),
          );
        })

    -- send-home: the content goes home, and the node of the carrier is in the hand
    pub sent_home : (w.actors me).stage ≡ Routed (Sending x) why gone
        → w.shared.places x.number ≡ Employed me → x.kind ≡ Multi → x.blocks ≡ []
        → Moved e w me (at_place x.number (Returning (owner_of x.number) x) w.shared)
        (at (Routed (Pushing (Carrier x.number) (owner_of x.number)) why gone) (w.actors me))
    sent_home stage word multi none = turned e w me is k on x.number slot
        (Routed (Sending x) why gone) (Employed me)
        (Routed (Pushing (Carrier x.number) (owner_of x.number)) why gone)
        (Returning (owner_of x.number) x) stage word
        (record {
          names = λ f. omega arith;
          less = λ n. omega arith;
          links = λ u. refl;
          nodes = λ g. omega arith;
          contents = λ b h. omega arith;
          owned = λ m. omega arith;
          may = (refl, multi, refl, none);
          in_hand = tt;
          hand_laid = tt;
          home = (
            belongs-home
                (subst (InHand (Belongs e me) (Belongs e me)) stage (k.ranges.in_hand me)),
            multi-laid x multi
                (subst (InHand IsLaidOut IsLaidOutAsKind) stage (k.ranges.hand_laid me)),
          );
        })

-- a won busy-try: the content comes from home into the hand, and the block in the hand is released
module _ (e : Setup) (w : State) (me : ℕ) (is : is_scheduler e me ≡ true) (k : Kept e w) (why : Why)
    (gone : Gone) (hand : Named) (seen : OwnerWord) (after : Gone) (i largest : ℕ) (x : Content)
    (stage : (w.actors me).stage ≡ Routed (Trying hand seen) why gone)
    (word : w.shared.places hand.spot.carrier ≡ Pooled i largest x) where
  abbrev c : ℕ
  c = hand.spot.carrier

  won_belongs : Belongs e me x
  won_belongs =
      belongs-taken (k.placed.pooled c i largest x word).1 (pooled-belongs e w k c i largest x word)

  won_names : (f : ℕ → Spot → ℕ)
      → of_named f hand + of_content f (released x hand.spot.offset) ≡ of_content f x
  won_names = pooled-released e w k c i largest x word me (scheduler-seat e me is) (w.actors me)
      refl hand refl (omega (
        arith,
        ap (of_hand (only_at hand.name hand.spot)) stage,
        only_at-itself hand.name hand.spot,
      ))

  pub won_busy : Moved e w me (at_place c (Busy me) w.shared)
      (at (Routed (Settling (released x hand.spot.offset)) why after) (w.actors me))
  won_busy = turned e w me is k (pooled-on e w k c i largest x word) c
      (pooled-slot e w k c i largest x word) (Routed (Trying hand seen) why gone)
      (Pooled i largest x) (Routed (Settling (released x hand.spot.offset)) why after) (Busy me)
      stage word
      (record {
        names = λ f. omega (arith, won_names f);
        less = λ n. omega (arith, won_names (only n));
        links = λ u. refl;
        nodes = λ g. refl;
        contents = λ d h. omega (arith, ap (d me) (pooled-number e w k c i largest x word));
        owned = λ m. omega arith;
        may = tt;
        in_hand = record {
          owner = won_belongs.owner;
          low = won_belongs.low;
          high = won_belongs.high;
          stays = won_belongs.stays;
        };
        hand_laid = released-IsLaidOut x hand.spot.offset (pooled-laid e w k c i largest x word);
        home = (tt, tt);
      })
