-- What a row leaves keeps all that every moment keeps: where one carrier comes to another place,
-- and where nodes and names come to other lists.
use Rattle.std.proofs.Common.{◌≡◌, ℕ, ◌+◌, ◌<◌, ◌≤◌, true, sym, ap, ◌∙◌, subst, arith}
use Rattle.ea_model.specs.declared.carriers.Spot.{Spot}
use Rattle.ea_model.specs.Content.{Content}
use Rattle.ea_model.specs.Instance.{Instance}
use Rattle.ea_laws.specs.Kept.{IsLaidOut}
use Rattle.ea_machine.specs.declared.nodes.Node.{Node}
use Rattle.ea_machine.specs.Actor.{Actor}
use Rattle.ea_sound.specs.Contents.{InHand, actor_sum, hand_sum, home_sum, seats, slots}
use Rattle.ea_sound.specs.Names.{allocated, of_content, only}
use Rattle.ea_sound.specs.NodePlaces.{of_carrier_actor, of_carrier_mark}
use Rattle.ea_machine.specs.Owners.{CarrierAt}
use Rattle.ea_sound.specs.Ranges.{IsLaidOutAsKind}
use Rattle.ea_machine.specs.Setup.{Setup, is_scheduler, migration}
use Rattle.ea_machine.specs.Shared.{Shared, at_place}
use Rattle.ea_machine.specs.State.{State}
use Rattle.ea_machine.specs.Sums.{sum_over, total, total_at}
use Rattle.ea_sound.specs.Moments.{with_actor}
use Rattle.ea_sound.specs.Rule.{Belongs, Kept, Unlinked, blocks_of, employed_at, names_of}
use Rattle.ea_sound.specs.Rule.{numbers_of, of_own, of_owner, returning_at}
use Rattle.ea_sound.proofs.MarkRows.{marks}
use Rattle.ea_sound.proofs.NameRows.{NoMore, names_moved, names_outside, no_more}
use Rattle.ea_sound.proofs.Numbered.{scheduler-seat}
use Rattle.ea_sound.proofs.PlaceRows.{MayBe, by_owner, kept-MayBe, placed_at_place, placed_same}
use Rattle.ea_sound.proofs.RangeRows.{LieWell, LiesAtHome, lie-same, ranges_at_place, ranges_moved}
use Rattle.ea_sound.proofs.ReturnRows.{returns_moved}
use Rattle.ea_sound.proofs.Totals.{put-all, total-put, total_at-put}
use Rattle.ea_sound.proofs.UnlinkedRows.{of_links, unlinked_moved}

-- all is kept, and no name has more blocks
abbrev pub Moved : Setup → State → ℕ → Shared → Actor → Type 0
Moved e w me s a = Kept e (with_actor w s me a) × NoMore e (with_actor w s me a) w

-- a carrier comes to another place, and its content with it, from the scheduler or to it
pub record FitsPlace (e : Setup) (w : State) (me c : ℕ) (p : CarrierAt) (a : Actor) : Type 0 where
  pub slot : c < slots e
  pub names : (f : ℕ → Spot → ℕ) → names_of f a
      + (blocks_of f (w.actors me) + home_sum (of_content f) (w.shared.places c))
      ≡ names_of f (w.actors me) + (blocks_of f a + home_sum (of_content f) p)
  pub links : (u : ℕ → Node → ℕ) → of_links u a ≡ of_links u (w.actors me)
  pub nodes : (g : ℕ → ℕ → ℕ)
      → of_carrier_actor g me a + returning_at g c (w.shared.places c)
      ≡ of_carrier_actor g me (w.actors me) + returning_at g c p
  pub contents : (b k : ℕ → ℕ → ℕ)
      → numbers_of b k me a + employed_at b k c (w.shared.places c)
      ≡ numbers_of b k me (w.actors me) + employed_at b k c p
  pub owned : (m : ℕ → ℕ → ℕ → ℕ → ℕ) → by_owner m a + home_sum (of_owner m) p
      + of_own m me (w.actors me)
      ≡ by_owner m (w.actors me) + home_sum (of_owner m) (w.shared.places c) + of_own m me a
  pub may : MayBe e c p
  pub lie : LieWell e me a
  pub home : LiesAtHome e p

module _ (e : Setup) (w : State) (me : ℕ) (seat : me < seats e) (k : Kept e w) where
  module _ (on : migration e ≡ true) (c : ℕ) (p : CarrierAt) (a : Actor)
      (fits : FitsPlace e w me c p a) where
    -- where no name has two blocks then
    pub place_kept
        : ((n : ℕ) → allocated e (only n) (with_actor w (at_place c p w.shared) me a) ≤ 1)
        → Kept e (with_actor w (at_place c p w.shared) me a)
    place_kept once =
        let may = put-all (MayBe e) w.shared.places c p fits.may (kept-MayBe e w k) in
        record {
          ranges = ranges_at_place e w me a k.ranges fits.lie c p fits.home;
          names = names_moved e w me seat (at_place c p w.shared) a k.names
              (λ f. omega (
                arith,
                fits.names f,
                total-put (home_sum (of_content f)) w.shared.places c p (slots e) fits.slot,
              )) once;
          unlinked = unlinked_moved e w me seat k.unlinked (at_place c p w.shared) a
              (λ u. omega (arith, fits.links u));
          placed = placed_at_place e w me seat k.placed a on c p fits.slot may fits.contents
              fits.owned;
          returns = returns_moved e w me seat k.returns (at_place c p w.shared) a
              (λ g. omega (
                arith,
                fits.nodes g,
                total_at-put (returning_at g) w.shared.places c p (slots e) fits.slot,
              ))
              (λ d i x q. let t = subst (MayBe e d) q (may d) in (t.2, t.3));
        }

    pub place_moved : ((n : ℕ) → blocks_of (only n) a + home_sum (of_content (only n)) p
        ≤ blocks_of (only n) (w.actors me) + home_sum (of_content (only n)) (w.shared.places c))
        → Moved e w me (at_place c p w.shared) a
    place_moved less =
        let more = no_more e w me seat (at_place c p w.shared) a (λ n. omega (
          arith,
          less n,
          total-put (home_sum (of_content (only n))) w.shared.places c p (slots e) fits.slot,
        )) in
        (place_kept (λ n. omega (arith, more n, k.names.once n)), more)

-- nodes and names come to other lists; contents stay, and where they are
pub record FitsLists (e : Setup) (w : State) (me : ℕ) (s : Shared) (a : Actor) : Type 0 where
  pub places : s.places ≡ w.shared.places
  pub instance : a.instance ≡ (w.actors me).instance
  pub hands : (b k : Content → ℕ) → hand_sum b k a.stage ≡ hand_sum b k (w.actors me).stage
  pub names : (f : ℕ → Spot → ℕ) → names_of f a + names_outside e f s
      ≡ names_of f (w.actors me) + names_outside e f w.shared
  pub nodes : (g : ℕ → ℕ → ℕ) → of_carrier_actor g me a + marks e (of_carrier_mark g) s
      ≡ of_carrier_actor g me (w.actors me) + marks e (of_carrier_mark g) w.shared
  pub in_hand : InHand (Belongs e me) (Belongs e me) a.stage
  pub hand_laid : InHand IsLaidOut IsLaidOutAsKind a.stage

module _ (e : Setup) (w : State) (me : ℕ) (is : is_scheduler e me ≡ true) (k : Kept e w)
    (s : Shared) (a : Actor) (fits : FitsLists e w me s a) where
  same_sums : (b h : Content → ℕ) → actor_sum b h a ≡ actor_sum b h (w.actors me)
  same_sums b h = omega (
    arith,
    fits.hands b h,
    ap (λ (i : Instance). sum_over h i.contents + sum_over h i.singles) fits.instance,
  )

  pub lists_moved : Unlinked e (with_actor w s me a) → Moved e w me s a
  lists_moved unlinked =
      let seat = scheduler-seat e me is in
      let home = λ (f : Content → ℕ). ap (λ p. total (slots e) (home_sum f) p) fits.places in
      let blocks = λ (f : ℕ → Spot → ℕ). same_sums (of_content f) (of_content f) in
      let lie = lie-same e w me is k.ranges a fits.instance fits.in_hand fits.hand_laid in
      let more = no_more e w me seat s a
      (λ n. omega (arith, blocks (only n), home (of_content (only n)))) in (
        record {
          ranges = ranges_moved e w me a k.ranges lie s (λ c. subst (LiesAtHome e)
              (ap (λ p. p c) (sym fits.places)) (k.ranges.home c, k.ranges.home_laid c));
          names = names_moved e w me seat s a k.names
              (λ f. omega (arith, fits.names f, blocks f, home (of_content f)))
              (λ n. omega (arith, more n, k.names.once n));
          unlinked = unlinked;
          placed = placed_same e w me seat k.placed a s (record {
            places = fits.places;
            contents = λ b h. same_sums (λ x. b me x.number) (λ x. h me x.number);
            owned = λ m. same_sums (of_owner m) (of_owner m);
            own = ap (λ (i : Instance). i.own) fits.instance;
          });
          returns = returns_moved e w me seat k.returns s a
              (λ g. omega (
                arith,
                fits.nodes g,
                ap (λ p. total_at (slots e) (returning_at g) p) fits.places,
              ))
              (λ c i x q. k.returns.to_owner c i x (ap (λ p. p c) (sym fits.places) ∙ q));
        },
        more,
      )
