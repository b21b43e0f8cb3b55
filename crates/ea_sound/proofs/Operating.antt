-- The local work after a row keeps what every moment keeps.
use Rattle.std.proofs.Common.{◌≡◌, ◌≢◌, ℕ, true, refl, ◌∙◌, arith}
use Rattle.std.specs.Prelude.{Some}
use Rattle.ea_model.specs.declared.carriers.CarrierPlan.{CarrierPlan}
use Rattle.ea_model.specs.declared.carriers.Spot.{Spot}
use Rattle.ea_model.specs.declared.entries.Entry.TheVariants as entry
use Rattle.ea_model.specs.Instance.{creating, resizing_at}
use Rattle.ea_model.proofs.Rising.{item_at-old}
use Rattle.ea_model.specs.Content.{Content}
use Rattle.ea_machine.specs.Lists.{Lists}
use Rattle.ea_machine.specs.declared.stages.Stage.{Stage}
use Rattle.ea_machine.specs.declared.stages.Stage.TheVariants.{Begin, Ready}
use Rattle.ea_machine.specs.Actor.{Actor}
use Rattle.ea_machine.specs.declared.asks.Ask.{Ask}
use Rattle.ea_machine.specs.Machine.{after, after_row}
use Rattle.ea_machine.specs.Nodes.{named_at, name_of}
use Rattle.ea_machine.specs.declared.nodes.Named.{Named}
use Rattle.ea_machine.specs.Placements.{holding}
use Rattle.ea_machine.specs.Reallocations.{resized_place}
use Rattle.ea_machine.specs.Rows.{Answer}
use Rattle.ea_machine.specs.Setup.{Setup, is_scheduler}
use Rattle.ea_machine.specs.Shared.{Shared}
use Rattle.ea_machine.specs.State.{State}
use Rattle.ea_machine.specs.Tasks.{let_go}
use Rattle.ea_sound.specs.Names.{of_content, of_named, only}
use Rattle.ea_sound.specs.Leaves.{InOperation, InWalk, Leaves, Wanted}
use Rattle.ea_sound.specs.Moments.{at, with_actor}
use Rattle.ea_sound.specs.Rule.{Kept}
use Rattle.ea_sound.proofs.Alike.{allocated-with}
use Rattle.ea_sound.proofs.CarrierMoves.{closed}
use Rattle.ea_sound.proofs.EmployedWeights.{employed_sum-creating}
use Rattle.ea_sound.proofs.Hits.{stands-allocated}
use Rattle.ea_sound.proofs.KeyedWeights.{sum-entered, sum-item}
use Rattle.ea_sound.proofs.Numbered.{scheduler-seat}
use Rattle.ea_sound.proofs.PlacingMoves.{make-kept, place-kept}
use Rattle.ea_sound.proofs.ResizingMoves.{resize-kept}
use Rattle.ea_sound.proofs.StageMoves.{closed-walk, inform-goes, observe-goes, rest-goes}
use Rattle.ea_sound.proofs.Stepping.{after-holds, begun-walk}
use Rattle.ea_sound.proofs.StillMoves.{keeps-operation, keeps-walk, log-goes}
use Rattle.ea_sound.proofs.Totals.{put-here}
use Rattle.ea_sound.proofs.Working.{ClosedOperation}
use Rattle.ea_machine.specs.Placements.{refills}

module _ (e : Setup) (w : State) (s : Shared) (me : ℕ) (is : is_scheduler e me ≡ true) where
  abbrev G : Actor → Type 0
  G = InOperation e w s me

  -- a fresh name stays so where an empty carrier is made
  pub made-wanted : (ask : Ask) (p : CarrierPlan) (a : Actor) → Wanted e w s me a ask
      → Wanted e w s me (record a { instance = creating a.instance p }) ask
  made-wanted ask p a want = record {
    fresh = omega (
      arith,
      want.fresh,
      allocated-with e w s me is (only ask.name) (at Begin a)
          (at Begin (record a { instance = creating a.instance p })),
      employed_sum-creating (of_content (only ask.name)) a.instance p,
    );
    least = want.least;
    even = want.even;
    old = want.old;
  }

  -- or where the lists of own carriers change
  pub listed-wanted : (ask : Ask) (l : Lists) (a : Actor) → Wanted e w s me a ask
      → Wanted e w s me (record a { lists = l }) ask
  listed-wanted ask l a want = record {
    fresh = omega (
      arith,
      want.fresh,
      allocated-with e w s me is (only ask.name) (at Begin a) (at Begin (record a { lists = l })),
    );
    least = want.least;
    even = want.even;
    old = want.old;
  }

  -- or where the count is as great as can be
  pub refilled-wanted : (ask : Ask) (a : Actor) → Wanted e w s me a ask
      → Wanted e w s me (refills a) ask
  refilled-wanted ask a want = record {
    fresh = omega (
      arith,
      want.fresh,
      allocated-with e w s me is (only ask.name) (at Begin a) (at Begin (refills a)),
    );
    least = want.least;
    even = want.even;
    old = want.old;
  }

  -- a held name is another than one that is new beside it
  pub held-other : (n : ℕ) (spot : Spot) (h : Named) (a : Actor) → named_at h.name a.held ≡ Some h
      → G (at Begin (holding n spot a)) → h.name ≢ n
  held-other n spot h a there g q =
      let x : Named = record { name = n; spot = spot } in
      let b = at Begin (holding n spot a) in
      let v = with_actor w s me b in
      omega (
        arith,
        stands-allocated e v me (scheduler-seat e me is) g.kept b (put-here w.actors me b me refl)
            (only n),
        g.kept.names.once n,
        sum-entered name_of (of_named (only n)) x a.held,
        sum-item name_of (of_named (only n)) h.name h a.held there,
        only-itself n h.name q,
        only-itself n n refl,
      ) where
        only-itself : (n m : ℕ) → m ≡ n → only n m spot ≡ 1
        only-itself n m q = grind (arith, q)

  -- so it stays held
  pub held-stays : (n : ℕ) (spot : Spot) (h : Named) (a : Actor) → named_at h.name a.held ≡ Some h
      → G (at Begin (holding n spot a)) → named_at h.name (holding n spot a).held ≡ Some h
  held-stays n spot h a there g =
      item_at-old name_of h.name (record { name = n; spot = spot }) a.held
      (held-other n spot h a there g) ∙ there

  pub closed-operation : ClosedOperation e w s me
  closed-operation = record {
    rest = rest-goes e w s me is;
    inform = inform-goes e w s me is;
    observe = observe-goes e w s me is;
    place = λ ask spot a want chosen g. record {
      kept = place-kept e w s me is ask spot a want chosen g.kept;
      busy = λ q. absurd cc;
    };
    make = λ ask p a want asked off g. record {
      kept = make-kept e w s me is ask p a want asked off g.kept p.single;
      busy = λ q. absurd cc;
    };
    made = made-wanted;
    listed = listed-wanted;
    refilled = refilled-wanted;
    stays = held-stays;
    resize = λ old fresh need a held new least even stays g.
        log-goes e w s me is G (keeps-operation e w s me is)
        (entry.ReallocHere old.name fresh (resized_place a.instance old.spot need))
        (holding fresh old.spot (let_go old.name
        (record a { instance = resizing_at a.instance old.spot need fresh })))
        (record {
          kept = resize-kept e w s me is old fresh need a held new least even stays g.kept;
          busy = λ q. absurd cc;
        });
  }

  -- what a row leaves keeps the rule through the whole step
  pub after-kept : (a : Actor) (r : Answer) (st : Stage Content) → Leaves e w s me a st r
      → Kept e (with_actor w s me (after e me a r st))
  after-kept a r st l =
      (after-holds e w s me (closed e w s me is (InWalk e w s me) (keeps-walk e w s me is))
      (closed-walk e w s me is) (closed e w s me is G (keeps-operation e w s me is))
      closed-operation a r st l).kept

  -- where the begin of the operation is over by that row, the operation itself begins with this
  pub begun-kept : (a : Actor) (r : Answer) (st : Stage Content) → Leaves e w s me a st r
      → (after_row e me a r st).stage ≡ Ready → InWalk e w s me (at Begin (after_row e me a r st))
  begun-kept a r st l ready =
      begun-walk e w s me (closed e w s me is (InWalk e w s me) (keeps-walk e w s me is))
      (closed-walk e w s me is) (closed e w s me is G (keeps-operation e w s me is))
      closed-operation a r st l ready
