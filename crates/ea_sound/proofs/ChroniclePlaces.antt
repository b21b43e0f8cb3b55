-- A turn of a scheduler that places a block, plans a carrier or searches for one: what it makes of
-- what the turns before say.
use Rattle.std.proofs.Common.{◌≡◌, ◌⊎◌, ℕ, ◌<◌, ◌≤◌, List, [], ◌∷◌, ◌++◌, Bool, true}
use Rattle.std.proofs.Common.{false, refl, sym, ap, ◌∙◌, subst, inl, inr, arith, ◌≢◌}
use Rattle.std.specs.Prelude.{Option, Some, None, Result, Ok, Err, ◌==◌}
use Rattle.std.proofs.lemmas.Bool.{eqb-true}
use Rattle.std.proofs.lemmas.List.{append-nil}
use Rattle.std.proofs.lemmas.Bool.{true≢false}
use Rattle.ea_model.specs.declared.carriers.CarrierPlan.{CarrierPlan}
use Rattle.ea_model.specs.declared.carriers.Place.{Place}
use Rattle.ea_model.specs.declared.carriers.Spot.{Spot}
use Rattle.ea_model.specs.Entries.{Entry}
use Rattle.ea_model.specs.declared.entries.Entry.TheVariants as entry
use Rattle.ea_model.specs.declared.entries.NoCarrier.{NoCarrier}
use Rattle.ea_model.specs.declared.entries.NoCarrier.TheVariants.{Space}
use Rattle.ea_model.specs.Instance.{chosen_spot, creating, is_alone, place_at, plan, single_place}
use Rattle.ea_model.specs.Instance.{creating_single, placing_at, owner_of}
use Rattle.ea_model.specs.Content.{Content}
use Rattle.ea_model.proofs.Rising.{item_at-key, item_at-new, item_at-stays, none-other}
use Rattle.ea_laws.proofs.Keeping.{plan-IsPlanned}
use Rattle.ea_laws.specs.Kept.{IsOrderly}
use Rattle.ea_machine.specs.Placements.{search_on}
use Rattle.ea_machine.specs.Searches.{Search, goes_on, looked_in, passed}
use Rattle.ea_machine.specs.declared.stages.Stage.TheVariants.{Begin, Ready, Ended, Routed}
use Rattle.ea_machine.specs.declared.stages.Route.{Route}
use Rattle.ea_machine.specs.declared.stages.Route.TheVariants.{Looking, Trying, Settling}
use Rattle.ea_machine.specs.declared.stages.Route.TheVariants.{Abandoning, Sending, Clearing}
use Rattle.ea_machine.specs.declared.stages.Route.TheVariants.{Pushing, Linking}
use Rattle.ea_machine.specs.Actor.{Actor}
use Rattle.ea_machine.specs.declared.tasks.Task.{Task}
use Rattle.ea_machine.specs.declared.tasks.Task.TheVariants.{Freeing, Moving}
use Rattle.ea_machine.specs.declared.tasks.Why.{Why}
use Rattle.ea_machine.specs.declared.tasks.Why.TheVariants.{For}
use Rattle.ea_machine.specs.declared.tasks.Gone.{Gone}
use Rattle.ea_machine.specs.declared.tasks.Gone.TheVariants.{Open, Here, Queued}
use Rattle.ea_machine.specs.declared.asks.Ask.{Ask}
use Rattle.ea_machine.specs.Machine.{run, wants}
use Rattle.ea_machine.specs.declared.nodes.Named.{Named}
use Rattle.ea_machine.specs.Placements.{created, created_by, failed, making, new_carrier_by}
use Rattle.ea_machine.specs.Placements.{placed_at, placed_by, searched_by, stands}
use Rattle.ea_machine.specs.Placements.{holding, spot_of_place}
use Rattle.ea_machine.specs.Releases.{Turned, owned_by, release_here, route_of, routed}
use Rattle.ea_machine.specs.Setup.{Setup, migration, is_scheduler}
use Rattle.ea_machine.specs.Statistics.{observed}
use Rattle.ea_machine.specs.Tasks.{carried, entry_of, hands_over, later, let_go, logged, task_over}
use Rattle.ea_machine.specs.Nodes.{named_at, block_node, name_of, without_name}
use Rattle.ea_machine.specs.State.{State}
use Rattle.ea_machine.specs.Shared.{Shared}
use Rattle.ea_machine.specs.Table.{effect}
use Rattle.ea_sound.specs.Chosen.{Created, Creates, HasAsked, IsJustBefore, IsPlacedAt, IsPlacement}
use Rattle.ea_sound.specs.Entries.{Tells}
use Rattle.ea_sound.specs.HandedOver.{HasHeld, IsAnother, IsReleasedHere}
use Rattle.ea_sound.specs.Shown.{SeesEmployer, SeesItself}
use Rattle.ea_sound.specs.Exhausted.{FindsNoPlace, IsExhausted, IsFailOf}
use Rattle.ea_sound.specs.Sought.{SoughtInVain}
use Rattle.ea_sound.specs.Turns.{HoldsAfter, actor_after, begun}
use Rattle.ea_sound.specs.Present.{OfAsk, OfTask, OldHeld, Rule, Fits, FitsRoute}
use Rattle.ea_sound.specs.Contents.{actor_sum, seats}
use Rattle.ea_sound.specs.Released.{LiesAt, blocks_named as blocks_of_name, says_failed}
use Rattle.ea_sound.specs.Names.{allocated, of_hand, only}
use Rattle.ea_sound.specs.Rule.{blocks_of}
use Rattle.ea_sound.specs.Leaves.{InOperation, IsFresh, Wanted, making as with_carrier}
use Rattle.ea_sound.specs.Moments.{at, with_actor}
use Rattle.ea_sound.proofs.Chronicle.{CameTo}
use Rattle.ea_sound.proofs.Chronicle.{HasOld, IsOut, LeftBy, OnWay, PushedBy, PushesBy, Sent}
use Rattle.ea_sound.proofs.Chronicle.{IsOfFirst, IsRefilled, Outcomes, Placement, Placing, SoFar}
use Rattle.ea_sound.proofs.Chronicle.{Underway, WentTo, failed-is, name_in, outcomes, task-first}
use Rattle.ea_sound.proofs.ShortRoutes.{Keeps, here-short, keeps-on, route-keeps, route-short}
use Rattle.ea_sound.proofs.TurnLists.{run-snoc, step-is}
use Rattle.ea_sound.proofs.Alike.{allocated-with, lies-with}
use Rattle.ea_sound.proofs.Choosing.{chosen-gap}
use Rattle.ea_sound.proofs.FewBlocks.{blocks_named}
use Rattle.ea_sound.proofs.Hits.{HasBlock, held-stands, hit}
use Rattle.ea_sound.proofs.LyingBlocks.{LiesWith, lying, placing-lies, route-lies, single-lies}
use Rattle.ea_sound.proofs.Numbered.{scheduler-seat}
use Rattle.ea_sound.proofs.Operating.{closed-operation, held-other, held-stays, listed-wanted}
use Rattle.ea_sound.proofs.Operating.{made-wanted}
use Rattle.ea_sound.proofs.Totals.{put-here, total-part}
use Rattle.ea_sound.proofs.Created.{scheduler-number}
use Rattle.ea_sound.proofs.GoneRoutes.{IsBare, NotByWord, NotSent, Yields, here-bare, here-not_sent}
use Rattle.ea_sound.proofs.GoneRoutes.{route-queued}
use Rattle.ea_sound.proofs.GoneBlocks.{NoneNow, held-out}
use Rattle.ea_sound.proofs.Fading.{stays-gone}
use Rattle.ea_sound.proofs.FewBlocks.{all_of}

-- the name of which a fail says so
failed-says : (n : ℕ) (ask : Ask) (looked : ℕ) (why : NoCarrier) (old : Option Named)
    → says_failed n (failed ask looked why old) ≡ (n == ask.name)
failed-says n ask looked why None = refl
failed-says n ask looked why (Some h) = refl

module _ (e : Setup) (rules : (L : List ℕ) → Rule e (run e L)) (L : List ℕ) (me : ℕ) where
  abbrev pub acting : Actor
  acting = actor_after e L me

  abbrev pub turn : List ℕ
  turn = L ++ me ∷ []

  -- the log and the operations left are as they were
  abbrev pub Stays : Actor → Type 0
  Stays b = (b.log ≡ acting.log) × (b.todo ≡ acting.todo)

  -- the first operation made an entry that tells
  pub record OneMore (b : Actor) : Type 0 where
    pub entry : Entry
    pub of : IsOfFirst acting.todo entry
    pub left : b.todo ≡ later acting.todo
    pub log : b.log ≡ acting.log ++ entry ∷ []
    pub begins : b.stage ≡ Begin
    pub tells : Tells e L me entry
    pub none : (n : ℕ) → says_failed n entry ≡ true → blocks_of_name e n (run e turn) ≡ 0

  -- the scheduler is this one after the turn
  abbrev pub IsNow : Actor → Type 0
  IsNow b = observed b ≡ actor_after e turn me

  abbrev pub Fine : Actor → Type 0
  Fine b = (b.stage ≢ Ready) × (b.instance.settings ≡ e.settings)
      × (IsNow b → SoFar e turn me (observed b) b.stage × (Stays b ⊎ OneMore b))

  -- the row of this turn is done on what is shared
  abbrev pub shared : Shared
  shared = effect me (wants acting) (run e L).shared

  -- in the middle of the turn the rule holds, and what is asked for may be placed
  abbrev pub IsGoing : Actor → Type 0
  IsGoing b = InOperation e (run e L) shared me (at Begin b)

  -- it is what the operation asks for
  abbrev pub IsAsking : Ask → Type 0
  IsAsking ask = OfAsk ask acting.todo × HasAsked e turn me ask.need acting.log
      × HasOld e turn me acting.log ask.old

  abbrev pub IsWanted : Actor → Ask → Type 0
  IsWanted b ask = Wanted e (run e L) shared me b ask

  module _ (set : acting.instance.settings ≡ e.settings) (is : is_scheduler e me ≡ true)
      (works : acting.stage ≢ Ended) where
    abbrev pub IsAfter : Actor → Type 0
    IsAfter b = (b.instance ≡ (actor_after e turn me).instance)
        × (b.held ≡ (actor_after e turn me).held)

    -- the scheduler that comes to be has the instance and the held names of b
    abbrev pub now-after : (b : Actor) → IsNow b → IsAfter b
    now-after b now = (ap (λ (a : Actor). a.instance) now, ap (λ (a : Actor). a.held) now)

    -- a block that the scheduler's instance has lies there
    pub landed : (n : ℕ) (p : Place) (b : Actor) → LiesWith n p b.instance → IsAfter b
        → LiesAt e n p (run e turn)
    landed n p b has q =
        let f = blocks_named (lying n p) in
        omega (
          arith,
          subst (LiesWith n p) q.0 has,
          total-part (actor_sum f f) (run e turn).actors me (seats e) (scheduler-seat e me is),
        )

    -- a name stands nowhere
    abbrev pub IsAbsent : ℕ → Actor → Type 0
    IsAbsent n b = IsFresh e (run e L) shared me n (at Begin b)

    -- and still doesn't where the turn ends with an entry
    absent-now : (n : ℕ) (x : Entry) (b : Actor) → IsAbsent n b → IsNow (logged x b)
        → blocks_of_name e n (run e turn) ≡ 0
    absent-now n x b none now =
        let t = step-is e (run e L) me works in
        let q : run e turn ≡ with_actor (run e L) shared me t.0 = run-snoc e L me ∙ t.1 in
        let v : t.0 ≡ observed (logged x b) =
        sym (put-here (run e L).actors me t.0 me refl)
        ∙ sym (ap (λ (w : State). w.actors me) q) ∙ sym now in
        omega (
          arith,
          none,
          ap (allocated e (only n)) q,
          allocated-with e (run e L) shared me is (only n) (at Begin b) t.0,
          ap (blocks_of (only n)) v,
        )

    pub logged-fine : (x : Entry) (b : Actor) → Keeps acting b → IsOfFirst acting.todo x
        → ((n : ℕ) → says_failed n x ≡ true → IsAbsent n b)
        → (IsNow (logged x b) → Tells e L me x) → Fine (logged x b)
    logged-fine x b k o f t = (
      (λ q. absurd cc),
      k.2 ∙ set,
      λ now. (
        tt,
        inr (record {
          entry = x;
          of = o;
          left = ap later k.1;
          log = ap (λ l. l ++ x ∷ []) k.0;
          begins = refl;
          tells = t now;
          none = λ n said. absent-now n x b (f n said) now;
        }),
      ),
    )

    placed : (name : ℕ) (place : Place) → Placement e turn me acting.log name place
        → IsPlacement e L me name place
    placed name place h = record {
      before = h.before;
      since = h.since;
      split = h.split;
      same = h.same;
      need = h.need;
      asked = h.asked;
      placed = h.placed;
      there = h.there;
      holds = h.holds;
    }

    -- the block that was held under the name is released by the scheduler itself
    abbrev IsMine : ℕ → Type 0
    IsMine n = IsReleasedHere e turn me n acting.log

    -- and none of its name is left, or its node was pushed
    abbrev pub EndsOut : ℕ → Gone → Type 0
    EndsOut n Open = (blocks_of_name e n (run e turn) ≡ 0) × IsMine n
    EndsOut n Here = (blocks_of_name e n (run e turn) ≡ 0) × IsMine n
    EndsOut n (Queued to) = Sent e turn me acting.log n to

    entry-tells : (task : Task) (g : Gone) → Placing e turn me acting.log task
        → WentTo e me g → EndsOut (name_in task) g
        → Tells e L me (entry_of task g)
    entry-tells (Freeing n) Open h w o = o
    entry-tells (Freeing n) Here h w o = o
    entry-tells (Freeing n) (Queued to) h w o =
        record {
          another = w;
          named = o.named;
          held = o.held;
          pushed = o.pushed;
          seen = o.seen;
          owner = o.owner;
        }
    entry-tells (Moving o n p) Open h w out = (placed n p h, out)
    entry-tells (Moving o n p) Here h w out = (placed n p h, out)
    entry-tells (Moving o n p) (Queued to) h w out = (
      placed n p h,
      record {
        another = w;
        named = out.named;
        held = out.held;
        pushed = out.pushed;
        seen = out.seen;
        owner = out.owner;
      },
    )

    -- what becomes of the block of a task, where the turn leaves this of its route
    abbrev pub Becomes : Task → Option (Route Content) → Gone → Actor → Type 0
    Becomes task None g b = IsNow (logged (entry_of task g) b) → EndsOut (name_in task) g
    Becomes task (Some r) g b = IsNow (record b { stage = Routed r (For task) g })
        → OnWay e turn me acting.log (name_in task) r g

    -- of the name of a task no block is left where the scheduler is this one, with no hand
    abbrev pub GoesOut : Task → Actor → Type 0
    GoesOut task b = (c : Actor) → IsNow c → of_hand (only (name_in task)) c.stage ≡ 0
        → c.held ≡ b.held → c.passed ≡ b.passed → NoneNow e rules L me (name_in task)

    left-out : (n : ℕ) (g : Gone) → NotSent g → NoneNow e rules L me n → IsMine n
        → LeftBy e turn me acting.log n g
    left-out n g not none mine = by g not where
      out : IsOut e turn n
      out = record {
        before = turn;
        since = [];
        split = sym (append-nil turn);
        none = none.0;
        never = none.1;
      }

      by : (g : Gone) → NotSent g → LeftBy e turn me acting.log n g
      by Open y = (out, mine)
      by Here y = (out, mine)
      by (Queued to) y = y

    -- with the block in the hand before
    module _ (task : Task) (h : Named) (name : h.name ≡ name_in task) (Shows : ℕ → Type 0)
        (Mine : Type 0) (held : HasHeld e turn me (name_in task) h acting.log)
        (sees : (to : ℕ) → Shows to → SeesEmployer me h to (run e L))
        (itself : Mine → SeesItself me h (run e L)) (on : migration e ≡ false → ⊥) where
      hand-mine : Mine → IsMine (name_in task)
      hand-mine mine = record {
        named = h;
        held = held;
        seen = λ m. record {
          before = L;
          since = [];
          split = refl;
          same = refl;
          sees = itself mine;
        };
        owner = λ off. absurd (on off);
      }

      pub hand-becomes : (o : Option (Route Content)) (g : Gone) (b : Actor)
          → Yields me Shows Mine h o g → GoesOut task b → Becomes task o g b
      hand-becomes None Open b y out =
          λ now. ((out (logged (entry_of task Open) b) now refl refl refl).0, hand-mine y.1)
      hand-becomes None Here b y out =
          λ now. ((out (logged (entry_of task Here) b) now refl refl refl).0, hand-mine y.1)
      hand-becomes None (Queued to) b y out = absurd y.0
      hand-becomes (Some (Looking k)) g b y out = absurd y
      hand-becomes (Some (Trying k seen)) g b y out =
          λ now. (
            ap (λ (x : Named). x.name) y.0 ∙ name,
            y.1,
            subst (λ m. HasHeld e turn me (name_in task) m acting.log) (sym y.0) held,
            y.2,
          )
      hand-becomes (Some (Settling x)) g b y out =
          λ now. left-out (name_in task) g y.0 (out _ now refl refl refl) (hand-mine y.1)
      hand-becomes (Some (Abandoning x)) g b y out =
          λ now. left-out (name_in task) g y.0 (out _ now refl refl refl) (hand-mine y.1)
      hand-becomes (Some (Sending x)) g b y out =
          λ now. left-out (name_in task) g y.0 (out _ now refl refl refl) (hand-mine y.1)
      hand-becomes (Some (Clearing x)) g b y out =
          λ now. left-out (name_in task) g y.0 (out _ now refl refl refl) (hand-mine y.1)
      hand-becomes (Some (Pushing node to)) g b y out =
          λ now. subst (PushesBy e turn me acting.log (name_in task) node to) (sym y.1) (
            record {
              named = h;
              is = y.0;
              held = held;
              seen = λ m. record {
                before = L;
                since = [];
                split = refl;
                same = refl;
                sees = sees to y.2;
              };
              owner = λ off. absurd (on off);
            },
            refl,
          )
      hand-becomes (Some (Linking node to)) g b y out = absurd y

    out-now : (n : ℕ) → IsOut e turn n → blocks_of_name e n (run e turn) ≡ 0
    out-now n o = ap (λ K. blocks_of_name e n (run e K)) o.split
        ∙ stays-gone e rules (all_of n) o.before o.since o.none o.never

    -- where it had left the hand before
    pub left-becomes : (task : Task) (o : Option (Route Content)) (g : Gone) (b : Actor)
        → NotByWord o → LeftBy e turn me acting.log (name_in task) g → Becomes task o g b
    left-becomes task o (Queued to) b y l = absurd l
    left-becomes task None Open b y l = λ now. (out-now (name_in task) l.0, l.1)
    left-becomes task None Here b y l = λ now. (out-now (name_in task) l.0, l.1)
    left-becomes task (Some (Looking k)) g b y l = absurd y
    left-becomes task (Some (Trying k seen)) g b y l = absurd y
    left-becomes task (Some (Settling x)) g b y l = λ now. l
    left-becomes task (Some (Abandoning x)) g b y l = λ now. l
    left-becomes task (Some (Sending x)) g b y l = λ now. l
    left-becomes task (Some (Clearing x)) g b y l = λ now. l
    left-becomes task (Some (Pushing node to)) Open b y l = λ now. l
    left-becomes task (Some (Pushing node to)) Here b y l = λ now. l
    left-becomes task (Some (Linking node to)) Open b y l = λ now. l
    left-becomes task (Some (Linking node to)) Here b y l = λ now. l

    -- where its node was pushed
    pub pushed-becomes : (task : Task) (g : Gone) (b : Actor)
        → PushedBy e turn me acting.log (name_in task) g → Becomes task None g b
    pushed-becomes task Open b p = λ now. (out-now (name_in task) p.0, p.1)
    pushed-becomes task Here b p = λ now. (out-now (name_in task) p.0, p.1)
    pushed-becomes task (Queued to) b p = λ now. p

    -- where carriers don't migrate nothing is done with a carrier in a step of its own
    off-bare : (task : Task) (r : Route Content) (g : Gone) → migration e ≡ false → IsBare (Some r)
        → (actor_after e turn me).stage ≡ Routed r (For task) g → ⊥
    off-bare task r g off bare now = by r bare
        (subst (Fits e (run e turn) me (actor_after e turn me)) now
        ((rules turn).present.fits me)).0 where
          by : (r : Route Content) → IsBare (Some r) → FitsRoute e (run e turn).shared me r → ⊥
          by (Settling x) b f = true≢false (sym f.1 ∙ off)
          by (Abandoning x) b f = true≢false (sym f.2 ∙ off)
          by (Sending x) b f = true≢false (sym f.3 ∙ off)
          by (Clearing x) b f = true≢false (sym f.3 ∙ off)
          by (Looking h) b f = b
          by (Trying h seen) b f = b
          by (Pushing node to) b f = b
          by (Linking node to) b f = b

    -- where it has just come into the hand
    route-becomes : (task : Task) (h : Named) (b : Actor) → h.name ≡ name_in task
        → named_at (name_in task) b.held ≡ Some h → IsGoing b
        → HasHeld e turn me (name_in task) h acting.log
        → Becomes task (route_of e me h (let_go h.name b)).route
        (route_of e me h (let_go h.name b)).gone (route_of e me h (let_go h.name b)).actor
    route-becomes task h b name there g had = by (migration e) refl where
      a : Actor
      a = let_go h.name b

      Goes : Turned → Type 0
      Goes t = Becomes task t.route t.gone t.actor

      mine : migration e ≡ false → owner_of h.spot.carrier ≡ me → IsMine (name_in task)
      mine off own = record {
        named = h;
        held = had;
        seen = λ on. absurd (true≢false (sym on ∙ off));
        owner = λ off. own;
      }

      bare : migration e ≡ false → owner_of h.spot.carrier ≡ me → (o : Option (Route Content))
          (g' : Gone) (c : Actor) → IsBare o → NotSent g' → c.held ≡ a.held → c.passed ≡ a.passed
          → Becomes task o g' c
      bare off own None Open c i sent held passed = λ now. (
        held-out e rules L me (name_in task) works h b name there g.kept
            (logged (entry_of task Open) c) now refl
            (held ∙ ap (λ m. without_name m b.held) name) passed,
        mine off own,
      )
      bare off own None Here c i sent held passed = λ now. (
        held-out e rules L me (name_in task) works h b name there g.kept
            (logged (entry_of task Here) c) now refl
            (held ∙ ap (λ m. without_name m b.held) name) passed,
        mine off own,
      )
      bare off own None (Queued to) c i sent held passed = absurd sent
      bare off own (Some r) g' c i sent held passed =
          λ now. absurd (off-bare task r g' off i (sym (ap (λ (d : Actor). d.stage) now)))

      owned : migration e ≡ false → (own : Bool) → (owner_of h.spot.carrier == me) ≡ own
          → Goes (owned_by e me own h a)
      owned off true q =
          let t = release_here e me h Open a in
          let same = (here-short e me h Open a).1 in
          bare off (eqb-true (owner_of h.spot.carrier) me q) t.route t.gone t.actor
          (here-bare e me h Open a) (here-not_sent e me h a) same.5 same.0
      owned off false q =
          λ now. (
            record {
              named = h;
              is = refl;
              held = had;
              seen = λ on. absurd (true≢false (sym on ∙ off));
              owner = λ off. refl;
            },
            refl,
          )

      by : (on : Bool) → migration e ≡ on → Goes (routed e me on h a)
      by true on = λ now. (name, refl, had)
      by false off = owned off (owner_of h.spot.carrier == me) refl

    -- where a block is queued, by the route that is left
    abbrev pub Queues : Gone → Option (Route Content) → Type 0
    Queues g r = (to : ℕ) → g ≡ Queued to
        → IsAnother e me to ⊎ ((h : Named) × (r ≡ Some (Pushing (block_node h) to)))

    ended-went : (g : Gone) → Queues g None → WentTo e me g
    ended-went Open w = tt
    ended-went Here w = tt
    ended-went (Queued to) w = elim (w to refl) [
      | inl other ↦ other
      | inr pushes ↦ absurd (let q = pushes.1 in cc)
    ]

    -- a node is pushed to another scheduler
    pushes-another : (h : Named) (to : ℕ) (y : Why) (g : Gone)
        → (actor_after e turn me).stage ≡ Routed (Pushing (block_node h) to) y g
        → IsAnother e me to
    pushes-another h to y g now =
        let f = subst (Fits e (run e turn) me (actor_after e turn me)) now
        ((rules turn).present.fits me) in
        (scheduler-number e to f.0.1, f.0.0)

    routed-went : (r : Route Content) (y : Why) (g : Gone) → Queues g (Some r)
        → (actor_after e turn me).stage ≡ Routed r y g → WentTo e me g
    routed-went r y Open w now = tt
    routed-went r y Here w now = tt
    routed-went r y (Queued to) w now = elim (w to refl) [
      | inl other ↦ other
      | inr pushes ↦ pushes-another pushes.0 to y (Queued to)
          (now ∙ ap (λ p. Routed p y (Queued to)) (some_route pushes.1))
    ] where
      some_route : {p q : Route Content} → Some p ≡ Some q → p ≡ q
      some_route q = cc

    -- an operation that releases a block didn't fail
    task-made : (task : Task) (g : Gone) (b : Actor) (n : ℕ)
        → says_failed n (entry_of task g) ≡ true → IsAbsent n b
    task-made (Freeing m) Open b n q = absurd cc
    task-made (Freeing m) Here b n q = absurd cc
    task-made (Freeing m) (Queued to) b n q = absurd cc
    task-made (Moving o m p) Open b n q = absurd cc
    task-made (Moving o m p) Here b n q = absurd cc
    task-made (Moving o m p) (Queued to) b n q = absurd cc

    pub carried-fine : (task : Task) (r : Option (Route Content)) (g : Gone) (b : Actor)
        → Keeps acting b → OfTask task acting.todo → Queues g r → Becomes task r g b
        → (IsAfter b → Placing e turn me acting.log task)
        → Fine (carried (For task) (task_over task) (record { actor = b; route = r; gone = g }))
    carried-fine task None g b k o w out h = logged-fine (entry_of task g) b k
        (task-first task g acting.todo o) (task-made task g b)
        (λ now. entry-tells task g (h (now-after (logged (entry_of task g) b) now))
        (ended-went g w) (out now))
    carried-fine task (Some r) g b k o w out h = (
      (λ q. absurd cc),
      k.2 ∙ set,
      λ now. (
        (
          subst (OfTask task) (sym k.1) o,
          subst (λ l. Placing e turn me l task) (sym k.0)
              (h (now-after (record b { stage = Routed r (For task) g }) now)),
          routed-went r (For task) g w (sym (ap (λ (a : Actor). a.stage) now)),
          subst (λ l. OnWay e turn me l (name_in task) r g) (sym k.0) (out now),
        ),
        inl (k.0, k.1),
      ),
    )

    pub task-fine : (task : Task) (h : Named) (b : Actor) → Keeps acting b → OfTask task acting.todo
        → HasHeld e turn me (name_in task) h acting.log
        → h.name ≡ name_in task → named_at (name_in task) b.held ≡ Some h → IsGoing b
        → (IsAfter (route_of e me h (let_go h.name b)).actor → Placing e turn me acting.log task)
        → Fine (hands_over e me task h b)
    task-fine task h b k o held name there g p =
        let t = route_of e me h (let_go h.name b) in
        carried-fine task t.route t.gone t.actor
        (keeps-on acting (let_go h.name b) t.actor (route-keeps e me h (let_go h.name b)) k) o
        (λ to q. elim (route-queued e me h (let_go h.name b) to q) [
          | inl none ↦ absurd (let never : Open ≡ Queued to = none in cc)
          | inr pushes ↦ inr pushes
        ]) (route-becomes task h b name there g held) p

    -- where the name is held, so that the rule holds
    module _ (n : ℕ) (spot : Spot) (c : Actor) (g : IsGoing (holding n spot c)) where
      abbrev b : Actor
      b = holding n spot c

      in_order : IsOrderly c.instance
      in_order = ((lies-with e (run e L) shared me is (at Begin b) g.kept).instance is).order

      -- the name is held
      holds-new : named_at n (holding n spot c).held ≡ Some (record { name = n; spot = spot })
      holds-new =
          let none = absent (named_at n c.held) refl in
          item_at-new name_of (record { name = n; spot = spot }) c.held
          (none-other name_of n c.held none)
        where
          absent : (o : Option Named) → named_at n c.held ≡ o → named_at n c.held ≡ None
          absent None q = q
          absent (Some x) q =
              let same = item_at-key name_of n x c.held q in
              absurd (held-other e (run e L) shared me is n spot x c
              (subst (λ m. named_at m c.held ≡ Some x) (sym same) q) g same)

      -- the old block stands at its spot
      old-stands : (h : Named) → named_at h.name c.held ≡ Some h → migration e ≡ false
          → owner_of h.spot.carrier ≡ me → HasBlock c.instance h.name h.spot
      old-stands h held off own =
          hit e (with_actor (run e L) shared me (at Begin b)) me (scheduler-seat e me is) g.kept
          (at Begin b) (put-here (run e L).actors me (at Begin b) me refl) h.name h.spot
          (inr (off, own))
          (held-stands h.name h (at Begin b)
          (held-stays e (run e L) shared me is n spot h c held g))
          refl

    -- a block is placed
    stands-fine : (ask : Ask) (place : Place) (spot : Spot) (c : Actor) → Keeps acting c
        → IsAsking ask → IsPlacedAt e L me ask.need place
        → OldHeld ask.old c.held → LiesWith ask.name place c.instance
        → IsGoing (holding ask.name spot c)
        → Fine (stands e me ask.name place ask.old (holding ask.name spot c))
    stands-fine ask place spot c k o p held has g =
        by ask.old refl held (outcomes ask 0 Space place acting.todo o.0 ask.old refl)
      where
        new : Named
        new = record { name = ask.name; spot = spot }

        new-held : named_at ask.name (holding ask.name spot c).held ≡ Some new
        new-held = holds-new ask.name spot c g

        here : LiesAt e ask.name place (run e turn) → HoldsAfter e turn me ask.name
            → Placement e turn me acting.log ask.name place
        here lies holds = record {
          before = L;
          since = [];
          split = refl;
          same = refl;
          need = ask.need;
          asked = o.1;
          placed = p;
          there = lies;
          holds = holds;
        }

        by : (old : Option Named) → ask.old ≡ old → OldHeld old c.held
            → Outcomes ask 0 Space place acting.todo old
            → Fine (stands e me ask.name place old (holding ask.name spot c))
        by None q h f =
            let b = holding ask.name spot c in
            logged-fine (entry.Alloc ask.name place) b k f.1 (λ n q. absurd cc)
            (λ now.
            let q = now-after (logged (entry.Alloc ask.name place) b) now in
            placed ask.name place (here (landed ask.name place b has q)
            (new, subst (λ l. named_at ask.name l ≡ Some new) q.1 new-held)))
        by (Some h) q old f =
            let b = holding ask.name spot c in
            let t = route_of e me h (let_go h.name b) in
            task-fine (Moving h.name ask.name place) h b k f.1
            (subst (HasOld e turn me acting.log) q o.2) refl
            (held-stays e (run e L) shared me is ask.name spot h c old g) g
            (λ now. here (landed ask.name place t.actor
            (route-lies e me ask.name place h
            (held-other e (run e L) shared me is ask.name spot h c old g) (let_go h.name b) has
            (λ off own. (in_order ask.name spot c g, old-stands ask.name spot c g h old off own)))
            now) (
              new,
              subst (λ l. named_at ask.name l ≡ Some new)
                  (sym (route-short e me h (let_go h.name b)).1.5 ∙ now.1)
                  (item_at-stays name_of ask.name h.name b.held
                  (λ same. held-other e (run e L) shared me is ask.name spot h c old g (sym same))
                  ∙ new-held),
            ))

    placed_at-fine : (ask : Ask) (b : Actor) (spot : Spot) → Keeps acting b → IsAsking ask
        → IsPlacedAt e L me ask.need (place_at b.instance spot ask.need)
        → chosen_spot b.instance ask.need ≡ Some spot → IsWanted b ask → IsGoing b
        → Fine (placed_at e me ask b spot)
    placed_at-fine ask b spot k o p chosen want g =
        let order = ((lies-with e (run e L) shared me is (at Begin b) g.kept).instance is).order in
        let gap = chosen-gap b.instance ask.need spot order.rising order.laid chosen in
        stands-fine ask (place_at b.instance spot ask.need) spot
        (record b { instance = placing_at b.instance spot ask.need ask.name }) k o p want.old
        (placing-lies b.instance spot ask.need ask.name gap.0 gap.1)
        ((closed-operation e (run e L) shared me is).place ask spot b want chosen g)

    pub choice-fine : (ask : Ask) (b : Actor) (o : Option Spot)
        → chosen_spot b.instance ask.need ≡ o → Keeps acting b → IsAsking ask
        → ask.need ≤ e.settings.sbct
        → IsJustBefore e L me ask.need b.instance → IsWanted b ask → IsGoing b
        → Fine (placed_by e me ask b o)
    choice-fine ask b None c k o small j want g =
        ((λ q. absurd cc), k.2 ∙ set, λ now. (tt, inl (k.0, k.1)))
    choice-fine ask b (Some spot) c k o small j want g = placed_at-fine ask b spot k o
        (inl (
          small,
          record { instance = b.instance; before = j; spot = spot; chosen = c; is = refl },
        )) c want g

    -- whether a need is above the threshold
    module _ (b : Actor) (sets : b.instance.settings ≡ e.settings) (need : ℕ) where
      pub big : is_alone b.instance need ≡ true → e.settings.sbct < need
      big t = let s = ap (λ s. s.sbct) sets in grind (arith, t, s)

      pub little : is_alone b.instance need ≡ false → need ≤ e.settings.sbct
      little t = let s = ap (λ s. s.sbct) sets in grind (arith, t, s)

    -- in a new carrier
    pub created-fine : (ask : Ask) (p : CarrierPlan) (b : Actor) → Keeps acting b
        → IsAsking ask → plan b.instance ask.need ≡ Ok p
        → Creates e (run e L) me ask.need b.instance p
        → (ask.need ≤ e.settings.sbct → chosen_spot b.instance ask.need ≡ None)
        → IsWanted b ask → IsGoing (with_carrier ask p b p.single)
        → Fine (created e me ask p b)
    created-fine ask p b k o planned c none want going = by p.single refl going
      where
        alone : p.single ≡ is_alone b.instance ask.need
        alone = (plan-IsPlanned b.instance ask.need p planned).single

        by : (t : Bool) → p.single ≡ t → IsGoing (with_carrier ask p b t)
            → Fine (created_by e me ask p b t)
        by true s g = stands-fine ask (single_place p ask.need)
            (spot_of_place (single_place p ask.need))
            (record b { instance = creating_single b.instance p ask.need ask.name }) k o
            (inr (
              big b (k.2 ∙ set) ask.need (sym alone ∙ s),
              record { instance = b.instance; plan = p; creates = c; single = s; is = refl },
            )) want.old (single-lies b.instance p ask.need ask.name) g
        by false s g =
            let small = little b (k.2 ∙ set) ask.need (sym alone ∙ s) in
            choice-fine ask (record b { instance = creating b.instance p })
            (chosen_spot (creating b.instance p) ask.need) refl k o small
            (Created b.instance p c (none small) refl)
            (made-wanted e (run e L) shared me is ask p b want) g

    -- the name of an operation that fails stands nowhere
    fail-absent : (ask : Ask) (looked : ℕ) (why : NoCarrier) (b : Actor) → IsWanted b ask
        → (n : ℕ) → says_failed n (failed ask looked why ask.old) ≡ true → IsAbsent n b
    fail-absent ask looked why b want n said = subst (λ m. IsAbsent m b)
        (sym (eqb-true n ask.name (sym (failed-says n ask looked why ask.old) ∙ said)))
        want.fresh

    -- no carrier can be created, or one is
    pub planned-fine : (ask : Ask) (looked : ℕ) (b : Actor) (o : Result CarrierPlan NoCarrier)
        → plan b.instance ask.need ≡ o → Keeps acting b → IsAsking ask
        → SoughtInVain e turn me ask.need acting.log
        → ((why : NoCarrier) → plan b.instance ask.need ≡ Err why
        → IsNow (logged (failed ask looked why ask.old) b)
        → IsExhausted e L me (failed ask looked why ask.old) ask.need looked why)
        → (ask.need ≤ e.settings.sbct → chosen_spot b.instance ask.need ≡ None)
        → IsWanted b ask
        → (migration e ≡ false → (p : CarrierPlan) → plan b.instance ask.need ≡ Ok p
        → Creates e (run e L) me ask.need b.instance p
        × IsGoing (with_carrier ask p b p.single))
        → Fine (new_carrier_by e me ask looked b o)
    planned-fine ask looked b (Err why) q k o v x none want f =
        by ask.old refl (outcomes ask looked why (record { carrier = 0; offset = 0; size = 0 })
        acting.todo o.0 ask.old refl)
      where
        by : (old : Option Named) → ask.old ≡ old
            → Outcomes ask looked why (record { carrier = 0; offset = 0; size = 0 }) acting.todo old
            → Fine (logged (failed ask looked why ask.old) b)
        by None r f = logged-fine (failed ask looked why ask.old) b k
            (subst (λ o. IsOfFirst acting.todo (failed ask looked why o)) (sym r) f.0)
            (fail-absent ask looked why b want)
            (λ now. subst (λ o. Tells e L me (failed ask looked why o)) (sym r)
            (subst (λ o. IsExhausted e L me (failed ask looked why o) ask.need looked why) r
            (x why q now)))
        by (Some h) r f = logged-fine (failed ask looked why ask.old) b k
            (subst (λ o. IsOfFirst acting.todo (failed ask looked why o)) (sym r) f.0)
            (fail-absent ask looked why b want)
            (λ now. subst (λ o. Tells e L me (failed ask looked why o)) (sym r)
            (subst (λ o. IsExhausted e L me (failed ask looked why o) ask.need looked why) r
            (x why q now)))
    planned-fine ask looked b (Ok p) q k o v x none want f = by (migration e) refl
      where
        by : (on : Bool) → migration e ≡ on → Fine (making e me ask p b on)
        by true m = (
          (λ r. absurd cc),
          k.2 ∙ set,
          λ now. (
            record {
              of = subst (OfAsk ask) (sym k.1) o.0;
              on = m;
              asked = subst (HasAsked e turn me ask.need) (sym k.0) o.1;
              old = subst (λ l. HasOld e turn me l ask.old) (sym k.0) o.2;
              planned = q;
              none = none;
              sought = subst (SoughtInVain e turn me ask.need) (sym k.0) v;
            },
            inl (k.0, k.1),
          ),
        )
        by false m =
            let c = f m p q in created-fine ask p b k o q c.0 none want c.1

    -- the fail of an operation that is under way
    pub fails : (ask : Ask) (looked : ℕ) (why : NoCarrier) (b : Actor) (before since : List ℕ)
        → turn ≡ before ++ me ∷ since → IsRefilled (begun e before me) b → OfAsk ask b.todo
        → FindsNoPlace e before me since ask.need looked why
        → IsNow (logged (failed ask looked why ask.old) b)
        → IsExhausted e L me (failed ask looked why ask.old) ask.need looked why
    fails ask looked why b before since split same o finds now = record {
      before = before;
      since = since;
      split = split;
      finds = finds;
      fails = subst (λ ops. IsFailOf ops ask.need looked why (failed ask looked why ask.old)) same.1
          (failed-is ask looked why b.todo o);
      log = sym (ap (λ (a : Actor). a.log) now)
          ∙ ap (λ l. l ++ failed ask looked why ask.old ∷ []) same.0;
      instance = sym (ap (λ (a : Actor). a.instance) now) ∙ same.2;
      held = sym (ap (λ (a : Actor). a.held) now) ∙ same.3;
    }

    -- the search goes on, or no number or no word is left
    pub search-fine : (ask : Ask) (x : Search) (b : Actor) → Keeps acting b
        → IsAsking ask → migration e ≡ true → ask.need ≤ e.settings.sbct → IsWanted b ask
        → Underway e turn me ask.need (λ c. IsRefilled c b) (CameTo e ask.need x)
        → Fine (search_on e me ask x b)
    search-fine ask x b k o on small want u = by (goes_on x.part) refl
      where
        none : chosen_spot b.instance ask.need ≡ None
        none = ap (λ i. chosen_spot i ask.need) u.same.2 ∙ u.none

        c : Actor
        c = record b { lists = x.lists }

        by : (t : Bool) → goes_on x.part ≡ t → Fine (searched_by e me ask x c t)
        by true t = (
          (λ q. absurd cc),
          k.2 ∙ set,
          λ now. (
            record {
              of = subst (OfAsk ask) (sym k.1) o.0;
              on = on;
              small = small;
              goes = t;
              way = u;
            },
            inl (k.0, k.1),
          ),
        )
        by false t = planned-fine ask (looked_in x.part) c (plan c.instance ask.need) refl k o
            (record {
              before = u.before;
              since = u.since;
              split = u.split;
              begins = u.begins;
              same = sym u.same.0 ∙ k.0;
              asks = u.asks;
              none = λ s. u.none;
              looked = looked_in x.part;
              sought = inr (on, small, (x, u.saw, t, refl));
              steps = u.steps;
            })
            (λ why r. fails ask (looked_in x.part) why c u.before u.since u.split u.same
            (subst (OfAsk ask) (sym k.1) o.0)
            (record {
              begins = u.begins;
              asks = u.asks;
              none = λ s. u.none;
              sought = inr (on, small, (x, u.saw, t, refl));
              steps = u.steps;
              refused = ap (λ i. plan i ask.need) (sym u.same.2) ∙ r;
            }))
            (λ s. none) (listed-wanted e (run e L) shared me is ask x.lists b want)
            (λ off p r. absurd (let no : true ≡ false = sym on ∙ off in cc))
