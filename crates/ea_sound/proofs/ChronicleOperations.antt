-- An operation itself, once its begin is over: what it makes of what the turns before say.
use Rattle.std.proofs.Common.{◌≡◌, ◌≢◌, ◌⊎◌, ℕ, ◌<◌, ◌≤◌, List, [], ◌∷◌, Bool, true, false, refl}
use Rattle.std.proofs.Common.{sym, ap, ◌∙◌, subst, inl, inr, arith, ◌++◌}
use Rattle.std.specs.Prelude.{All, Option, Some, None, ◌==◌, count_by, filter, not}
use Rattle.std.proofs.lemmas.List.Elements.{All-head}
use Rattle.std.proofs.lemmas.Bool.{eqb-true}
use Rattle.ea_model.specs.declared.carriers.Figures.{Figures}
use Rattle.ea_model.specs.declared.carriers.Spot.{Spot}
use Rattle.ea_model.specs.Entries.{Entry}
use Rattle.ea_model.specs.declared.entries.Entry.TheVariants as entry
use Rattle.ea_model.specs.declared.operations.Op.{Op}
use Rattle.ea_model.specs.declared.operations.Op.TheVariants as op
use Rattle.ea_model.specs.declared.reallocation.Decision.{Decision}
use Rattle.ea_model.specs.declared.reallocation.Decision.TheVariants.{Stay, ShrinkHere, GrowHere}
use Rattle.ea_model.specs.declared.reallocation.Decision.TheVariants.{ShrinkCarrier, Move}
use Rattle.ea_model.specs.Instance.{chosen_spot, decision_at, figures, is_alone, plan, resizing_at}
use Rattle.ea_model.specs.Instance.{Instance}
use Rattle.ea_model.specs.Units.{need_of}
use Rattle.ea_model.proofs.Rising.{item_at-key, item_at-new, item_at-stays, none-other}
use Rattle.ea_model.specs.Trace.{makes}
use Rattle.ea_model.proofs.Needs.{need-even, need-least}
use Rattle.ea_model.specs.Content.{Content}
use Rattle.ea_laws.proofs.Orderly.{resizing-fixed, stays-employed}
use Rattle.ea_machine.specs.Searches.{new_search}
use Rattle.ea_machine.specs.declared.stages.Stage.TheVariants.{Ready, Ended, Begin}
use Rattle.ea_machine.specs.Actor.{Actor, Stat}
use Rattle.ea_machine.specs.declared.tasks.Task.TheVariants.{Freeing}
use Rattle.ea_machine.specs.declared.asks.Ask.{Ask}
use Rattle.ea_machine.specs.Nodes.{named_at, name_of, with_name, without_name}
use Rattle.ea_machine.specs.declared.nodes.Named.{Named}
use Rattle.ea_machine.specs.Operations.{freed, giving, itself}
use Rattle.ea_machine.specs.Placements.{chosen_by, holding, new_carrier, search_if, seek, seek_by}
use Rattle.ea_machine.specs.Reallocations.{reallocated, reallocated_by, resized_here, resized_place}
use Rattle.ea_machine.specs.Setup.{Setup, greatest_number, migration, is_scheduler}
use Rattle.ea_machine.specs.Statistics.{employed_multis, employed_singles, informed, is_single}
use Rattle.ea_machine.specs.Statistics.{leaving_at, observed, report, restarted}
use Rattle.ea_machine.specs.Tasks.{let_go, logged}
use Rattle.ea_machine.specs.Sums.{one_if}
use Rattle.ea_machine.specs.Machine.{run}
use Rattle.ea_machine.specs.Shared.{Shared}
use Rattle.ea_machine.specs.State.{State}
use Rattle.ea_sound.specs.Chosen.{AtOnce, Had}
use Rattle.ea_sound.specs.Entries.{DoesNothing, IsSkipped, Makes, Reports}
use Rattle.ea_sound.specs.Needs.{AsksFor, HasNeed, IsToMove}
use Rattle.ea_sound.specs.Turns.{actor_after, begun}
use Rattle.ea_sound.specs.Present.{HasTry, OfAsk, OfTask, OldHeld, Rule}
use Rattle.ea_sound.specs.HandedOver.{HasHeld}
use Rattle.ea_sound.specs.Names.{made_in}
use Rattle.ea_sound.specs.Leaves.{InOperation, InWalk, IsFresh}
use Rattle.ea_sound.specs.Moments.{at, with_actor}
use Rattle.ea_sound.proofs.Chronicle.{HasOld, IsOfFirst}
use Rattle.ea_sound.proofs.HandedNames.{never-first}
use Rattle.ea_sound.proofs.TextTotals.{All-back}
use Rattle.ea_sound.proofs.TurnLists.{run-snoc, step-shared}
use Rattle.ea_sound.proofs.ShortRoutes.{Keeps}
use Rattle.ea_sound.proofs.Weights.{sum_by-sum_over}
use Rattle.ea_sound.proofs.ChroniclePlaces.{Fine as IsFine, IsAsking, IsNow, IsWanted as Wants}
use Rattle.ea_sound.proofs.ChroniclePlaces.{landed, shared, choice-fine, logged-fine, planned-fine}
use Rattle.ea_sound.proofs.ChroniclePlaces.{search-fine, task-fine, big, little, fails}
use Rattle.ea_sound.proofs.Alike.{lies-with}
use Rattle.ea_sound.proofs.Hits.{held-stands}
use Rattle.ea_sound.proofs.HeldBlocks.{walk-realloc}
use Rattle.ea_sound.proofs.LyingBlocks.{LiesWith, resizing-lies}
use Rattle.ea_sound.proofs.Numbered.{scheduler-seat}
use Rattle.ea_sound.proofs.Operating.{closed-operation}
use Rattle.ea_sound.proofs.StandingBlocks.{hit-found}
use Rattle.ea_sound.proofs.Totals.{put-here}
use Rattle.ea_sound.proofs.StillMoves.{refill-goes}
use Rattle.ea_sound.proofs.Operating.{refilled-wanted}
use Rattle.ea_machine.specs.Placements.{refills}
use Rattle.ea_sound.proofs.StillMoves.{keeps-operation}

module _ (e : Setup) (rules : (L : List ℕ) → Rule e (run e L)) (L : List ℕ) (me : ℕ) where
  abbrev acting : Actor
  acting = actor_after e L me

  abbrev mid : Actor
  mid = begun e L me

  abbrev Fine : Actor → Type 0
  Fine = IsFine e rules L me

  abbrev IsWanted : Ask → Type 0
  IsWanted ask = Wants e rules L me mid ask

  abbrev s : Shared
  s = shared e rules L me

  module _ (set : acting.instance.settings ≡ e.settings) (is : is_scheduler e me ≡ true)
      (works : acting.stage ≢ Ended)
      (ready : mid.stage ≡ Ready) (k : Keeps acting mid)
      (walk : InWalk e (run e L) s me (at Begin mid)) where
    going : InOperation e (run e L) s me (at Begin mid)
    going = record { kept = walk.kept; busy = λ q. absurd cc }

    -- the name that the operation makes stands nowhere
    fresh-name : (n : ℕ) (o : Op) (ops : List Op) → mid.todo ≡ o ∷ ops → makes n o ≡ true
        → IsFresh e (run e L) s me n (at Begin mid)
    fresh-name n o ops q m = walk.fresh n (omega (arith, ap (made_in n) q, ap one_if m))

    no-steps : count_by (λ j. j == me) [] ≡ 0
    no-steps = sum_by-sum_over (λ j. one_if (j == me)) []

    -- the name of a block is held now
    held-now : (n : ℕ) (h : Named) → named_at n mid.held ≡ Some h
        → HasHeld e (L ++ me ∷ []) me n h acting.log
    held-now n h q = record {
      before = L;
      since = [];
      split = refl;
      begins = ready;
      same = k.0;
      held = q;
    }

    old-now : (old : Option Named) → OldHeld old mid.held
        → HasOld e (L ++ me ∷ []) me acting.log old
    old-now None held = tt
    old-now (Some h) held = held-now h.name h held

    -- the operation asks for a place
    asked-now : (ask : Ask) → OfAsk ask acting.todo → IsWanted ask
        → AsksFor mid mid.todo ask.need → IsAsking e rules L me ask
    asked-now ask o want asks = (
      o,
      record {
        before = L;
        since = [];
        split = refl;
        begins = ready;
        asks = asks;
        same = k.0;
      },
      old-now ask.old want.old,
    )

    -- where nothing is chosen the count is as great as can be
    abbrev full : Actor
    full = refills mid

    full-wanted : (ask : Ask) → IsWanted ask → Wants e rules L me full ask
    full-wanted ask want = refilled-wanted e (run e L) s me is ask mid want

    full-going : InOperation e (run e L) s me (at Begin full)
    full-going = refill-goes e (run e L) s me is (InOperation e (run e L) s me)
        (keeps-operation e (run e L) s me is) (at Begin mid) (λ q. absurd cc) going

    plan-fine : (ask : Ask) → OfAsk ask acting.todo → IsWanted ask
        → AsksFor mid mid.todo ask.need
        → (ask.need ≤ e.settings.sbct → chosen_spot mid.instance ask.need ≡ None)
        → ((migration e ≡ false) ⊎ (e.settings.sbct < ask.need))
        → Fine (new_carrier e me ask 0 full)
    plan-fine ask o want asks none un =
        planned-fine e rules L me set is works ask 0 full (plan full.instance ask.need) refl k
        (asked-now ask o want asks)
        (record {
          before = L;
          since = [];
          split = refl;
          begins = ready;
          same = k.0;
          asks = asks;
          none = none;
          looked = 0;
          sought = inl (un, refl, refl);
          steps = no-steps;
        })
        (λ why r. fails e rules L me set is works ask 0 why full L [] refl (refl, refl, refl, refl)
        (subst (OfAsk ask) (sym k.1) o)
        (record {
          begins = ready;
          asks = asks;
          none = none;
          sought = inl (un, refl, refl);
          steps = no-steps;
          refused = r;
        }))
        none (full-wanted ask want)
        (λ off p r. (
          AtOnce off ready refl r,
          (closed-operation e (run e L) s me is).make ask p full (full-wanted ask want) r off
              full-going,
        ))

    no_choice-fine : (ask : Ask) (on : Bool) → migration e ≡ on → OfAsk ask acting.todo
        → IsWanted ask → AsksFor mid mid.todo ask.need → ask.need ≤ e.settings.sbct
        → chosen_spot mid.instance ask.need ≡ None → Fine (search_if e me ask full on)
    no_choice-fine ask true m o want asks small c =
        search-fine e rules L me set is works ask (new_search (greatest_number e) mid.lists) full k
        (asked-now ask o want asks) m small (full-wanted ask want)
        (record {
          before = L;
          since = [];
          split = refl;
          begins = ready;
          same = (refl, refl, refl, refl);
          asks = asks;
          none = c;
          saw = refl;
          steps = no-steps;
        })
    no_choice-fine ask false m o want asks small c = plan-fine ask o want asks (λ s. c) (inl m)

    chosen-fine : (ask : Ask) (s : Option Spot) → chosen_spot mid.instance ask.need ≡ s
        → OfAsk ask acting.todo → IsWanted ask → AsksFor mid mid.todo ask.need
        → ask.need ≤ e.settings.sbct → Fine (chosen_by e me ask mid s)
    chosen-fine ask (Some spot) c o want asks small =
        choice-fine e rules L me set is works ask mid (Some spot) c k
        (asked-now ask o want asks) small (Had ready refl) want going
    chosen-fine ask None c o want asks small =
        no_choice-fine ask (migration e) refl o want asks small c

    seek-fine : (ask : Ask) → OfAsk ask acting.todo → IsWanted ask
        → AsksFor mid mid.todo ask.need
        → Fine (seek e me ask mid)
    seek-fine ask o want asks = by (is_alone mid.instance ask.need) refl
      where
        by : (b : Bool) → is_alone mid.instance ask.need ≡ b → Fine (seek_by e me ask mid b)
        by true t = let l = big e rules L me set is works mid (k.2 ∙ set) ask.need t in
            plan-fine ask o want asks (λ s. absurd (omega (arith, l, s))) (inr l)
        by false t = chosen-fine ask (chosen_spot mid.instance ask.need) refl o want asks
            (little e rules L me set is works mid (k.2 ∙ set) ask.need t)

    first-is : (o : Op) (ops : List Op) (x : Entry) → mid.todo ≡ o ∷ ops → Makes o x
        → IsOfFirst acting.todo x
    first-is o ops x q m = record { first = o; others = ops; is = sym k.1 ∙ q; makes = m }

    -- an operation that does nothing, and one whose name isn't held
    nothing : (x : Entry) → IsNow e rules L me (logged x mid) → DoesNothing e L me x
    nothing x now = record {
      begins = ready;
      leaves = sym now;
      shared = ap (λ (w : State). w.shared) (run-snoc e L me) ∙ step-shared e (run e L) me works;
    }

    skipped : (n : ℕ) (x : Entry) → named_at n mid.held ≡ None → IsNow e rules L me (logged x mid)
        → IsSkipped e L me n x
    skipped n x i now = record { absent = i; nothing = nothing x now }

    -- a reallocation
    module _ (old fresh bytes : ℕ) (ops : List Op)
        (todo : mid.todo ≡ op.Realloc old fresh bytes ∷ ops) where
      abbrev asked : Named → Ask
      asked h = record { name = fresh; need = need_of bytes; old = Some h }

      itself-held : (h : Named) → named_at old mid.held ≡ Some h → h.name ≡ old
          → named_at h.name mid.held ≡ Some h
      itself-held h i nm = subst (λ n. named_at n mid.held ≡ Some h) (sym nm) i

      -- the block that is resized lies with the scheduler
      resized-lies : (h : Named) → named_at h.name mid.held ≡ Some h
          → decision_at mid.instance h.spot (need_of bytes) ≢ Move
          → LiesWith fresh (resized_place mid.instance h.spot (need_of bytes))
          (resizing_at mid.instance h.spot (need_of bytes) fresh)
      resized-lies h held stays =
          let lie = lies-with e (run e L) s me is (at Begin mid) walk.kept in
          let order = (lie.instance is).order in
          let found = stays-employed mid.instance h.spot (need_of bytes) order stays in
          let block = hit-found e (with_actor (run e L) s me (at Begin mid)) walk.kept me
          (scheduler-seat e me is) (at Begin mid)
          (put-here (run e L).actors me (at Begin mid) me refl) h.name h.spot
          (held-stands h.name h (at Begin mid) held) found.0 found.1 in
          resizing-lies mid.instance h.spot (need_of bytes) fresh order stays found.0 found.1
          block.0 block.1

      -- the new name is held in place of the old one
      fresh-held : (h : Named) → named_at h.name mid.held ≡ Some h
          → named_at fresh (with_name (record { name = fresh; spot = h.spot })
          (without_name h.name mid.held)) ≡ Some (record { name = fresh; spot = h.spot })
      fresh-held h held =
          let none = walk-realloc e (run e L) s me is mid walk old fresh bytes ops todo in
          let other : fresh ≢ h.name = λ q. absurd (let t : None ≡ Some h =
          sym none ∙ ap (λ n. named_at n mid.held) q ∙ held in cc) in
          item_at-new name_of (record { name = fresh; spot = h.spot })
          (without_name h.name mid.held)
          (none-other name_of fresh (without_name h.name mid.held)
          (item_at-stays name_of fresh h.name mid.held other ∙ none))

      resized-fine : (h : Named) (d : Decision) → named_at old mid.held ≡ Some h → h.name ≡ old
          → decision_at mid.instance h.spot (need_of bytes) ≡ d → d ≢ Move
          → Fine (resized_here h fresh (need_of bytes) mid)
      resized-fine h d i nm dec ne =
          logged-fine e rules L me set is works
          (entry.ReallocHere h.name fresh (resized_place mid.instance h.spot (need_of bytes)))
          (holding fresh h.spot (let_go h.name
          (record mid { instance = resizing_at mid.instance h.spot (need_of bytes) fresh })))
          (k.0, k.1, (resizing-fixed mid.instance h.spot (need_of bytes) fresh).0 ∙ k.2)
          (first-is (op.Realloc old fresh bytes) ops _ todo (nm, refl))
          (λ n q. absurd cc)
          (λ now. record {
            begins = ready;
            need = need_of bytes;
            asks = subst (λ os. HasNeed os (need_of bytes)) (sym todo) refl;
            named = h;
            held = subst (λ n. named_at n mid.held ≡ Some h) (sym nm) i;
            stays = subst (λ d. d ≢ Move) (sym dec) ne;
            carrier = refl;
            offset = refl;
            size = refl;
            there = landed e rules L me set is works fresh
                (resized_place mid.instance h.spot (need_of bytes))
                (holding fresh h.spot (let_go h.name
                (record mid { instance = resizing_at mid.instance h.spot (need_of bytes) fresh })))
                (resized-lies h (itself-held h i nm) (subst (λ d. d ≢ Move) (sym dec) ne))
                (ap (λ (a : Actor). a.instance) now, ap (λ (a : Actor). a.held) now);
            holds = (
              record { name = fresh; spot = h.spot },
              subst (λ l. named_at fresh l ≡ Some (record { name = fresh; spot = h.spot }))
                  (ap (λ (a : Actor). a.held) now) (fresh-held h (itself-held h i nm)),
            );
          })

      decided-fine : (h : Named) (d : Decision) → named_at old mid.held ≡ Some h → h.name ≡ old
          → decision_at mid.instance h.spot (need_of bytes) ≡ d
          → Fine (reallocated_by e me h fresh (need_of bytes) mid d)
      decided-fine h Move i nm dec = seek-fine (asked h)
          (subst (OfAsk (asked h)) (sym todo ∙ k.1) (refl, refl, (h, refl, nm)))
          (record {
            fresh = fresh-name fresh (op.Realloc old fresh bytes) ops todo (grind arith);
            least = need-least bytes;
            even = need-even bytes;
            old = itself-held h i nm;
          })
          (subst (λ os. AsksFor mid os (need_of bytes)) (sym todo)
          (refl, subst (IsToMove mid.instance (need_of bytes)) (sym i) dec))
      decided-fine h Stay i nm dec = resized-fine h Stay i nm dec (λ q. absurd (cc))
      decided-fine h ShrinkHere i nm dec = resized-fine h ShrinkHere i nm dec (λ q. absurd (cc))
      decided-fine h GrowHere i nm dec = resized-fine h GrowHere i nm dec (λ q. absurd (cc))
      decided-fine h (ShrinkCarrier pages) i nm dec =
          resized-fine h (ShrinkCarrier pages) i nm dec (λ q. absurd (cc))

      realloc-fine : (h : Option Named) → named_at old mid.held ≡ h
          → Fine (reallocated e me old fresh (need_of bytes) mid h)
      realloc-fine None i =
          logged-fine e rules L me set is works (entry.ReallocSkipped old fresh) mid k
          (first-is (op.Realloc old fresh bytes) ops _ todo (refl, refl))
          (λ n said. subst (λ m. IsFresh e (run e L) s me m (at Begin mid))
          (sym (eqb-true n fresh said))
          (fresh-name fresh (op.Realloc old fresh bytes) ops todo (grind arith)))
          (skipped old (entry.ReallocSkipped old fresh) i)
      realloc-fine (Some h) i = decided-fine h (decision_at mid.instance h.spot (need_of bytes)) i
          (item_at-key name_of old h mid.held i) refl

    free-fine : (n : ℕ) (ops : List Op) (h : Option Named) → mid.todo ≡ op.Free n ∷ ops
        → named_at n mid.held ≡ h → Fine (freed e me n mid h)
    free-fine n ops None q i = logged-fine e rules L me set is works (entry.FreeSkipped n) mid k
        (first-is (op.Free n) ops _ q refl) (λ n q. absurd cc) (skipped n (entry.FreeSkipped n) i)
    free-fine n ops (Some h) q i = task-fine e rules L me set is works (Freeing n) h mid k
        (subst (OfTask (Freeing n)) (sym q ∙ k.1) refl) (held-now n h i)
        (item_at-key name_of n h mid.held i) i going (λ now. tt)

    give-fine : (n to : ℕ) (ops : List Op) (h : Option Named) → mid.todo ≡ op.Give n to ∷ ops
        → named_at n mid.held ≡ h → Fine (giving n to mid h)
    give-fine n to ops None q i =
        logged-fine e rules L me set is works (entry.GiveSkipped n to) mid k
        (first-is (op.Give n to) ops _ q (refl, refl))
        (λ n q. absurd cc) (skipped n (entry.GiveSkipped n to) i)
    give-fine n to ops (Some h) q i = (
      (λ r. absurd cc),
      k.2 ∙ set,
      λ now. (
        (ops, q ∙ ap (λ m. op.Give m to ∷ ops) (sym (item_at-key name_of n h mid.held i))),
        inl (k.0, k.1),
      ),
    )

    -- the carriers that are reported are those that are employed
    multis-now : (b : Actor) → b.stage ≡ Begin → b.instance ≡ mid.instance
        → employed_multis b ≡ employed_multis mid
    multis-now b begin same = let many : Content → Bool = λ x. not (is_single x.kind) in
        ap (λ st. filter many (leaving_at st) ++ b.instance.contents) begin
        ∙ ap (λ (i : Instance). i.contents) same
        ∙ sym (ap (λ st. filter many (leaving_at st) ++ mid.instance.contents) ready)

    singles-now : (b : Actor) → b.stage ≡ Begin → b.instance ≡ mid.instance
        → employed_singles b ≡ employed_singles mid
    singles-now b begin same = let one : Content → Bool = λ x. is_single x.kind in
        ap (λ st. filter one (leaving_at st) ++ b.instance.singles) begin
        ∙ ap (λ (i : Instance). i.singles) same
        ∙ sym (ap (λ st. filter one (leaving_at st) ++ mid.instance.singles) ready)

    itself-reports : (now : Figures) (s : Stat) (xs : List Content) → now ≡ figures xs
        → Reports (report now s) xs
    itself-reports now s xs q = (
      ap (λ (f : Figures). f.blocks) q,
      ap (λ (f : Figures). f.blocks_size) q,
      ap (λ (f : Figures). f.carriers) q,
      ap (λ (f : Figures). f.carriers_size) q,
    )

    informed-fine : (ops : List Op) → mid.todo ≡ op.Info ∷ ops → Fine (informed mid)
    informed-fine ops q =
        let mbcs = figures (employed_multis mid) in
        let sbcs = figures (employed_singles mid) in
        let b = observed mid in
        logged-fine e rules L me set is works
        (entry.Info (record { mbcs = report mbcs b.mbcs; sbcs = report sbcs b.sbcs }))
        (record b { mbcs = restarted mbcs b.mbcs; sbcs = restarted sbcs b.sbcs }) k
        (first-is op.Info ops _ q tt) (λ n q. absurd cc)
        (λ now.
        let a = actor_after e (L ++ me ∷ []) me in
        let begin : a.stage ≡ Begin = sym (ap (λ (a : Actor). a.stage) now) in
        let same : a.instance ≡ mid.instance = sym (ap (λ (a : Actor). a.instance) now) in (
          itself-reports mbcs b.mbcs (employed_multis a)
              (ap figures (sym (multis-now a begin same))),
          itself-reports sbcs b.sbcs (employed_singles a)
              (ap figures (sym (singles-now a begin same))),
        ))

    -- an operation that takes a name has a try
    first-try : (n tries : ℕ) (ops : List Op) → mid.todo ≡ op.Take n tries ∷ ops → 1 ≤ tries
    first-try n tries ops q =
        let h = (rules L).present.history me in
        All-head HasTry (op.Take n tries) ops
        (All-back HasTry h.done (op.Take n tries ∷ ops)
        (subst (All HasTry) (h.split ∙ ap (λ ops. h.done ++ ops) (sym k.1 ∙ q))
        ((rules L).present.tries me)))

    pub itself-fine : (ops : List Op) → mid.todo ≡ ops → Fine (itself e me mid ops)
    itself-fine [] q = ((λ r. absurd cc), k.2 ∙ set, λ now. (tt, inl (k.0, k.1)))
    itself-fine (op.Alloc n b ∷ ops) q =
        let ask : Ask = record { name = n; need = need_of b; old = None } in
        seek-fine ask (subst (OfAsk ask) (sym q ∙ k.1) (refl, refl, refl))
        (record {
          fresh = fresh-name n (op.Alloc n b) ops q (grind arith);
          least = need-least b;
          even = need-even b;
          old = tt;
        })
        (subst (λ os. AsksFor mid os (need_of b)) (sym q) refl)
    itself-fine (op.Free n ∷ ops) q = free-fine n ops (named_at n mid.held) q refl
    itself-fine (op.Realloc o n b ∷ ops) q = realloc-fine o n b ops q (named_at o mid.held) refl
    itself-fine (op.Give n to ∷ ops) q = give-fine n to ops (named_at n mid.held) q refl
    itself-fine (op.Take n tries ∷ ops) q = (
      (λ r. absurd cc),
      k.2 ∙ set,
      λ now. (
        record {
          before = L;
          since = [];
          split = refl;
          begins = ready;
          same = (refl, refl, refl, refl);
          some = first-try n tries ops q;
          steps = omega (arith, no-steps);
          absent = never-first e L me n;
          others = ops;
          first = q;
        },
        inl (k.0, k.1),
      ),
    )
    itself-fine (op.Info ∷ ops) q = informed-fine ops q
    itself-fine (op.Idle ∷ ops) q =
        logged-fine e rules L me set is works entry.Idle mid k (first-is op.Idle ops _ q tt)
        (λ n q. absurd cc) (nothing entry.Idle)
