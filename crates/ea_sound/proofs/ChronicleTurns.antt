-- A turn of a scheduler: what it makes of what the turns before say.
use Rattle.std.proofs.Common.{◌≡◌, ◌≢◌, ◌⊎◌, ℕ, zero, suc, ◌+◌, ◌≤◌, List, [], ◌∷◌, ◌++◌, Bool}
use Rattle.std.proofs.Common.{true, false, refl, sym, ap, ◌∙◌, subst, inl, inr, arith}
use Rattle.std.specs.Prelude.{Option, Some, None, count_by, length, ◌==◌}
use Rattle.std.proofs.lemmas.List.{append_assoc}
use Rattle.std.proofs.lemmas.Bool.{true≢false}
use Rattle.ea_model.specs.declared.entries.Entry.TheVariants as entry
use Rattle.ea_model.specs.declared.operations.Op.TheVariants as op
use Rattle.ea_model.specs.Instance.{chosen_spot, owner_of}
use Rattle.ea_model.specs.Employment.{employing}
use Rattle.ea_model.specs.Content.{Content, is_nil}
use Rattle.ea_machine.specs.Lists.{Lists}
use Rattle.ea_machine.specs.Placements.{fetches, pass}
use Rattle.ea_machine.specs.Searches.{Search, new_search, with_counted}
use Rattle.ea_machine.specs.Lists.{unlisted}
use Rattle.ea_machine.specs.Releases.{abandoned}
use Rattle.ea_machine.specs.declared.parts.Part.{Part}
use Rattle.ea_machine.specs.declared.owners.OwnerWord.{OwnerWord}
use Rattle.ea_machine.specs.declared.stages.Stage.{Stage}
use Rattle.ea_machine.specs.declared.stages.Stage.TheVariants.{Begin, Routed, Collecting, Searching}
use Rattle.ea_machine.specs.declared.stages.Stage.TheVariants.{Fetching, Creating, Giving, Taking}
use Rattle.ea_machine.specs.declared.stages.Stage.TheVariants.{Ended, Ready}
use Rattle.ea_machine.specs.declared.stages.Route.{Route}
use Rattle.ea_machine.specs.declared.stages.Route.TheVariants.{Looking, Trying, Settling}
use Rattle.ea_machine.specs.declared.stages.Route.TheVariants.{Abandoning, Sending, Clearing}
use Rattle.ea_machine.specs.declared.stages.Route.TheVariants.{Pushing, Linking}
use Rattle.ea_machine.specs.Actor.{Actor}
use Rattle.ea_machine.specs.declared.tasks.Why.TheVariants.{Walk, For}
use Rattle.ea_machine.specs.declared.asks.Ask.{Ask}
use Rattle.ea_machine.specs.Machine.{after_row, onward, onward_at, run, wants_at}
use Rattle.ea_machine.specs.Operations.{took}
use Rattle.ea_machine.specs.Placements.{fetched, holding, saw_by}
use Rattle.ea_machine.specs.Searches.{fits}
use Rattle.ea_machine.specs.Placements.{searched}
use Rattle.ea_machine.specs.Releases.{Turned, disowned, turned}
use Rattle.ea_machine.specs.Rows.{Answer, Done, Head, Rests, Passes, Saw, Won, Lost, Home, Got}
use Rattle.ea_machine.specs.Setup.{Setup, greatest_number, is_scheduler, migration}
use Rattle.ea_machine.specs.Statistics.{observed}
use Rattle.ea_machine.specs.Table.{answer, effect}
use Rattle.ea_machine.specs.Tasks.{halted, logged, let_go}
use Rattle.ea_machine.specs.Nodes.{block_node, named_at, pushed, spot_named}
use Rattle.ea_machine.specs.declared.nodes.Named.{Named}
use Rattle.ea_machine.specs.State.{State}
use Rattle.ea_machine.specs.Sums.{one_if}
use Rattle.ea_machine.specs.Shared.{Shared}
use Rattle.ea_machine.specs.declared.owners.OwnerWord.TheVariants as word
use Rattle.ea_machine.specs.Owners.{word_of}
use Rattle.ea_machine.specs.Table.{tried_at}
use Rattle.ea_machine.specs.declared.tasks.Task.{Task}
use Rattle.ea_machine.specs.declared.tasks.Gone.TheVariants.{Open, Here, Queued}
use Rattle.ea_machine.specs.declared.nodes.Node.TheVariants.{Carrier}
use Rattle.ea_machine.specs.declared.tasks.Why.{Why}
use Rattle.ea_machine.specs.declared.tasks.Gone.{Gone}
use Rattle.ea_sound.specs.Searches.{past}
use Rattle.ea_sound.specs.Leaves.{InOperation}
use Rattle.ea_sound.specs.Moments.{at as at_stage}
use Rattle.ea_sound.specs.Chosen.{ByItself, Fetched}
use Rattle.ea_sound.specs.FirstFits.{IsFirstFit}
use Rattle.ea_sound.specs.Searches.{Missed, Shown, Sight, sight, sight_if}
use Rattle.ea_sound.specs.Turns.{actor_after, answered, begun}
use Rattle.ea_sound.specs.Leaves.{Leaves}
use Rattle.ea_sound.specs.Present.{Fits, FitsRoute, OfAsk, OldHeld, Rule}
use Rattle.ea_sound.specs.Shown.{Employs, HasSeen, Looks, Loses, SeesEmployer, SeesItself, Wins}
use Rattle.ea_sound.specs.Heard.{HearsNoOther}
use Rattle.ea_sound.specs.Names.{only}
use Rattle.ea_sound.proofs.Chronicle.{CameTo}
use Rattle.ea_sound.proofs.Operating.{listed-wanted}
use Rattle.ea_sound.proofs.StillMoves.{keeps-operation, lists-goes}
use Rattle.ea_sound.proofs.FetchedFits.{fetched-number, fetched-there}
use Rattle.ea_sound.proofs.Chronicle.{AndShown, Fetches, IsRefilled, Searches, SoFar}
use Rattle.ea_sound.proofs.Chronicle.{Takes, Underway}
use Rattle.ea_sound.proofs.Chronicle.{asked-longer, further, placing-longer, way-asked, LeftBy}
use Rattle.ea_sound.proofs.Chronicle.{OnWay, WentTo, left-longer, over-longer, pushed-longer}
use Rattle.ea_sound.proofs.Chronicle.{name_in, held-longer, old-longer, seen-longer, HasOld}
use Rattle.ea_sound.proofs.HandedNames.{NeverGiven, is-given, is-taken, never-mine, tried-given}
use Rattle.ea_sound.proofs.TurnLists.{longer, run-snoc, step-shared}
use Rattle.ea_sound.proofs.SearchLists.{count-snoc, searched-look, searched-lost}
use Rattle.ea_sound.proofs.SearchLists.{searched-on}
use Rattle.ea_sound.proofs.SearchTurns.{busy-tries, fetch-tries, look-saw, lost-other}
use Rattle.ea_sound.proofs.SearchTurns.{won-or_lost}
use Rattle.ea_sound.proofs.BeginTurns.{IsInBegin, Walks, walks}
use Rattle.ea_sound.proofs.ShortRoutes.{Keeps, keeps-same, turned-keeps, turned-short}
use Rattle.ea_sound.proofs.ChroniclePlaces.{Becomes, Fine as IsFine, IsAsking, hand-becomes}
use Rattle.ea_sound.proofs.ChroniclePlaces.{left-becomes, pushed-becomes, carried-fine, choice-fine}
use Rattle.ea_sound.proofs.ChroniclePlaces.{created-fine, logged-fine, search-fine, shared}
use Rattle.ea_sound.proofs.ChronicleOperations.{itself-fine}
use Rattle.ea_sound.proofs.Operating.{begun-kept}
use Rattle.ea_sound.proofs.RowLeaves.{row-left}
use Rattle.ea_sound.proofs.Hearing.{hears-no_other}
use Rattle.ea_sound.proofs.GoneRoutes.{ByWord, LookGives, LookShows, LookShowsMe, TryGives}
use Rattle.ea_sound.proofs.GoneRoutes.{TryIsWon, TryShows, looking-yields, losing-yields}
use Rattle.ea_sound.proofs.GoneRoutes.{settled-gone, settled-not, winning-yields}
use Rattle.ea_sound.proofs.GoneRoutes.{turned-queued}
use Rattle.ea_sound.proofs.GoneBlocks.{pushed-after, hand-out, look-names, name-one, try-names}
use Rattle.ea_sound.proofs.Employers.{there-on}
use Rattle.ea_sound.proofs.OtherRows.{tried-there}

module _ (e : Setup) (rules : (L : List ℕ) → Rule e (run e L)) (L : List ℕ) (me : ℕ) where
  abbrev acting : Actor
  acting = actor_after e L me

  abbrev mid : Actor
  mid = begun e L me

  abbrev turn : List ℕ
  turn = L ++ me ∷ []

  abbrev Fine : Actor → Type 0
  Fine = IsFine e rules L me

  module _ (set : acting.instance.settings ≡ e.settings) (is : is_scheduler e me ≡ true)
      (works : acting.stage ≢ Ended) where
    abbrev s : Shared
    s = shared e rules L me

    abbrev LeftAt : Stage Content → Answer → Type 0
    LeftAt = Leaves e (run e L) s me acting

    -- what the row leaves
    left : (st : Stage Content) (r : Answer) → acting.stage ≡ st → acting.stage ≢ Ended
        → answered (run e L) me ≡ r → LeftAt st r
    left st r q ne ans = subst (LeftAt st) ans
        (subst (λ st. LeftAt st (answered (run e L) me)) q
        (row-left e (run e L) me is (rules L) acting.stage ne refl))

    -- a scheduler that made no entry
    rests-fine : (b : Actor) (st : Stage Content) → b.stage ≡ st → st ≢ Ready
        → SoFar e turn me (observed b) st → Keeps acting b → Fine b
    rests-fine b st q ne h k = (
      (λ r. ne (sym q ∙ r)),
      k.2 ∙ set,
      λ now. (subst (SoFar e turn me (observed b)) (sym q) h, inl (k.0, k.1)),
    )

    -- an answer that never comes
    halted-fine : Fine (halted acting)
    halted-fine = rests-fine (halted acting) Ended refl (λ q. absurd cc) tt (keeps-same acting)

    -- a walk, then perhaps the operation
    walk-fine : (st : Stage Content) → mid.stage ≡ st → IsInBegin st → Keeps acting mid
        → acting.stage ≢ Ended → Fine (onward_at e me mid st)
    walk-fine Ready q w k ne = itself-fine e rules L me set is works q k
        (begun-kept e (run e L) s me is acting (answered (run e L) me) acting.stage
        (left acting.stage (answered (run e L) me) refl ne refl) q) mid.todo refl
    walk-fine Begin q w k ne = rests-fine mid Begin q (λ r. absurd cc) tt k
    walk-fine (Collecting c) q w k ne =
        rests-fine mid (Collecting c) q (λ r. absurd cc) tt k
    walk-fine (Routed r Walk g) q w k ne =
        rests-fine mid (Routed r Walk g) q (λ r. absurd cc) tt k
    walk-fine Ended q w k ne = rests-fine mid Ended q (λ r. absurd cc) tt k
    walk-fine (Routed r (For task) g) q w k ne = absurd w
    walk-fine (Searching ask at part) q w k ne = absurd w
    walk-fine (Fetching ask at part seen) q w k ne = absurd w
    walk-fine (Creating ask p) q w k ne = absurd w
    walk-fine (Giving h to) q w k ne = absurd w
    walk-fine (Taking n tries left) q w k ne = absurd w

    -- a scheduler is as now, and what it sees in this turn
    abbrev IsStill : Actor → Type 0
    IsStill b = IsRefilled b acting

    abbrev saw : List Sight
    saw = sight_if true acting.stage (answered (run e L) me)

    turn-of : (need : ℕ) (st : Stage Content) (r : Answer) (x : Sight) (R : Actor → Type 0)
        (P Q : Lists → List Sight → Type 0)
        → acting.stage ≡ st → answered (run e L) me ≡ r → sight st r ≡ x ∷ []
        → ((l : Lists) (xs : List Sight) → P l xs → Q l (xs ++ x ∷ [])) → Underway e L me need R P
        → Underway e turn me need R Q
    turn-of need st r x R P Q q a is f u =
        let sees : saw ≡ x ∷ [] = ap (λ st. sight st (answered (run e L) me)) q
        ∙ ap (λ r. sight st r) a ∙ is in
        further e L me me need R P Q true (grind arith) (ap length sees)
        (λ l xs p. subst (λ ys. Q l (xs ++ ys)) (sym sees) (f l xs p)) u

    -- the old block was held when the operation began
    way-old : (need : ℕ) (P : Lists → List Sight → Type 0) → Underway e L me need IsStill P
        → (old : Option Named) → OldHeld old acting.held → HasOld e turn me acting.log old
    way-old need P u None held = tt
    way-old need P u (Some h) held = record {
      before = u.before;
      since = u.since ++ me ∷ [];
      split = longer L u.before u.since me me u.split;
      begins = u.begins;
      same = sym u.same.0;
      held = subst (λ hs. named_at h.name hs ≡ Some h) u.same.3 held;
    }

    asking : (ask : Ask) (P : Lists → List Sight → Type 0) → OfAsk ask acting.todo
        → OldHeld ask.old acting.held → Underway e L me ask.need IsStill P
        → IsAsking e rules L me ask
    asking ask P o old u = (
      o,
      asked-longer e L me me ask.need acting.log (way-asked e L me ask.need acting P u),
      way-old ask.need P u ask.old old,
    )

    searched-fine : (ask : Ask) (at : ℕ) (part : Part) (r : Answer)
        → acting.stage ≡ Searching ask at part → answered (run e L) me ≡ r
        → LeftAt (Searching ask at part) r → Searches e L me acting ask at part
        → Fine (searched e me ask at part acting r)
    searched-fine ask at part (Saw v) st ans l h = by (fits ask.need v) refl
      where
        x : Search
        x = record { lists = acting.lists; at = at; part = part }

        by : (t : Bool) → fits ask.need v ≡ t
            → Fine (saw_by e me ask at (with_counted v part) acting v t)
        by true t = (
          (λ q. absurd cc),
          set,
          λ now. (
            record {
              of = h.of;
              on = h.on;
              small = h.small;
              old = part;
              goes = h.goes;
              counts = refl;
              fit = t;
              way = turn-of ask.need (Searching ask at part) (Saw v) (Shown at v) IsStill _
                  (AndShown e ask.need x v) st ans refl (λ l xs p. (xs, refl, p)) h.way;
            },
            inl (refl, refl),
          ),
        )
        by false t = search-fine e rules L me set is works ask (past (greatest_number e) x v v)
            acting (keeps-same acting) (asking ask _ h.of l.0.old h.way) h.on h.small l.0
            (turn-of ask.need (Searching ask at part) (Saw v) (Shown at v) IsStill _
            (CameTo e ask.need (past (greatest_number e) x v v)) st ans refl
            (λ l xs p. searched-on (greatest_number e) ask.need
            (new_search (greatest_number e) l) x (past (greatest_number e) x v v) xs
            (Shown at v ∷ []) p
            (searched-look (greatest_number e) ask.need x v h.goes t)) h.way)
    searched-fine ask at part Done st ans l h = halted-fine
    searched-fine ask at part (Head x) st ans l h = halted-fine
    searched-fine ask at part Rests st ans l h = halted-fine
    searched-fine ask at part (Passes x) st ans l h = halted-fine
    searched-fine ask at part (Won x) st ans l h = halted-fine
    searched-fine ask at part (Lost x) st ans l h = halted-fine
    searched-fine ask at part (Home x) st ans l h = halted-fine
    searched-fine ask at part (Got x) st ans l h = halted-fine

    -- the number that it tries to fetch is the first whose word fits
    first-fit : (ask : Ask) (at : ℕ) (part : Part) (seen : OwnerWord)
        → Fetches e L me acting ask at part seen → IsFirstFit e L me ask.need at seen
    first-fit ask at part seen h = record {
      before = h.way.before;
      since = h.way.since;
      split = h.way.split;
      begins = h.way.begins;
      same = sym h.way.same.0;
      asks = h.way.asks;
      none = h.way.none;
      passed = h.way.saw.0;
      last = record { lists = acting.lists; at = at; part = h.old };
      searched = h.way.saw.2;
      next = (refl, h.goes);
      fit = h.fit;
      saw = h.way.saw.1;
      steps = h.way.steps;
    }

    fetched-fine : (ask : Ask) (at : ℕ) (part : Part) (seen : OwnerWord) (r : Answer)
        → acting.stage ≡ Fetching ask at part seen → answered (run e L) me ≡ r
        → LeftAt (Fetching ask at part seen) r → Fetches e L me acting ask at part seen
        → Fine (fetched e me ask at part acting r)
    fetched-fine ask at part seen (Won x) st ans l h =
        choice-fine e rules L me set is works ask
        (fetches at x acting)
        (chosen_spot (employing acting.instance x) ask.need) refl (refl, refl, refl)
        (asking ask _ h.of l.0.old h.way) h.small
        (Fetched x (record {
          ask = ask;
          number = at;
          part = part;
          seen = seen;
          stage = st;
          asks = refl;
          won = ans;
          is = fetched-number e (run e L) (rules L) me at part ask seen x st ans;
          first = first-fit ask at part seen h;
          there = fetched-there e (run e L) (rules L) me at part ask seen x st ans;
        }) (ap (λ i. chosen_spot i ask.need) h.way.same.2 ∙ h.way.none) refl)
        (listed-wanted e (run e L) s me is ask (unlisted at acting.lists) b l.0)
        (lists-goes e (run e L) s me is (InOperation e (run e L) s me)
        (keeps-operation e (run e L) s me is) (unlisted at acting.lists) (at_stage Begin b)
        (λ q. absurd cc) l.2)
      where
        b : Actor
        b = record acting { instance = employing acting.instance x }
    fetched-fine ask at part seen (Lost u) st ans l h =
        subst (λ p. Fine (pass e me ask at p acting u)) (sym h.counts)
        (search-fine e rules L me set is works ask (past (greatest_number e) x seen u) acting
        (keeps-same acting) (asking ask _ h.of l.0.old h.way) h.on h.small l.0
        (turn-of ask.need (Fetching ask at part seen) (Lost u) (Missed at u) IsStill _
        (CameTo e ask.need (past (greatest_number e) x seen u)) st ans refl
        (λ l xs p. subst (CameTo e ask.need (past (greatest_number e) x seen u) l)
        (sym (ap (λ zs. zs ++ Missed at u ∷ []) p.1
        ∙ append_assoc p.0 (Shown at seen ∷ []) (Missed at u ∷ [])))
        (searched-on (greatest_number e) ask.need (new_search (greatest_number e) l) x
        (past (greatest_number e) x seen u) p.0 (Shown at seen ∷ Missed at u ∷ []) p.2
        (searched-lost (greatest_number e) ask.need x seen u h.goes h.fit
        (lost-other ask.need seen u ((run e L).shared.places at) h.fit
        (sym (ap (λ stage. answer me (wants_at acting.next stage) (run e L).shared) st
        ∙ fetch-tries me at seen (run e L).shared) ∙ ans))))) h.way))
      where
        x : Search
        x = record { lists = acting.lists; at = at; part = h.old }
    fetched-fine ask at part seen Done st ans l h = halted-fine
    fetched-fine ask at part seen (Head x) st ans l h = halted-fine
    fetched-fine ask at part seen Rests st ans l h = halted-fine
    fetched-fine ask at part seen (Passes x) st ans l h = halted-fine
    fetched-fine ask at part seen (Saw x) st ans l h = halted-fine
    fetched-fine ask at part seen (Home x) st ans l h = halted-fine
    fetched-fine ask at part seen (Got x) st ans l h = halted-fine

    -- one more try in vain
    module _ (n tries left : ℕ) (st : acting.stage ≡ Taking n tries (suc left))
        (ans : answered (run e L) me ≡ Got None) (h : Takes e L me acting n tries (suc left)) where
      steps-now : count_by (λ j. j == me) (h.since ++ me ∷ []) + left ≡ tries
      steps-now = let d : (me == me) ≡ true = grind arith in
          omega (arith, h.steps, count-snoc me h.since me, ap (λ b. one_if b) d)

      never-now : NeverGiven e h.before me n (h.since ++ me ∷ [])
      never-now = never-mine e h.before me n h.since
          (subst (λ l. spot_named n (run e l).shared.given ≡ None) h.split
          (tried-given e rules L me works n tries (suc left) st None ans)) h.absent

      absent-fine : left ≡ 0 → Fine (logged (entry.TakeAbsent n tries) acting)
      absent-fine last = logged-fine e rules L me set is works (entry.TakeAbsent n tries) acting
          (keeps-same acting)
          (record {
            first = op.Take n tries;
            others = h.others;
            is = h.first;
            makes = (refl, refl);
          })
          (λ n q. absurd cc)
          (λ now. record {
            before = h.before;
            since = h.since ++ me ∷ [];
            split = longer L h.before h.since me me h.split;
            begins = h.begins;
            same = sym h.same.0;
            steps = omega (arith, steps-now, last);
            absent = never-now;
            instance = sym (ap (λ (a : Actor). a.instance) now) ∙ h.same.2;
            held = sym (ap (λ (a : Actor). a.held) now) ∙ h.same.3;
          })

      tries-fine : 1 ≤ left → Fine (record acting { stage = Taking n tries left })
      tries-fine more = (
        (λ r. absurd cc),
        set,
        λ now. (
          record {
            before = h.before;
            since = h.since ++ me ∷ [];
            split = longer L h.before h.since me me h.split;
            begins = h.begins;
            same = h.same;
            some = more;
            steps = steps-now;
            absent = never-now;
            others = h.others;
            first = h.first;
          },
          inl (refl, refl),
        ),
      )

    took-fine : (n tries left : ℕ) (r : Answer) → acting.stage ≡ Taking n tries left
        → answered (run e L) me ≡ r → Takes e L me acting n tries left
        → Fine (took n tries left acting r)
    took-fine n tries left (Got (Some spot)) st ans h =
        logged-fine e rules L me set is works (entry.Take n) (holding n spot acting)
        (refl, refl, refl)
        (record { first = op.Take n tries; others = h.others; is = h.first; makes = refl })
        (λ n q. absurd cc) (λ now. is-taken e rules L me works n tries left st spot ans now)
    took-fine n tries zero (Got None) st ans h = absurd (omega (arith, h.some))
    took-fine n tries (suc zero) (Got None) st ans h = absent-fine n tries 0 st ans h refl
    took-fine n tries (suc (suc left)) (Got None) st ans h =
        tries-fine n tries (suc left) st ans h (omega arith)
    took-fine n tries left Done st ans h = halted-fine
    took-fine n tries left (Head x) st ans h = halted-fine
    took-fine n tries left Rests st ans h = halted-fine
    took-fine n tries left (Passes x) st ans h = halted-fine
    took-fine n tries left (Saw x) st ans h = halted-fine
    took-fine n tries left (Won x) st ans h = halted-fine
    took-fine n tries left (Lost x) st ans h = halted-fine
    took-fine n tries left (Home x) st ans h = halted-fine

    -- what isn't Ready is done with
    onward-by : (b : Actor) (st : Stage Content) → b.stage ≡ st → Fine b
        → Fine (onward_at e me b st)
    onward-by b Ready q h = absurd (h.0 q)
    onward-by b Begin q h = h
    onward-by b (Routed r y g) q h = h
    onward-by b (Collecting c) q h = h
    onward-by b (Searching ask at part) q h = h
    onward-by b (Fetching ask at part seen) q h = h
    onward-by b (Creating ask p) q h = h
    onward-by b (Giving g to) q h = h
    onward-by b (Taking n tries left) q h = h
    onward-by b Ended q h = h

    abbrev Then : Stage Content → Actor
    Then st = after_row e me acting (answered (run e L) me) st

    -- owner words are read and tried only where carriers migrate
    words-on : (r : Route Content) (y : Why) (g : Gone) → acting.stage ≡ Routed r y g
        → migration e ≡ false → ByWord r → ⊥
    words-on r y g q off word =
        by r (subst (Fits e (run e L) me acting) q ((rules L).present.fits me)).0 word where
          by : (r : Route Content) → FitsRoute e (run e L).shared me r → ByWord r → ⊥
          by (Looking h) f w = true≢false (sym f.1 ∙ off)
          by (Trying h seen) f w = true≢false
              (sym (there-on e (run e L) (rules L).kept h.spot.carrier
              (tried-there me seen ((run e L).shared.places h.spot.carrier) f)) ∙ off)
          by (Settling x) f w = w
          by (Abandoning x) f w = w
          by (Sending x) f w = w
          by (Clearing x) f w = w
          by (Pushing node to) f w = w
          by (Linking node to) f w = w

    -- what becomes of the block of a task by the row of its route
    abbrev Goes : Task → Turned → Type 0
    Goes task t = Becomes e rules L me set is works task t.route t.gone t.actor

    -- the look at the carrier of a block is answered, and the try to make it busy
    module _ (task : Task) (h : Named) (z : Answer) (ans : answered (run e L) me ≡ z) where
      hears : HearsNoOther e (run e L)
      hears = hears-no_other e (run e L) (rules L)

      module _ (q : acting.stage ≡ Routed (Looking h) (For task) Open) where
        look-gives : LookGives e me z h (turned e me (Looking h) Open acting z)
        look-gives =
            let v = word_of ((run e L).shared.places h.spot.carrier) in
            let saw : answered (run e L) me ≡ Saw v =
            ap (λ st. answer me (wants_at acting.next st) (run e L).shared) q
            ∙ look-saw me h.spot.carrier (run e L).shared in
            looking-yields e me h acting z v (sym ans ∙ saw)
            (hears.looks me h (For task) Open v q saw)

        look-sees : (to : ℕ) → LookShows z to → SeesEmployer me h to (run e L)
        look-sees to w = Looks task w.0 q (ans ∙ w.1) w.2

        look-itself : LookShowsMe z me → SeesItself me h (run e L)
        look-itself w = Employs task q (ans ∙ w)

      module _ (l : ℕ) (q : acting.stage ≡ Routed (Trying h (word.Pooled me l)) (For task) Open)
        where
          try-gives : TryGives e me z h (turned e me (Trying h (word.Pooled me l)) Open acting z)
          try-gives =
              let p = (run e L).shared.places h.spot.carrier in
              let is : answered (run e L) me ≡ tried_at (word.Pooled me l) p =
              ap (λ st. answer me (wants_at acting.next st) (run e L).shared) q
              ∙ busy-tries me h.spot.carrier (word.Pooled me l) (run e L).shared in
              elim (won-or_lost (word.Pooled me l) p) [
                | inl x ↦ winning-yields e me h acting z (x.0, sym ans ∙ is ∙ x.1)
                | inr u ↦ losing-yields e me h acting z u.0 (sym ans ∙ is ∙ u.1)
                    (hears.tries me h (word.Pooled me l) (For task) Open u.0 q (is ∙ u.1))
              ]

          try-sees : (to : ℕ) → TryShows z to → SeesEmployer me h to (run e L)
          try-sees to w = Loses task l w.0 q (ans ∙ w.1) w.2

          try-itself : TryIsWon z → SeesItself me h (run e L)
          try-itself w = Wins task l w.0 q (ans ∙ w.1)

    row-becomes : (task : Task) (g : Gone) (z : Answer) → answered (run e L) me ≡ z
        → (r : Route Content) → acting.stage ≡ Routed r (For task) g
        → OnWay e L me acting.log (name_in task) r g → Goes task (turned e me r g acting z)
    row-becomes task g z ans (Looking h) q w =
        subst (λ k. Goes task (turned e me (Looking h) k acting z)) (sym w.1)
        (let t = turned e me (Looking h) Open acting z in
        let same = (turned-short e me (Looking h) Open acting z).1 in
        let at = q ∙ ap (Routed (Looking h) (For task)) w.1 in
        hand-becomes e rules L me set is works task h w.0 (LookShows z) (LookShowsMe z me)
        (held-longer e L me me (name_in task) h acting.log w.2) (look-sees task h z ans at)
        (look-itself task h z ans at) (λ off. words-on (Looking h) (For task) g q off tt)
        t.route t.gone t.actor (look-gives task h z ans at)
        (λ c now empty held passed. hand-out e rules L me (name_in task) works
        (Routed (Looking h) (For task) g) q (name-one (name_in task) h w.0)
        (look-names e (only (name_in task)) me h.spot.carrier (run e L).shared) c now empty
        (held ∙ same.5) (passed ∙ same.0)))
    row-becomes task g z ans (Trying h seen) q w =
        subst (λ k. Goes task (turned e me (Trying h seen) k acting z)) (sym w.1)
        (let t = turned e me (Trying h seen) Open acting z in
        let same = (turned-short e me (Trying h seen) Open acting z).1 in
        let at = q ∙ ap (Routed (Trying h seen) (For task)) w.1
        ∙ ap (λ v. Routed (Trying h v) (For task) Open) w.3.1 in
        hand-becomes e rules L me set is works task h w.0 (TryShows z) (TryIsWon z)
        (held-longer e L me me (name_in task) h acting.log w.2) (try-sees task h z ans w.3.0 at)
        (try-itself task h z ans w.3.0 at)
        (λ off. words-on (Trying h seen) (For task) g q off tt) t.route t.gone t.actor
        (try-gives task h z ans w.3.0 at)
        (λ c now empty held passed. hand-out e rules L me (name_in task) works
        (Routed (Trying h seen) (For task) g) q (name-one (name_in task) h w.0)
        (try-names e (only (name_in task)) me h.spot.carrier seen (run e L).shared) c now empty
        (held ∙ same.5) (passed ∙ same.0)))
    row-becomes task g z ans (Settling x) q w =
        let t = turned e me (Settling x) g acting z in
        left-becomes e rules L me set is works task t.route t.gone t.actor
        (settled-not e me (is_nil x.blocks) x g acting)
        (subst (LeftBy e turn me acting.log (name_in task))
        (sym (settled-gone e me (is_nil x.blocks) x g acting))
        (left-longer e L me me acting.log (name_in task) g w))
    row-becomes task g z ans (Abandoning x) q w =
        left-becomes e rules L me set is works task None g (abandoned me x.number acting) tt
        (left-longer e L me me acting.log (name_in task) g w)
    row-becomes task g z ans (Sending x) q w =
        left-becomes e rules L me set is works task
        (Some (Pushing (Carrier x.number) (owner_of x.number))) g acting tt
        (left-longer e L me me acting.log (name_in task) g w)
    row-becomes task g z ans (Clearing x) q w =
        left-becomes e rules L me set is works task None g (disowned x.number acting) tt
        (left-longer e L me me acting.log (name_in task) g w)
    row-becomes task Open z ans (Pushing node to) q w =
        left-becomes e rules L me set is works task (Some (Linking node to)) Open acting tt
        (over-longer e L me me acting.log (name_in task) w)
    row-becomes task Here z ans (Pushing node to) q w =
        left-becomes e rules L me set is works task (Some (Linking node to)) Here acting tt
        (over-longer e L me me acting.log (name_in task) w)
    row-becomes task (Queued i) z ans (Pushing node to) q w = λ now. record {
      named = w.0.named;
      held = held-longer e L me me (name_in task) w.0.named acting.log w.0.held;
      pushed = record {
        before = L;
        since = [];
        split = refl;
        same = refl;
        queue = subst (λ j. (run e turn).shared.queues j
            ≡ pushed (block_node w.0.named) ∷ (run e L).shared.queues j) (sym w.1)
            (subst (λ m. (run e turn).shared.queues to ≡ pushed m ∷ (run e L).shared.queues to)
            w.0.is (ap (λ (v : State). v.shared.queues to) (run-snoc e L me)
            ∙ ap (λ (v : Shared). v.queues to) (step-shared e (run e L) me works)
            ∙ ap (λ st. (effect me (wants_at acting.next st) (run e L).shared).queues to) q
            ∙ pushed-after me node to (run e L).shared));
      };
      seen = λ on. seen-longer e L me me acting.log (SeesEmployer me w.0.named i)
          (subst (λ j. HasSeen e L me acting.log (SeesEmployer me w.0.named j)) (sym w.1)
          (w.0.seen on));
      owner = λ off. w.1 ∙ w.0.owner off;
    }
    row-becomes task g z ans (Linking node to) q w =
        pushed-becomes e rules L me set is works task g acting
        (pushed-longer e L me me acting.log (name_in task) g w)

    -- what the row of me leaves, by its stage before: a stage of the begin, or what is fine
    row-fine : (st : Stage Content) → acting.stage ≡ st → SoFar e L me acting st → st ≢ Ended
        → Walks acting (Then st) ⊎ Fine (Then st)
    row-fine Begin q h ne =
        inl (walks e me acting Begin (answered (run e L) me) tt ne (λ r. absurd (cc)))
    row-fine (Routed r Walk g) q h ne =
        inl (walks e me acting (Routed r Walk g) (answered (run e L) me) tt ne (λ r. absurd (cc)))
    row-fine (Collecting c) q h ne =
        inl (walks e me acting (Collecting c) (answered (run e L) me) tt ne (λ r. absurd (cc)))
    row-fine (Routed r (For task) g) q h ne =
        let t = turned e me r g acting (answered (run e L) me) in
        inr (carried-fine e rules L me set is works task t.route t.gone t.actor
        (turned-keeps e me r g acting (answered (run e L) me)) h.0
        (λ to q. elim (turned-queued e me r g acting (answered (run e L) me) to q) [
          | inl before ↦ inl (subst (WentTo e me) before h.2)
          | inr pushes ↦ inr pushes
        ])
        (row-becomes task g (answered (run e L) me) refl r q h.3)
        (λ now. placing-longer e L me me acting.log task h.1))
    row-fine (Searching ask at part) q h ne =
        inr (searched-fine ask at part (answered (run e L) me) q refl
        (left (Searching ask at part) (answered (run e L) me) q (λ r. ne (sym q ∙ r)) refl) h)
    row-fine (Fetching ask at part seen) q h ne =
        inr (fetched-fine ask at part seen (answered (run e L) me) q refl
        (left (Fetching ask at part seen) (answered (run e L) me) q (λ r. ne (sym q ∙ r)) refl) h)
    row-fine (Creating ask p) q h ne =
        let l = left (Creating ask p) (answered (run e L) me) q (λ r. ne (sym q ∙ r)) refl in
        inr (created-fine e rules L me set is works ask p acting (keeps-same acting) (
          h.of,
          asked-longer e L me me ask.need acting.log h.asked,
          old-longer e L me me acting.log ask.old h.old,
        ) h.planned
        (ByItself h.on ask q refl refl h.planned) h.none l.0 l.2)
    row-fine (Giving g to) q h ne =
        inr (logged-fine e rules L me set is works (entry.Give g.name to) (let_go g.name acting)
        (refl, refl, refl)
        (record { first = op.Give g.name to; others = h.0; is = h.1; makes = (refl, refl) })
        (λ n q. absurd cc) (λ now. is-given e rules L me works g to q now))
    row-fine (Taking n tries left) q h ne =
        inr (took-fine n tries left (answered (run e L) me) q refl h)
    row-fine Ended q h ne = absurd (ne refl)
    row-fine Ready q h ne = absurd h

    -- the turn of me
    pub turn-fine : SoFar e L me acting acting.stage → acting.stage ≢ Ended
        → Fine (onward e me mid)
    turn-fine h ne =
        elim (row-fine acting.stage refl h ne) [
          | inl w ↦ walk-fine mid.stage refl w.1 w.0 ne
          | inr f ↦ onward-by mid mid.stage refl f
        ]

    -- where the begin is over, nothing happened to the log and the operations left
    pub begun-keeps : SoFar e L me acting acting.stage → acting.stage ≢ Ended → mid.stage ≡ Ready
        → Keeps acting mid
    begun-keeps h ne r =
        elim (row-fine acting.stage refl h ne) [
          | inl w ↦ w.0
          | inr f ↦ absurd (f.0 r)
        ]
