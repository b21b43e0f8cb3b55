-- What the last step of a scheduler was, where its guard speaks of that.
use Rattle.std.proofs.Common.{◌≡◌, ◌≢◌, ℕ, zero, suc, List, [], ◌∷◌, ◌++◌, Bool, true, false, refl}
use Rattle.std.proofs.Common.{sym, ap, ◌∙◌, subst, inl, inr}
use Rattle.std.specs.Prelude.{Option, Some, None, Result, Ok, Err, ◌==◌, All, Contains}
use Rattle.std.proofs.lemmas.Bool.{cases_eq, eqb-true, true≢false}
use Rattle.std.proofs.lemmas.List.Elements.{All-append, All-cons, All-contains_itself, All-head}
use Rattle.std.proofs.lemmas.List.Elements.{All-nil, All-tail, All-weaker}
use Rattle.ea_model.specs.declared.carriers.CarrierPlan.{CarrierPlan}
use Rattle.ea_model.specs.declared.carriers.Place.{Place}
use Rattle.ea_model.specs.declared.carriers.Spot.{Spot}
use Rattle.ea_model.specs.declared.entries.NoCarrier.{NoCarrier}
use Rattle.ea_model.specs.declared.operations.Op.{Op}
use Rattle.ea_model.specs.declared.operations.Op.TheVariants as op
use Rattle.ea_model.specs.declared.reallocation.Decision.{Decision}
use Rattle.ea_model.specs.declared.reallocation.Decision.TheVariants.{Stay, ShrinkHere, GrowHere}
use Rattle.ea_model.specs.declared.reallocation.Decision.TheVariants.{ShrinkCarrier, Move}
use Rattle.ea_model.specs.Abandonment.{is_due}
use Rattle.ea_model.specs.Content.{Content, is_nil, is_vacant}
use Rattle.ea_model.specs.Instance.{chosen_spot, content_of, creating, creating_single, decision_at}
use Rattle.ea_model.specs.Instance.{employed, is_alone, owner_of, place_at, placing_at, plan}
use Rattle.ea_model.specs.Instance.{releasing_at, single_place}
use Rattle.ea_model.specs.Units.{need_of}
use Rattle.ea_model.proofs.Rising.{item_at-key}
use Rattle.ea_machine.specs.declared.asks.Ask.{Ask}
use Rattle.ea_machine.specs.declared.nodes.Named.{Named}
use Rattle.ea_machine.specs.declared.nodes.Node.{Node}
use Rattle.ea_machine.specs.declared.nodes.Node.TheVariants.{Block, Carrier}
use Rattle.ea_machine.specs.declared.owners.OwnerWord.{OwnerWord}
use Rattle.ea_machine.specs.declared.owners.OwnerWord.TheVariants as word
use Rattle.ea_machine.specs.declared.parts.Part.{Part}
use Rattle.ea_machine.specs.declared.stages.Stage.{Stage}
use Rattle.ea_machine.specs.declared.stages.Stage.TheVariants.{Begin, Routed, Collecting, Searching}
use Rattle.ea_machine.specs.declared.stages.Stage.TheVariants.{Fetching, Creating, Giving, Taking}
use Rattle.ea_machine.specs.declared.stages.Stage.TheVariants.{Ended, Ready}
use Rattle.ea_machine.specs.declared.stages.Route.{Route}
use Rattle.ea_machine.specs.declared.stages.Route.TheVariants.{Looking, Trying, Settling}
use Rattle.ea_machine.specs.declared.stages.Route.TheVariants.{Abandoning, Sending, Clearing}
use Rattle.ea_machine.specs.declared.stages.Route.TheVariants.{Pushing, Linking}
use Rattle.ea_machine.specs.declared.tasks.Gone.{Gone}
use Rattle.ea_machine.specs.declared.tasks.Gone.TheVariants.{Here, Open}
use Rattle.ea_machine.specs.declared.tasks.Task.{Task}
use Rattle.ea_machine.specs.declared.tasks.Task.TheVariants.{Freeing, Moving}
use Rattle.ea_machine.specs.declared.tasks.Why.{Why}
use Rattle.ea_machine.specs.declared.tasks.Why.TheVariants.{Walk, For}
use Rattle.ea_machine.specs.Actor.{Actor}
use Rattle.ea_machine.specs.Machine.{after_row, begins, first_stage, onward, onward_at, run, step}
use Rattle.ea_machine.specs.Machine.{wants, wants_at, wants_on}
use Rattle.ea_machine.specs.Nodes.{block_node, name_of, named_at}
use Rattle.ea_machine.specs.Operations.{freed, giving, itself, took, took_by}
use Rattle.ea_machine.specs.Owners.{CarrierAt, Absent, Busy, Employed, Pooled, Returning, word_of}
use Rattle.ea_machine.specs.Placements.{chosen_by, created_by, fetched, fetches, holding, making}
use Rattle.ea_machine.specs.Placements.{new_carrier, new_carrier_by, placed_by, saw_by, search_if}
use Rattle.ea_machine.specs.Placements.{search_on, searched, searched_by, seek, seek_by}
use Rattle.ea_machine.specs.Placements.{spot_of_place, stands}
use Rattle.ea_machine.specs.Reallocations.{reallocated, reallocated_by}
use Rattle.ea_machine.specs.Releases.{Turned, abandoned_if, after_release}
use Rattle.ea_machine.specs.Releases.{dismissed, employed_by, first_gone, forwarded, leaving_by}
use Rattle.ea_machine.specs.Releases.{lightened, looked, looked_at, owned_by, pooled_by}
use Rattle.ea_machine.specs.Releases.{release_here, route_of, routed, settled, struck, tried}
use Rattle.ea_machine.specs.Releases.{turned}
use Rattle.ea_machine.specs.Rows.{Answer, Done, Head, Rests, Passes, Saw, Won, Lost, Home, Got}
use Rattle.ea_machine.specs.Rows.{Look}
use Rattle.ea_machine.specs.Searches.{Search, fits, goes_on, looked_in, new_search, passed}
use Rattle.ea_machine.specs.Searches.{with_counted}
use Rattle.ea_machine.specs.Setup.{Setup, greatest_number, is_scheduler, migration}
use Rattle.ea_machine.specs.State.{State}
use Rattle.ea_machine.specs.Table.{answer}
use Rattle.ea_machine.specs.Tasks.{carried_by, hands_over, let_go, task_over}
use Rattle.ea_machine.specs.Walks.{after_route, begun, passed_on, taken, with_passed, worked_off}
use Rattle.ea_sound.specs.Grounded.{AreGrounded, Brings, Hands, HasBlock, IsGrounded, IsInHand}
use Rattle.ea_sound.specs.Grounded.{LastStep, Loses, Pushes, Sees, Sends, Shows, ShowsOwn}
use Rattle.ea_sound.specs.Present.{Fits, Rule}
use Rattle.ea_sound.specs.Shown.{ShowsEmployer}
use Rattle.ea_sound.specs.Turns.{actor_after, advanced, answered}
use Rattle.ea_sound.proofs.Global.{working-scheduler}
use Rattle.ea_sound.proofs.NodeSpots.{linking-unlinked}
use Rattle.ea_sound.proofs.Numbered.{scheduler-seat}
use Rattle.ea_sound.proofs.ShortRoutes.{route-short, turned-short}
use Rattle.ea_sound.proofs.TurnLists.{by-turns, ended-or, longer, run-snoc, step-ended, step-mine}
use Rattle.ea_sound.proofs.TurnLists.{step-other}
use Rattle.ea_machine.specs.Placements.{refills}

-- a pooled carrier by its word
pooled-place : (p : CarrierAt) (i l : ℕ) → word_of p ≡ word.Pooled i l
    → (x : Content) × (p ≡ Pooled i l x)
pooled-place (Pooled j g x) i l q =
    let owner : j ≡ i = cc in let gap : g ≡ l = cc in
    (x, ap (λ k. Pooled k g x) owner ∙ ap (λ h. Pooled i h x) gap)
pooled-place Absent i l q = absurd cc
pooled-place (Employed j) i l q = absurd cc
pooled-place (Busy j) i l q = absurd cc
pooled-place (Returning j x) i l q = absurd cc

saw-word : (me c : ℕ) (w : State) (seen : OwnerWord) → answer me (Look c) w.shared ≡ Saw seen
    → word_of (w.shared.places c) ≡ seen
unfolding answer
saw-word me c w seen q = cc

-- one step of a scheduler in a state
module _ (e : Setup) (w : State) (me : ℕ) where
  abbrev a : Actor
  a = w.actors me

  -- what the step tells, by where it leaves the scheduler; where the begin is over, the held names
  -- are as before
  abbrev pub TellsRoute : Route Content → Type 0
  TellsRoute (Looking hand) = Unit {0}
  TellsRoute (Trying hand seen) = ShowsOwn me hand.spot.carrier seen w
  TellsRoute (Settling x) = Unit {0}
  TellsRoute (Abandoning x) = Unit {0}
  TellsRoute (Sending x) = Unit {0}
  TellsRoute (Clearing x) = Unit {0}
  TellsRoute (Pushing node to) = Brings e me node to w
  TellsRoute (Linking node to) = Pushes me node to w

  abbrev pub TellsAt : Actor → Stage Content → Type 0
  TellsAt b Begin = Unit {0}
  TellsAt b (Routed route why gone) = TellsRoute route
  TellsAt b (Collecting number) = Unit {0}
  TellsAt b (Searching ask at part) = Unit {0}
  TellsAt b (Fetching ask at part seen) = Shows me at seen w
  TellsAt b (Creating ask p) = Unit {0}
  TellsAt b (Giving given to) = Unit {0}
  TellsAt b (Taking name tries left) = Unit {0}
  TellsAt b Ended = Unit {0}
  TellsAt b Ready = b.held ≡ a.held

  abbrev pub Tells : Actor → Type 0
  Tells b = TellsAt b b.stage

  abbrev TellsNext : Option (Route Content) → Type 0
  TellsNext None = Unit {0}
  TellsNext (Some route) = TellsRoute route

  -- where carriers don't migrate the block was held or in the walk
  abbrev HadIf : Named → Type 0
  HadIf h = migration e ≡ false → HasBlock a h

  abbrev HadOld : Option Named → Type 0
  HadOld None = Unit {0}
  HadOld (Some h) = HadIf h

  abbrev HadNode : Node → Type 0
  HadNode (Block n p) = HadIf (record { name = n; spot = p })
  HadNode (Carrier c) = Unit {0}

  -- a route that begins, and what follows a release

  leaving-tells : (own on : Bool) (x : Content) (g : Gone) (b : Actor)
      → TellsNext (leaving_by e me own on x g b).route
  leaving-tells false on x g b = tt
  leaving-tells true true x g b = tt
  leaving-tells true false x g b = tt

  abandoned-tells : (due : Bool) (x : Content) (g : Gone) (b : Actor)
      → TellsNext (abandoned_if due x g b).route
  abandoned-tells true x g b = tt
  abandoned-tells false x g b = tt

  lightened-tells : (vacant : Bool) (x : Content) (g : Gone) (b : Actor)
      → TellsNext (lightened e me vacant x g b).route
  lightened-tells true x g b =
      leaving-tells (owner_of x.number == me) (migration e) x g (dismissed x.number b)
  lightened-tells false x g b =
      abandoned-tells (is_due e.settings b.instance.count b.instance.contents x) x g b

  after_release-tells : (g : Gone) (b : Actor) (o : Option Content)
      → TellsNext (after_release e me g b o).route
  after_release-tells g b None = tt
  after_release-tells g b (Some x) = lightened-tells (is_vacant x) x (first_gone g Here) b

  here-tells : (h : Named) (g : Gone) (b : Actor) → TellsNext (release_here e me h g b).route
  here-tells h g b = after_release-tells g (record b { instance = releasing_at b.instance h.spot })
      (content_of (employed (releasing_at b.instance h.spot)) h.spot.carrier)

  owned-tells : (own : Bool) (h : Named) (b : Actor) → migration e ≡ false → HadIf h
      → TellsNext (owned_by e me own h b).route
  owned-tells true h b off had = here-tells h Open b
  owned-tells false h b off had = Hands off h (had off) refl refl

  routed-tells : (on : Bool) (h : Named) (b : Actor) → migration e ≡ on → HadIf h
      → TellsNext (routed e me on h b).route
  routed-tells true h b q had = tt
  routed-tells false h b q had = owned-tells (owner_of h.spot.carrier == me) h b q had

  route-tells : (h : Named) (b : Actor) → HadIf h → TellsNext (route_of e me h b).route
  route-tells h b had = routed-tells (migration e) h b refl had

  -- the operation itself

  carried-tells : (task : Task) (g : Gone) (b : Actor) (o : Option (Route Content)) → TellsNext o
      → Tells (carried_by (For task) (task_over task) g b o)
  carried-tells task g b None t = tt
  carried-tells task g b (Some r) t = t

  hands-tells : (task : Task) (h : Named) (b : Actor) → HadIf h
      → Tells (hands_over e me task h b)
  hands-tells task h b had =
      let t : Turned = route_of e me h (let_go h.name b) in
      carried-tells task t.gone t.actor t.route (route-tells h (let_go h.name b) had)

  stands-tells : (n : ℕ) (place : Place) (old : Option Named) (b : Actor) → HadOld old
      → Tells (stands e me n place old b)
  stands-tells n place None b had = tt
  stands-tells n place (Some h) b had = hands-tells (Moving h.name n place) h b had

  module _ (ask : Ask) (had : HadOld ask.old) where
    placed-tells : (b : Actor) (o : Option Spot) → Tells (placed_by e me ask b o)
    placed-tells b None = tt
    placed-tells b (Some spot) =
        stands-tells ask.name (place_at b.instance spot ask.need) ask.old
        (holding ask.name spot
        (record b { instance = placing_at b.instance spot ask.need ask.name })) had

    created-tells : (p : CarrierPlan) (b : Actor) (single : Bool)
        → Tells (created_by e me ask p b single)
    created-tells p b true = stands-tells ask.name (single_place p ask.need) ask.old
        (holding ask.name (spot_of_place (single_place p ask.need))
        (record b { instance = creating_single b.instance p ask.need ask.name })) had
    created-tells p b false = placed-tells (record b { instance = creating b.instance p })
        (chosen_spot (creating b.instance p) ask.need)

    making-tells : (p : CarrierPlan) (b : Actor) (on : Bool) → Tells (making e me ask p b on)
    making-tells p b true = tt
    making-tells p b false = created-tells p b p.single

    planned-tells : (looked : ℕ) (b : Actor) (o : Result CarrierPlan NoCarrier)
        → Tells (new_carrier_by e me ask looked b o)
    planned-tells looked b (Ok p) = making-tells p b (migration e)
    planned-tells looked b (Err why) = tt

    new-tells : (looked : ℕ) (b : Actor) → Tells (new_carrier e me ask looked b)
    new-tells looked b = planned-tells looked b (plan b.instance ask.need)

    searched_by-tells : (x : Search) (b : Actor) (more : Bool)
        → Tells (searched_by e me ask x b more)
    searched_by-tells x b true = tt
    searched_by-tells x b false = new-tells (looked_in x.part) b

    search-tells : (x : Search) (b : Actor) → Tells (search_on e me ask x b)
    search-tells x b = searched_by-tells x (record b { lists = x.lists }) (goes_on x.part)

    search_if-tells : (b : Actor) (on : Bool) → Tells (search_if e me ask b on)
    search_if-tells b true = search-tells (new_search (greatest_number e) b.lists) b
    search_if-tells b false = new-tells 0 b

    chosen-tells : (b : Actor) (o : Option Spot) → Tells (chosen_by e me ask b o)
    chosen-tells b (Some spot) = placed-tells b (Some spot)
    chosen-tells b None = search_if-tells (refills b) (migration e)

    seek_by-tells : (b : Actor) (alone : Bool) → Tells (seek_by e me ask b alone)
    seek_by-tells b true = new-tells 0 (refills b)
    seek_by-tells b false = chosen-tells b (chosen_spot b.instance ask.need)

    seek-tells : (b : Actor) → Tells (seek e me ask b)
    seek-tells b = seek_by-tells b (is_alone b.instance ask.need)

  decided-tells : (h : Named) (fresh need : ℕ) (b : Actor) (d : Decision) → HadIf h
      → Tells (reallocated_by e me h fresh need b d)
  decided-tells h fresh need b Move had =
      seek-tells (record { name = fresh; need = need; old = Some h }) had b
  decided-tells h fresh need b Stay had = tt
  decided-tells h fresh need b ShrinkHere had = tt
  decided-tells h fresh need b GrowHere had = tt
  decided-tells h fresh need b (ShrinkCarrier pages) had = tt

  realloc-tells : (n fresh need : ℕ) (b : Actor) (o : Option Named) → HadOld o
      → Tells (reallocated e me n fresh need b o)
  realloc-tells n fresh need b None had = tt
  realloc-tells n fresh need b (Some h) had =
      decided-tells h fresh need b (decision_at b.instance h.spot need) had

  free-tells : (n : ℕ) (b : Actor) (o : Option Named) → HadOld o → Tells (freed e me n b o)
  free-tells n b None had = tt
  free-tells n b (Some h) had = hands-tells (Freeing n) h b had

  give-tells : (n to : ℕ) (b : Actor) (o : Option Named) → Tells (giving n to b o)
  give-tells n to b None = tt
  give-tells n to b (Some h) = tt

  -- a name that is held then was held before
  held-had : (n : ℕ) (held : List Named) (o : Option Named) → held ≡ a.held
      → named_at n held ≡ o → HadOld o
  held-had n held None same q = tt
  held-had n held (Some h) same q = λ off. inl (subst (λ m. named_at m a.held ≡ Some h)
      (sym (item_at-key name_of n h held q)) (sym (ap (named_at n) same) ∙ q))

  itself-tells : (b : Actor) (ops : List Op) → b.held ≡ a.held → Tells (itself e me b ops)
  itself-tells b [] same = tt
  itself-tells b (op.Alloc n bytes ∷ ops) same =
      seek-tells (record { name = n; need = need_of bytes; old = None }) tt b
  itself-tells b (op.Free n ∷ ops) same =
      free-tells n b (named_at n b.held) (held-had n b.held (named_at n b.held) same refl)
  itself-tells b (op.Realloc n fresh bytes ∷ ops) same =
      realloc-tells n fresh (need_of bytes) b (named_at n b.held)
      (held-had n b.held (named_at n b.held) same refl)
  itself-tells b (op.Give n to ∷ ops) same = give-tells n to b (named_at n b.held)
  itself-tells b (op.Take n tries ∷ ops) same = tt
  itself-tells b (op.Info ∷ ops) same = tt
  itself-tells b (op.Idle ∷ ops) same = tt

  onward-by : (b : Actor) (st : Stage Content) → b.stage ≡ st → TellsAt b st
      → Tells (onward_at e me b st)
  onward-by b Ready q t = itself-tells b b.todo t
  onward-by b Begin q t = subst (TellsAt b) (sym q) t
  onward-by b (Routed r y g) q t = subst (TellsAt b) (sym q) t
  onward-by b (Collecting c) q t = subst (TellsAt b) (sym q) t
  onward-by b (Searching ask n part) q t = subst (TellsAt b) (sym q) t
  onward-by b (Fetching ask n part seen) q t = subst (TellsAt b) (sym q) t
  onward-by b (Creating ask p) q t = subst (TellsAt b) (sym q) t
  onward-by b (Giving g to) q t = subst (TellsAt b) (sym q) t
  onward-by b (Taking n tries left) q t = subst (TellsAt b) (sym q) t
  onward-by b Ended q t = subst (TellsAt b) (sym q) t

  onward-tells : (b : Actor) → Tells b → Tells (onward e me b)
  onward-tells b t = onward-by b b.stage refl t

  -- the walk of a begin

  worked-tells : (ns : List Node) → All HadNode ns → (b : Actor) → b.held ≡ a.held
      → Tells (worked_off e me ns b)
  worked-tells [] had b same = same
  worked-tells (Carrier c ∷ ns) had b same = tt
  worked-tells (Block n p ∷ ns) had b same =
      let h : Named = record { name = n; spot = p } in
      let t : Turned = route_of e me h (record b { passed = ns }) in
      by t.gone t.actor t.route
      (route-tells h (record b { passed = ns }) (All-head HadNode (Block n p) ns had))
      (worked-tells ns (All-tail HadNode (Block n p) ns had) t.actor
      ((route-short e me h (record b { passed = ns })).1.5 ∙ same))
    where
      by : (g : Gone) (d : Actor) (o : Option (Route Content)) → TellsNext o
          → Tells (worked_off e me ns d)
          → Tells (carried_by Walk (λ gone x. worked_off e me ns x) g d o)
      by g d None t off = off
      by g d (Some r) t off = t

  -- the nodes of the walk
  walk-had : All HadNode (with_passed a.next a.passed)
  walk-had = All-weaker (Contains (with_passed a.next a.passed)) HadNode each
      (with_passed a.next a.passed) (All-contains_itself (with_passed a.next a.passed))
    where
      each : (node : Node) → Contains (with_passed a.next a.passed) node → HadNode node
      each (Block n p) is = λ off. inr is
      each (Carrier c) is = tt

  passed-had : All HadNode a.passed
  passed-had = by a.next walk-had where
    by : (o : Option Node) → All HadNode (with_passed o a.passed) → All HadNode a.passed
    by None had = had
    by (Some node) had = All-tail HadNode node a.passed had

  passed_on-tells : (o : Option Node) → Tells (passed_on e me a o)
  passed_on-tells (Some node) = tt
  passed_on-tells None =
      worked-tells (with_passed a.next a.passed) walk-had (record a { next = None }) refl

  taken-tells : (o : Option Node) → Tells (taken a o)
  taken-tells None = refl
  taken-tells (Some node) = tt

  begun-tells : (r : Answer) → Tells (begun e me a r)
  begun-tells (Head o) = taken-tells o
  begun-tells Rests = refl
  begun-tells (Passes o) = passed_on-tells o
  begun-tells Done = tt
  begun-tells (Saw v) = tt
  begun-tells (Won x) = tt
  begun-tells (Lost v) = tt
  begun-tells (Home x) = tt
  begun-tells (Got p) = tt

  -- a route goes on

  module _ (h : Named) (why : Why) (g : Gone) (now : a.stage ≡ Routed (Looking h) why g) where
    at-look : wants a ≡ Look h.spot.carrier
    at-look = ap (wants_at a.next) now

    module _ (v : OwnerWord) (saw : answered w me ≡ Saw v) where
      sees : (to : ℕ) → ShowsEmployer to v → Brings e me (block_node h) to w
      sees to shows = Sees h v why g now saw shows refl

      own : (i l : ℕ) → v ≡ word.Pooled i l → (i == me) ≡ true
          → ShowsOwn me h.spot.carrier (word.Pooled i l) w
      own i l q mine =
          let is : word.Pooled i l ≡ word.Pooled me l =
          ap (λ j. word.Pooled j l) (eqb-true i me mine) in
          let there = pooled-place (w.shared.places h.spot.carrier) me l
          (saw-word me h.spot.carrier w v
          (sym (ap (λ row. answer me row w.shared) at-look) ∙ saw) ∙ q ∙ is) in
          record {
            shows = record { looks = at-look; saw = saw ∙ ap Saw q };
            largest = l;
            content = there.0;
            is = is;
            pooled = there.1;
          }

      employed-tells : (mine : Bool) (i : ℕ) → v ≡ word.Employed i
          → TellsNext (employed_by e me mine i h g a).route
      employed-tells true i q = here-tells h g a
      employed-tells false i q = sees i (subst (ShowsEmployer i) (sym q) refl)

      pooled-tells : (mine : Bool) (i l : ℕ) → (i == me) ≡ mine → v ≡ word.Pooled i l
          → TellsNext (pooled_by mine i l h g a).route
      pooled-tells true i l m q = own i l q m
      pooled-tells false i l m q = sees i (subst (ShowsEmployer i) (sym q) refl)

      looked-tells : (u : OwnerWord) → v ≡ u → TellsNext (looked e me h g a u).route
      looked-tells word.Absent q = tt
      looked-tells (word.Employed i) q = employed-tells (i == me) i q
      looked-tells (word.Pooled i l) q = pooled-tells (i == me) i l refl q
      looked-tells (word.Busy i) q = sees i (subst (ShowsEmployer i) (sym q) refl)
      looked-tells (word.Returning i) q = tt

    looked_at-tells : (r : Answer) → answered w me ≡ r → TellsNext (looked_at e me h g a r).route
    looked_at-tells (Saw v) q = looked-tells v q v refl
    looked_at-tells Done q = tt
    looked_at-tells (Head n) q = tt
    looked_at-tells Rests q = tt
    looked_at-tells (Passes n) q = tt
    looked_at-tells (Won x) q = tt
    looked_at-tells (Lost v) q = tt
    looked_at-tells (Home x) q = tt
    looked_at-tells (Got p) q = tt

  module _ (h : Named) (seen : OwnerWord) (why : Why) (g : Gone)
      (now : a.stage ≡ Routed (Trying h seen) why g) where
    loses : (v : OwnerWord) → answered w me ≡ Lost v → (to : ℕ) → ShowsEmployer to v
        → Brings e me (block_node h) to w
    loses v lost to shows = Loses h seen v why g now lost shows refl

    forwarded-tells : (v : OwnerWord) → answered w me ≡ Lost v
        → TellsNext (forwarded h g a v).route
    forwarded-tells word.Absent q = tt
    forwarded-tells (word.Employed i) q = loses (word.Employed i) q i refl
    forwarded-tells (word.Pooled i l) q = loses (word.Pooled i l) q i refl
    forwarded-tells (word.Busy i) q = loses (word.Busy i) q i refl
    forwarded-tells (word.Returning i) q = tt

    tried-tells : (r : Answer) → answered w me ≡ r → TellsNext (tried h g a r).route
    tried-tells (Lost v) q = forwarded-tells v q
    tried-tells (Won x) q = tt
    tried-tells (Saw v) q = tt
    tried-tells Done q = tt
    tried-tells (Head n) q = tt
    tried-tells Rests q = tt
    tried-tells (Passes n) q = tt
    tried-tells (Home x) q = tt
    tried-tells (Got p) q = tt

  settled-tells : (empty : Bool) (x : Content) (g : Gone)
      → TellsNext (settled e me empty x g a).route
  settled-tells true x g =
      leaving-tells (owner_of x.number == me) (migration e) x g (struck x.number a)
  settled-tells false x g = tt

  turned-tells : (route : Route Content) (why : Why) (g : Gone) → a.stage ≡ Routed route why g
      → (r : Answer) → answered w me ≡ r → TellsNext (turned e me route g a r).route
  turned-tells (Looking h) why g now r q = looked_at-tells h why g now r q
  turned-tells (Trying h seen) why g now r q = tried-tells h seen why g now r q
  turned-tells (Settling x) why g now r q = settled-tells (is_nil x.blocks) x g
  turned-tells (Abandoning x) why g now r q = tt
  turned-tells (Sending x) why g now r q = Sends x (ap (wants_at a.next) now) refl refl
  turned-tells (Clearing x) why g now r q = tt
  turned-tells (Pushing node to) why g now r q = ap (wants_at a.next) now
  turned-tells (Linking node to) why g now r q = tt

  routed-by : (why : Why) (t : Turned) → TellsNext t.route → t.actor.passed ≡ a.passed
      → t.actor.held ≡ a.held → Tells (carried_by why (after_route e me why) t.gone t.actor t.route)
  routed-by why t tells passes same = by why t.gone t.actor t.route tells passes same
    where
      by : (why : Why) (g : Gone) (d : Actor) (o : Option (Route Content)) → TellsNext o
          → d.passed ≡ a.passed → d.held ≡ a.held
          → Tells (carried_by why (after_route e me why) g d o)
      by why g d (Some r) tells passes same = tells
      by Walk g d None tells passes same =
          worked-tells d.passed (subst (All HadNode) (sym passes) passed-had) d same
      by (For task) g d None tells passes same = tt

  -- a search

  saw-tells : (ask : Ask) → HadOld ask.old → (n : ℕ) (part old : Part) (v : OwnerWord)
      → a.stage ≡ Searching ask n old → answered w me ≡ Saw v → (fit : Bool)
      → Tells (saw_by e me ask n part a v fit)
  saw-tells ask had n part old v now q true =
      record { looks = ap (wants_at a.next) now; saw = q }
  saw-tells ask had n part old v now q false =
      search-tells ask had (passed (greatest_number e) a.lists n part v) a

  searched-tells : (ask : Ask) → HadOld ask.old → (n : ℕ) (part : Part)
      → a.stage ≡ Searching ask n part → (r : Answer) → answered w me ≡ r
      → Tells (searched e me ask n part a r)
  searched-tells ask had n part now (Saw v) q =
      saw-tells ask had n (with_counted v part) part v now q (fits ask.need v)
  searched-tells ask had n part now Done q = tt
  searched-tells ask had n part now (Head x) q = tt
  searched-tells ask had n part now Rests q = tt
  searched-tells ask had n part now (Passes x) q = tt
  searched-tells ask had n part now (Won x) q = tt
  searched-tells ask had n part now (Lost x) q = tt
  searched-tells ask had n part now (Home x) q = tt
  searched-tells ask had n part now (Got x) q = tt

  fetched-tells : (ask : Ask) → HadOld ask.old → (n : ℕ) (part : Part) (r : Answer)
      → Tells (fetched e me ask n part a r)
  fetched-tells ask had n part (Won x) = placed-tells ask had (fetches n x a)
      (chosen_spot (fetches n x a).instance ask.need)
  fetched-tells ask had n part (Lost v) =
      search-tells ask had (passed (greatest_number e) a.lists n part v) a
  fetched-tells ask had n part Done = tt
  fetched-tells ask had n part (Head x) = tt
  fetched-tells ask had n part Rests = tt
  fetched-tells ask had n part (Passes x) = tt
  fetched-tells ask had n part (Saw x) = tt
  fetched-tells ask had n part (Home x) = tt
  fetched-tells ask had n part (Got x) = tt

  took_by-tells : (n tries left : ℕ) (o : Option Spot) → Tells (took_by n tries left a o)
  took_by-tells n tries left (Some spot) = tt
  took_by-tells n tries zero None = tt
  took_by-tells n tries (suc zero) None = tt
  took_by-tells n tries (suc (suc left)) None = tt

  took-tells : (n tries left : ℕ) (r : Answer) → Tells (took n tries left a r)
  took-tells n tries left (Got o) = took_by-tells n tries left o
  took-tells n tries left Done = tt
  took-tells n tries left (Head x) = tt
  took-tells n tries left Rests = tt
  took-tells n tries left (Passes x) = tt
  took-tells n tries left (Saw x) = tt
  took-tells n tries left (Won x) = tt
  took-tells n tries left (Lost x) = tt
  took-tells n tries left (Home x) = tt

  -- where carriers migrate nothing is said of an old block
  migrates-had : migration e ≡ true → (o : Option Named) → HadOld o
  migrates-had on None = tt
  migrates-had on (Some h) = λ off. absurd (true≢false (sym on ∙ off))

  row-tells : (st : Stage Content) → a.stage ≡ st → Fits e w me a st
      → Tells (after_row e me a (answered w me) st)
  row-tells Begin q fit = begun-tells (answered w me)
  row-tells (Routed route why g) q fit =
      let t : Turned = turned e me route g a (answered w me) in
      let s = (turned-short e me route g a (answered w me)).1 in
      routed-by why t (turned-tells route why g q (answered w me) refl) s.0 s.5
  row-tells (Collecting c) q fit = worked-tells a.passed passed-had _ refl
  row-tells (Searching ask n part) q fit =
      searched-tells ask (migrates-had fit.4 ask.old) n part q (answered w me) refl
  row-tells (Fetching ask n part seen) q fit =
      fetched-tells ask (migrates-had fit.3 ask.old) n part (answered w me)
  row-tells (Creating ask p) q fit =
      created-tells ask (migrates-had fit.2 ask.old) p a p.single
  row-tells (Giving h to) q fit = tt
  row-tells (Taking n tries left) q fit = took-tells n tries left (answered w me)
  row-tells Ended q fit = subst (TellsAt a) (sym q) tt
  row-tells Ready q fit = absurd fit

  step-tells : Rule e w → a.stage ≢ Ended → Tells ((step e w me).actors me)
  step-tells rule goes = subst Tells (sym (step-mine e w me goes))
      (onward-tells (advanced e w me) (row-tells a.stage refl (rule.present.fits me)))

module _ (e : Setup) where
  -- one turn more, of the scheduler itself or of another
  last-here : (L : List ℕ) (s : ℕ) (Was : State → Type 0) → Was (run e L)
      → LastStep e (L ++ s ∷ []) s Was
  last-here L s Was was = record {
    before = L;
    others = [];
    split = refl;
    alone = All-nil (λ i. i ≢ s);
    was = was;
  }

  last-other : (L : List ℕ) (s j : ℕ) (Was : State → Type 0) → j ≢ s → LastStep e L s Was
      → LastStep e (L ++ j ∷ []) s Was
  last-other L s j Was ne h = record {
    before = h.before;
    others = h.others ++ j ∷ [];
    split = longer L h.before h.others s j h.split;
    alone = All-append (λ i. i ≢ s) h.others (j ∷ []) h.alone
        (All-cons (λ i. i ≢ s) j [] ne (All-nil (λ i. i ≢ s)));
    was = h.was;
  }

  -- what the last step of a scheduler was, by where it is
  abbrev OfRoute : List ℕ → ℕ → Route Content → Type 0
  OfRoute L s (Looking h) = Unit {0}
  OfRoute L s (Trying h seen) = LastStep e L s (ShowsOwn s h.spot.carrier seen)
  OfRoute L s (Settling x) = Unit {0}
  OfRoute L s (Abandoning x) = Unit {0}
  OfRoute L s (Sending x) = Unit {0}
  OfRoute L s (Clearing x) = Unit {0}
  OfRoute L s (Pushing node to) = LastStep e L s (Brings e s node to)
  OfRoute L s (Linking node to) = LastStep e L s (Pushes s node to)

  abbrev OfStage : List ℕ → ℕ → Stage Content → Type 0
  OfStage L s Begin = Unit {0}
  OfStage L s (Routed route why gone) = OfRoute L s route
  OfStage L s (Collecting c) = Unit {0}
  OfStage L s (Searching ask n part) = Unit {0}
  OfStage L s (Fetching ask n part seen) = LastStep e L s (Shows s n seen)
  OfStage L s (Creating ask p) = Unit {0}
  OfStage L s (Giving h to) = Unit {0}
  OfStage L s (Taking n tries left) = Unit {0}
  OfStage L s Ended = Unit {0}
  OfStage L s Ready = Unit {0}

  here-route : (L : List ℕ) (s : ℕ) (route : Route Content) → TellsRoute e (run e L) s route
      → OfRoute (L ++ s ∷ []) s route
  here-route L s (Looking h) t = tt
  here-route L s (Trying h seen) t = last-here L s (ShowsOwn s h.spot.carrier seen) t
  here-route L s (Settling x) t = tt
  here-route L s (Abandoning x) t = tt
  here-route L s (Sending x) t = tt
  here-route L s (Clearing x) t = tt
  here-route L s (Pushing node to) t = last-here L s (Brings e s node to) t
  here-route L s (Linking node to) t = last-here L s (Pushes s node to) t

  here-stage : (L : List ℕ) (s : ℕ) (b : Actor) (st : Stage Content) → TellsAt e (run e L) s b st
      → OfStage (L ++ s ∷ []) s st
  here-stage L s b Begin t = tt
  here-stage L s b (Routed route why gone) t = here-route L s route t
  here-stage L s b (Collecting c) t = tt
  here-stage L s b (Searching ask n part) t = tt
  here-stage L s b (Fetching ask n part seen) t = last-here L s (Shows s n seen) t
  here-stage L s b (Creating ask p) t = tt
  here-stage L s b (Giving h to) t = tt
  here-stage L s b (Taking n tries left) t = tt
  here-stage L s b Ended t = tt
  here-stage L s b Ready t = tt

  other-route : (L : List ℕ) (s j : ℕ) → j ≢ s → (route : Route Content) → OfRoute L s route
      → OfRoute (L ++ j ∷ []) s route
  other-route L s j ne (Looking h) t = tt
  other-route L s j ne (Trying h seen) t =
      last-other L s j (ShowsOwn s h.spot.carrier seen) ne t
  other-route L s j ne (Settling x) t = tt
  other-route L s j ne (Abandoning x) t = tt
  other-route L s j ne (Sending x) t = tt
  other-route L s j ne (Clearing x) t = tt
  other-route L s j ne (Pushing node to) t = last-other L s j (Brings e s node to) ne t
  other-route L s j ne (Linking node to) t = last-other L s j (Pushes s node to) ne t

  other-stage : (L : List ℕ) (s j : ℕ) → j ≢ s → (st : Stage Content) → OfStage L s st
      → OfStage (L ++ j ∷ []) s st
  other-stage L s j ne Begin t = tt
  other-stage L s j ne (Routed route why gone) t = other-route L s j ne route t
  other-stage L s j ne (Collecting c) t = tt
  other-stage L s j ne (Searching ask n part) t = tt
  other-stage L s j ne (Fetching ask n part seen) t = last-other L s j (Shows s n seen) ne t
  other-stage L s j ne (Creating ask p) t = tt
  other-stage L s j ne (Giving h to) t = tt
  other-stage L s j ne (Taking n tries left) t = tt
  other-stage L s j ne Ended t = tt
  other-stage L s j ne Ready t = tt

  module _ (rules : (L : List ℕ) → Rule e (run e L)) where
    abbrev EachSo : List ℕ → Type 0
    EachSo L = (s : ℕ) → OfStage L s (actor_after e L s).stage

    mine : (L : List ℕ) (s : ℕ) → OfStage (L ++ s ∷ []) s (actor_after e (L ++ s ∷ []) s).stage
    mine L s = elim (ended-or (actor_after e L s).stage) [
      | inl q ↦ subst (OfStage (L ++ s ∷ []) s)
          (sym (ap (λ (v : State). (v.actors s).stage)
          (run-snoc e L s ∙ step-ended e (run e L) s q) ∙ q)) tt
      | inr goes ↦ subst (λ (v : State). OfStage (L ++ s ∷ []) s (v.actors s).stage)
          (sym (run-snoc e L s))
          (here-stage L s ((step e (run e L) s).actors s) ((step e (run e L) s).actors s).stage
          (step-tells e (run e L) s (rules L) goes))
    ]

    next : (L : List ℕ) (j : ℕ) → EachSo L → EachSo (L ++ j ∷ [])
    next L j h s = elim (cases_eq j s) [
      | inl q ↦ subst (λ i. OfStage (L ++ i ∷ []) s (actor_after e (L ++ i ∷ []) s).stage) (sym q)
          (mine L s)
      | inr ne ↦ subst (OfStage (L ++ j ∷ []) s)
          (sym (ap (λ (v : State). (v.actors s).stage) (run-snoc e L j)
          ∙ ap (λ (b : Actor). b.stage) (step-other e (run e L) j s (λ q. ne (sym q)))))
          (other-stage L s j ne (actor_after e L s).stage (h s))
    ]

    first : EachSo []
    first s = by (is_scheduler e s) where
      by : (b : Bool) → OfStage [] s (first_stage e b)
      by true = tt
      by false = tt

    so-far : (L : List ℕ) (s : ℕ) → OfStage L s (actor_after e L s).stage
    so-far = by-turns EachSo next first

    module _ (L : List ℕ) (s : ℕ) where
      abbrev now : Actor
      now = actor_after e L s

      begin-grounded : (o : Option Node) → IsGrounded e L s (begins o)
      begin-grounded None = tt
      begin-grounded (Some node) = tt

      route-grounded : (route : Route Content) (why : Why) (gone : Gone)
          → now.stage ≡ Routed route why gone → OfRoute L s route
          → IsGrounded e L s (wants_on route)
      route-grounded (Looking h) why gone q t = tt
      route-grounded (Trying h seen) why gone q t = t
      route-grounded (Settling x) why gone q t = tt
      route-grounded (Abandoning x) why gone q t = tt
      route-grounded (Sending x) why gone q t = tt
      route-grounded (Clearing x) why gone q t = tt
      route-grounded (Pushing node to) why gone q t = (
        subst (IsInHand s node to) (sym q) (record { block = λ f. refl; carrier = λ g. refl }),
        t,
      )
      route-grounded (Linking node to) why gone q t =
          let works : now.stage ≢ Ended = λ z. let no : Ended ≡ Routed (Linking node to) why gone =
          sym z ∙ q in cc in
          let seat = scheduler-seat e s (working-scheduler e (run e L) (rules L).kept s works) in
          (t, linking-unlinked e (run e L) (rules L) s seat why gone node to q)

      stage-grounded : (st : Stage Content) → now.stage ≡ st → OfStage L s st
          → IsGrounded e L s (wants_at now.next st)
      stage-grounded Begin q t = begin-grounded now.next
      stage-grounded (Routed route why gone) q t = route-grounded route why gone q t
      stage-grounded (Collecting c) q t = tt
      stage-grounded (Searching ask n part) q t = tt
      stage-grounded (Fetching ask n part seen) q t = t
      stage-grounded (Creating ask p) q t = tt
      stage-grounded (Giving h to) q t = tt
      stage-grounded (Taking n tries left) q t = tt
      stage-grounded Ended q t = tt
      stage-grounded Ready q t = tt

pub are-grounded : (e : Setup) → ((L : List ℕ) → Rule e (run e L)) → AreGrounded e
are-grounded e rules turns s = stage-grounded e rules turns s (actor_after e turns s).stage refl
    (so-far e rules turns s)
