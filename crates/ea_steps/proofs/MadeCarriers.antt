-- The operation itself makes one carrier at most, in which it places its block; and what it does to
-- the others.
use Rattle.std.proofs.Common.{◌≡◌, ◌≢◌, ◌⊎◌, ℕ, ◌+◌, List, [], ◌∷◌, ◌++◌, Bool, true}
use Rattle.std.proofs.Common.{false, refl, sym, ap, subst, ◌∙◌, inl, inr, arith}
use Rattle.std.specs.Prelude.{Option, None, Some, Result, Ok, Err}
use Rattle.ea_model.specs.declared.carriers.CarrierPlan.{CarrierPlan}
use Rattle.ea_model.specs.declared.carriers.Kind.TheVariants.{Multi}
use Rattle.ea_model.specs.declared.carriers.Place.{Place}
use Rattle.ea_model.specs.declared.carriers.Spot.{Spot}
use Rattle.ea_model.specs.declared.entries.Entry.TheVariants as entry
use Rattle.ea_model.specs.declared.entries.NoCarrier.{NoCarrier}
use Rattle.ea_model.specs.declared.operations.Op.{Op}
use Rattle.ea_model.specs.declared.operations.Op.TheVariants as op
use Rattle.ea_model.specs.declared.reallocation.Decision.{Decision}
use Rattle.ea_model.specs.declared.reallocation.Decision.TheVariants.{Stay, ShrinkHere, GrowHere}
use Rattle.ea_model.specs.declared.reallocation.Decision.TheVariants.{ShrinkCarrier, Move}
use Rattle.ea_model.specs.declared.units.TheConstants.{NUMBERS}
use Rattle.ea_model.specs.Content.{Content, is_vacant}
use Rattle.ea_model.specs.Entries.{Entry}
use Rattle.ea_model.specs.Instance.{Instance, chosen_spot, created_content, created_single}
use Rattle.ea_model.specs.Instance.{creating, creating_single, decision_at, first_number}
use Rattle.ea_model.specs.Instance.{free_run, is_alone, least_plan, numbered_plan, owner_of}
use Rattle.ea_model.specs.Instance.{place_at, placing_at, plan as plan_for, planned_own, refilled}
use Rattle.ea_model.specs.Instance.{resized_to, single_place, sized_plan, unused_from, wanted_pages}
use Rattle.ea_model.specs.Units.{least_pages, need_of}
use Rattle.ea_model.proofs.Options.{some_value}
use Rattle.ea_laws.specs.Kept.{own_number}
use Rattle.ea_laws.proofs.Keeping.{chosen-planned}
use Rattle.ea_machine.specs.declared.asks.Ask.{Ask}
use Rattle.ea_machine.specs.declared.nodes.Named.{Named}
use Rattle.ea_machine.specs.declared.owners.OwnerWord.{OwnerWord}
use Rattle.ea_machine.specs.declared.parts.Part.{Part}
use Rattle.ea_machine.specs.declared.stages.Route.{Route}
use Rattle.ea_machine.specs.declared.stages.Stage.TheVariants.{Ready}
use Rattle.ea_machine.specs.declared.tasks.Gone.{Gone}
use Rattle.ea_machine.specs.declared.tasks.Gone.TheVariants.{Open, Here, Queued}
use Rattle.ea_machine.specs.declared.tasks.Task.TheVariants.{Freeing, Moving}
use Rattle.ea_machine.specs.declared.tasks.Why.TheVariants.{For}
use Rattle.ea_machine.specs.Actor.{Actor}
use Rattle.ea_machine.specs.Nodes.{named_at}
use Rattle.ea_machine.specs.Operations.{freed, giving, itself}
use Rattle.ea_machine.specs.Placements.{chosen_by, created, created_by, fetched, fetches}
use Rattle.ea_machine.specs.Placements.{holding, making, new_carrier, new_carrier_by, placed_at}
use Rattle.ea_machine.specs.Placements.{placed_by, placed_in_choice, refills, saw_by, search_if}
use Rattle.ea_machine.specs.Placements.{search_on}
use Rattle.ea_machine.specs.Placements.{searched, searched_by, seek, seek_by, spot_of_place, stands}
use Rattle.ea_machine.specs.Reallocations.{reallocated, reallocated_by, resized_here}
use Rattle.ea_machine.specs.Rows.{Answer, Done, Head, Rests, Passes, Saw, Won, Lost, Home, Got}
use Rattle.ea_machine.specs.Searches.{Search, fits, goes_on, looked_in, new_search, passed}
use Rattle.ea_machine.specs.Searches.{with_counted}
use Rattle.ea_machine.specs.Setup.{Setup, greatest_number, migration}
use Rattle.ea_machine.specs.Tasks.{carried, let_go, logged, task_over}
use Rattle.ea_machine.specs.Releases.{route_of}
use Rattle.ea_sound.specs.Blocks.{employed_sum}
use Rattle.ea_sound.proofs.EmployedWeights.{employed_sum-creating, employed_sum-creating_single}
use Rattle.ea_sound.proofs.EmployedWeights.{employed_sum-employing}
use Rattle.ea_sound.proofs.KeyedWeights.{counts, sum-entered}
use Rattle.ea_sound.proofs.ShortRoutes.{route-short}
use Rattle.ea_sound.proofs.WorkNames.{carried-busy}
use Rattle.ea_steps.specs.Touched.{moved_at, placed_by as places_of}
use Rattle.ea_steps.proofs.CarrierWeights.{own_times, placing-weighs, resizing-created}
use Rattle.ea_steps.proofs.CarrierWeights.{resizing-owns, resizing-weighs}
use Rattle.ea_steps.proofs.KeptCarriers.{Comes, Hand, Keeps, MayGo, fetched_by, hand_of}
use Rattle.ea_steps.proofs.KeptCarriers.{hands-keeps, just}
use Rattle.ea_steps.proofs.KeptCarriers.{keeps-itself, keeps-on, nothing}

-- a scheduler tells where its block was placed: in one more entry than these, or by its stage
abbrev pub TellsPlace : List Entry → Actor → Place → Type 0
TellsPlace log b q = ((x : Entry) × (b.log ≡ log ++ x ∷ []) × (places_of x ≡ q ∷ [])
    × (moved_at b.stage ≡ []))
    ⊎ ((b.log ≡ log) × (moved_at b.stage ≡ q ∷ []))

abbrev pub Any : ℕ → Type 0
Any c = Unit {0}

abbrev pub Never : ℕ → Type 0
Never c = ⊥

-- an instance plans the same whatever its count is
least-refilled : (i : Instance) (need number : ℕ) (o : Option ℕ)
    → least_plan (refilled i) need number o ≡ least_plan i need number o
least-refilled i need number None = refl
least-refilled i need number (Some base) = refl

sized-refilled : (i : Instance) (need number : ℕ) (o : Option ℕ)
    → sized_plan (refilled i) need number o ≡ sized_plan i need number o
sized-refilled i need number None = least-refilled i need number (free_run i (least_pages need))
sized-refilled i need number (Some base) = refl

numbered-refilled : (i : Instance) (need : ℕ) (o : Option ℕ)
    → numbered_plan (refilled i) need o ≡ numbered_plan i need o
numbered-refilled i need None = refl
numbered-refilled i need (Some number) =
    sized-refilled i need number (free_run i (wanted_pages i need))

plan-refilled : (i : Instance) (need : ℕ) → plan_for (refilled i) need ≡ plan_for i need
plan-refilled i need =
    numbered-refilled i need (unused_from NUMBERS (first_number i.number) i.own)

module _ (e : Setup) (me : ℕ) (Going : Named → Type 0) where
  -- the own carrier of the block that goes, where carriers don't migrate
  abbrev pub OldGone : ℕ → Type 0
  OldGone c = (h : Named) × (Going h) × (migration e ≡ false) × (owner_of h.spot.carrier ≡ me)
      × (h.spot.carrier ≡ c)

  abbrev pub OldGoing : Option Named → Type 0
  OldGoing None = Unit {0}
  OldGoing (Some h) = migration e ≡ false → Going h

  -- a carrier was made as planned, and the block placed in it, as the scheduler tells
  pub record Grows (i : Instance) (log : List Entry) (plan : CarrierPlan) (b : Actor) : Type 1
    where
      pub need : ℕ
      pub planned : plan_for i need ≡ Ok plan
      pub new : Content
      pub number : new.number ≡ plan.number
      pub birth : new.birth ≡ plan.birth
      pub with_new : Instance
      pub sums : (f : Content → ℕ) → employed_sum f with_new ≡ f new + employed_sum f i
      pub owns : (c : ℕ)
          → own_times c with_new ≡ counts own_number c (planned_own plan) + own_times c i
      pub counted : with_new.created ≡ plan.birth
      pub place : Place
      pub told : TellsPlace log b place
      pub within : (place.carrier ≡ plan.number) ⊎ (is_vacant new ≡ true)
      pub keeps : Keeps (λ c. c ≡ place.carrier) Never OldGone with_new nothing b.instance
          (hand_of b)
      pub busy : b.stage ≢ Ready

  grows-refilled : (i : Instance) (log : List Entry) (p : CarrierPlan) (b : Actor)
      → Grows (refilled i) log p b → Grows i log p b
  grows-refilled i log p b grows = record {
    need = grows.need;
    planned = sym (plan-refilled i grows.need) ∙ grows.planned;
    new = grows.new;
    number = grows.number;
    birth = grows.birth;
    with_new = grows.with_new;
    sums = grows.sums;
    owns = grows.owns;
    counted = grows.counted;
    place = grows.place;
    told = grows.told;
    within = grows.within;
    keeps = grows.keeps;
    busy = grows.busy;
  }

  -- where the new block stands
  stands-told : (n : ℕ) (q : Place) (old : Option Named) (b : Actor)
      → TellsPlace b.log (stands e me n q old b) q
  stands-told n q None b = inl (entry.Alloc n q, refl, refl, refl)
  stands-told n q (Some h) b =
      let t = route_of e me h (let_go h.name b) in
      by t.route t.gone t.actor (route-short e me h (let_go h.name b)).1.3
    where
      more : (x : Entry) (c : Actor) → c.log ≡ b.log → c.log ++ x ∷ [] ≡ b.log ++ x ∷ []
      more x c same = ap (λ l. l ++ x ∷ []) same

      moved : (c : Actor) → c.log ≡ b.log
          → TellsPlace b.log (logged (entry.ReallocMoved h.name n q) c) q
      moved c same = inl (
        entry.ReallocMoved h.name n q,
        more (entry.ReallocMoved h.name n q) c same,
        refl,
        refl,
      )

      over : (g : Gone) (c : Actor) → c.log ≡ b.log
          → TellsPlace b.log (task_over (Moving h.name n q) g c) q
      over Open c same = moved c same
      over Here c same = moved c same
      over (Queued to) c same =
          inl (
            entry.ReallocQueued h.name n q to,
            more (entry.ReallocQueued h.name n q to) c same,
            refl,
            refl,
          )

      by : (r : Option (Route Content)) (g : Gone) (c : Actor) → c.log ≡ b.log
          → TellsPlace b.log (carried (For (Moving h.name n q)) (task_over (Moving h.name n q))
          (record { actor = c; route = r; gone = g })) q
      by None g c same = over g c same
      by (Some r) g c same = inr (same, refl)

  -- and the operation goes on, or is over
  stands-busy : (n : ℕ) (q : Place) (old : Option Named) (b : Actor)
      → (stands e me n q old b).stage ≢ Ready
  stands-busy n q None b = λ q. absurd cc
  stands-busy n q (Some h) b =
      let t = route_of e me h (let_go h.name b) in
      carried-busy e me 0 (Moving h.name n q) t.gone t.actor t.route

  module _ (Placed Cut Cleared : ℕ → Type 0) where
    abbrev pub OldMayGo : Option Named → Type 0
    OldMayGo None = Unit {0}
    OldMayGo (Some h) = MayGo Placed Cut Cleared e me h.spot.carrier

    stands-keeps : (n : ℕ) (q : Place) (old : Option Named) (b : Actor) → OldMayGo old
        → Comes Placed Cut Cleared b.instance nothing (stands e me n q old b)
    stands-keeps n q None b may = keeps-itself Placed Cut Cleared b.instance nothing
    stands-keeps n q (Some h) b may =
        hands-keeps Placed Cut Cleared e me (Moving h.name n q) h b may

    -- the block is placed at a spot
    placed_at-keeps : (ask : Ask) (b : Actor) (spot : Spot) → Placed spot.carrier
        → OldMayGo ask.old
        → Comes Placed Cut Cleared b.instance nothing (placed_at e me ask b spot)
    placed_at-keeps ask b spot may_place may =
        let i = placing_at b.instance spot ask.need ask.name in
        let c = holding ask.name spot (record b { instance = i }) in
        let d = placed_at e me ask b spot in
        keeps-on Placed Cut Cleared b.instance i d.instance nothing nothing (hand_of d)
        (record {
          created = refl;
          owns = λ n no. omega arith;
          weighs = λ f fits. omega (
            arith,
            placing-weighs f b.instance spot ask.need ask.name
                (fits.places spot.carrier may_place),
          );
        })
        (stands-keeps ask.name (place_at b.instance spot ask.need) ask.old c may)

  placed_at-busy : (ask : Ask) (b : Actor) (spot : Spot)
      → (placed_at e me ask b spot).stage ≢ Ready
  placed_at-busy ask b spot =
      stands-busy ask.name (place_at b.instance spot ask.need) ask.old
      (holding ask.name spot
      (record b { instance = placing_at b.instance spot ask.need ask.name }))

  choice-busy : (ask : Ask) (b : Actor) (o : Option Spot)
      → (placed_by e me ask b o).stage ≢ Ready
  choice-busy ask b None = λ q. absurd cc
  choice-busy ask b (Some spot) = placed_at-busy ask b spot

  old-may : (old : Option Named) → OldGoing old
      → (c : ℕ) → OldMayGo (λ n. n ≡ c) Never OldGone old
  old-may None going c = tt
  old-may (Some h) going c = λ off own. (h, going off, off, own, refl)

  -- a carrier is created, and the block placed
  created_by-grows : (ask : Ask) (p : CarrierPlan) (b : Actor) (single : Bool)
      → plan_for b.instance ask.need ≡ Ok p → OldGoing ask.old
      → Grows b.instance b.log p (created_by e me ask p b single)
  created_by-grows ask p b true is going =
      let i = creating_single b.instance p ask.need ask.name in
      let q = single_place p ask.need in
      let c = holding ask.name (spot_of_place q) (record b { instance = i }) in
      record {
        need = ask.need;
        planned = is;
        new = created_single b.instance.number p ask.need ask.name;
        number = refl;
        birth = refl;
        with_new = i;
        sums = λ f. employed_sum-creating_single f b.instance p ask.need ask.name;
        owns = λ n. sum-entered own_number (counts own_number n) (planned_own p) b.instance.own;
        counted = refl;
        place = q;
        told = stands-told ask.name q ask.old c;
        within = inl refl;
        keeps = stands-keeps (λ n. n ≡ p.number) Never OldGone ask.name q ask.old c
            (old-may ask.old going p.number);
        busy = stands-busy ask.name q ask.old c;
      }
  created_by-grows ask p b false is going =
      let i = creating b.instance p in
      let t = some_value (chosen_spot i ask.need) (chosen-planned b.instance ask.need p is) in
      subst (λ o. Grows b.instance b.log p (placed_by e me ask (record b { instance = i }) o))
      (sym t.1) (at_spot t.0)
    where
      at_spot : (spot : Spot) → Grows b.instance b.log p
          (placed_at e me ask (record b { instance = creating b.instance p }) spot)
      at_spot spot =
          let i = creating b.instance p in
          let c = record b { instance = i } in
          let j = placing_at i spot ask.need ask.name in
          record {
            need = ask.need;
            planned = is;
            new = created_content b.instance.number Multi p;
            number = refl;
            birth = refl;
            with_new = i;
            sums = λ f. employed_sum-creating f b.instance p;
            owns = λ n. sum-entered own_number (counts own_number n) (planned_own p)
                b.instance.own;
            counted = refl;
            place = place_at i spot ask.need;
            told = stands-told ask.name (place_at i spot ask.need) ask.old
                (holding ask.name spot (record b { instance = j }));
            within = inr refl;
            keeps = placed_at-keeps (λ n. n ≡ spot.carrier) Never OldGone ask c spot refl
                (old-may ask.old going spot.carrier);
            busy = stands-busy ask.name (place_at i spot ask.need) ask.old
                (holding ask.name spot (record b { instance = j }));
          }

  pub created-grows : (ask : Ask) (p : CarrierPlan) (b : Actor)
      → plan_for b.instance ask.need ≡ Ok p → OldGoing ask.old
      → Grows b.instance b.log p (created e me ask p b)
  created-grows ask p b is going = created_by-grows ask p b p.single is going

  -- what an operation does to carriers: none was made, or one
  module _ (Cut Cleared : ℕ → Type 0)
      (may : (h : Named) → Going h → MayGo Any Cut Cleared e me h.spot.carrier) where
    abbrev pub Stays : Instance → Hand → Actor → Type 1
    Stays i h b = Comes Any Cut Cleared i h b

    pub data Goes (i : Instance) (h : Hand) (log : List Entry) (b : Actor) : Type 1 where
      Same : (stays : Stays i h b) (busy : b.stage ≢ Ready) → Goes i h log b
      More : (off : migration e ≡ false) (plan : CarrierPlan) (grows : Grows i log plan b)
          → Goes i h log b

    -- whatever the count was before
    goes-refilled : (i : Instance) (h : Hand) (log : List Entry) (b : Actor)
        → Goes (refilled i) h log b → Goes i h log b
    goes-refilled i h log b (Same stays busy) = Same (record {
      created = stays.created;
      owns = stays.owns;
      weighs = stays.weighs;
    }) busy
    goes-refilled i h log b (More off plan grows) =
        More off plan (grows-refilled i log plan b grows)

    -- nothing is done to carriers
    idle : (b c : Actor) → c.instance ≡ b.instance → hand_of c ≡ nothing → c.stage ≢ Ready
        → Goes b.instance nothing b.log c
    idle b c same empty busy =
        Same (subst (λ i. Keeps Any Cut Cleared b.instance nothing i (hand_of c)) (sym same)
        (subst (λ h. Keeps Any Cut Cleared b.instance nothing b.instance h) (sym empty)
        (keeps-itself Any Cut Cleared b.instance nothing))) busy

    may-go : (old : Option Named) → OldGoing old → OldMayGo Any Cut Cleared old
    may-go None going = tt
    may-go (Some h) going = λ off own. may h (going off) off own

    placed-goes : (ask : Ask) (b : Actor) (spot : Spot) → OldGoing ask.old
        → Goes b.instance nothing b.log (placed_at e me ask b spot)
    placed-goes ask b spot going =
        Same (placed_at-keeps Any Cut Cleared ask b spot tt (may-go ask.old going))
        (placed_at-busy ask b spot)

    choice-goes : (ask : Ask) (b : Actor) (o : Option Spot) → OldGoing ask.old
        → Goes b.instance nothing b.log (placed_by e me ask b o)
    choice-goes ask b None going = idle b _ refl refl (λ q. absurd cc)
    choice-goes ask b (Some spot) going = placed-goes ask b spot going

    making-goes : (ask : Ask) (p : CarrierPlan) (b : Actor) (on : Bool)
        → migration e ≡ on → plan_for b.instance ask.need ≡ Ok p → OldGoing ask.old
        → Goes b.instance nothing b.log (making e me ask p b on)
    making-goes ask p b true m is going = idle b _ refl refl (λ q. absurd cc)
    making-goes ask p b false m is going = More m p (created-grows ask p b is going)

    planned-goes : (ask : Ask) (looked : ℕ) (b : Actor) (r : Result CarrierPlan NoCarrier)
        → plan_for b.instance ask.need ≡ r → OldGoing ask.old
        → Goes b.instance nothing b.log (new_carrier_by e me ask looked b r)
    planned-goes ask looked b (Ok p) is going = making-goes ask p b (migration e) refl is going
    planned-goes ask looked b (Err why) is going = idle b _ refl refl (λ q. absurd cc)

    new_carrier-goes : (ask : Ask) (looked : ℕ) (b : Actor) → OldGoing ask.old
        → Goes b.instance nothing b.log (new_carrier e me ask looked b)
    new_carrier-goes ask looked b going =
        planned-goes ask looked b (plan_for b.instance ask.need) refl going

    searched_by-goes : (ask : Ask) (x : Search) (b : Actor) (t : Bool) → OldGoing ask.old
        → Goes b.instance nothing b.log (searched_by e me ask x b t)
    searched_by-goes ask x b true going = idle b _ refl refl (λ q. absurd cc)
    searched_by-goes ask x b false going = new_carrier-goes ask (looked_in x.part) b going

    search-goes : (ask : Ask) (x : Search) (b : Actor) → OldGoing ask.old
        → Goes b.instance nothing b.log (search_on e me ask x b)
    search-goes ask x b going =
        searched_by-goes ask x (record b { lists = x.lists }) (goes_on x.part) going

    search_if-goes : (ask : Ask) (b : Actor) (on : Bool) → OldGoing ask.old
        → Goes b.instance nothing b.log (search_if e me ask b on)
    search_if-goes ask b true going =
        search-goes ask (new_search (greatest_number e) b.lists) b going
    search_if-goes ask b false going = new_carrier-goes ask 0 b going

    chosen-goes : (ask : Ask) (b : Actor) (o : Option Spot) → OldGoing ask.old
        → Goes b.instance nothing b.log (chosen_by e me ask b o)
    chosen-goes ask b (Some spot) going = placed-goes ask b spot going
    chosen-goes ask b None going =
        goes-refilled b.instance nothing b.log (search_if e me ask (refills b) (migration e))
        (search_if-goes ask (refills b) (migration e) going)

    seek_by-goes : (ask : Ask) (b : Actor) (alone : Bool) → OldGoing ask.old
        → Goes b.instance nothing b.log (seek_by e me ask b alone)
    seek_by-goes ask b true going =
        goes-refilled b.instance nothing b.log (new_carrier e me ask 0 (refills b))
        (new_carrier-goes ask 0 (refills b) going)
    seek_by-goes ask b false going = chosen-goes ask b (chosen_spot b.instance ask.need) going

    seek-goes : (ask : Ask) (b : Actor) → OldGoing ask.old
        → Goes b.instance nothing b.log (seek e me ask b)
    seek-goes ask b going = seek_by-goes ask b (is_alone b.instance ask.need) going

    -- after a look or a try of a search
    saw-goes : (ask : Ask) (n : ℕ) (part : Part) (b : Actor) (v : OwnerWord) (t : Bool)
        → OldGoing ask.old → Goes b.instance nothing b.log (saw_by e me ask n part b v t)
    saw-goes ask n part b v true going = idle b _ refl refl (λ q. absurd cc)
    saw-goes ask n part b v false going =
        search-goes ask (passed (greatest_number e) b.lists n part v) b going

    pub searched-goes : (ask : Ask) (n : ℕ) (part : Part) (b : Actor) (r : Answer)
        → OldGoing ask.old → Goes b.instance nothing b.log (searched e me ask n part b r)
    searched-goes ask n part b (Saw v) going =
        saw-goes ask n (with_counted v part) b v (fits ask.need v) going
    searched-goes ask n part b Done going = idle b _ refl refl (λ q. absurd cc)
    searched-goes ask n part b (Head o) going = idle b _ refl refl (λ q. absurd cc)
    searched-goes ask n part b Rests going = idle b _ refl refl (λ q. absurd cc)
    searched-goes ask n part b (Passes o) going = idle b _ refl refl (λ q. absurd cc)
    searched-goes ask n part b (Won x) going = idle b _ refl refl (λ q. absurd cc)
    searched-goes ask n part b (Lost v) going = idle b _ refl refl (λ q. absurd cc)
    searched-goes ask n part b (Home o) going = idle b _ refl refl (λ q. absurd cc)
    searched-goes ask n part b (Got o) going = idle b _ refl refl (λ q. absurd cc)

    choice-stays : (ask : Ask) (b : Actor) (o : Option Spot) → OldGoing ask.old
        → Stays b.instance nothing (placed_by e me ask b o)
    choice-stays ask b None going = keeps-itself Any Cut Cleared b.instance nothing
    choice-stays ask b (Some spot) going =
        placed_at-keeps Any Cut Cleared ask b spot tt (may-go ask.old going)

    pub fetched-goes : (ask : Ask) (n : ℕ) (part : Part) (b : Actor) (r : Answer)
        → OldGoing ask.old → Goes b.instance (fetched_by r) b.log (fetched e me ask n part b r)
    fetched-goes ask n part b (Won x) going =
        let c = fetches n x b in
        let d = placed_in_choice e me ask c in
        Same (keeps-on Any Cut Cleared b.instance c.instance d.instance (just x) nothing (hand_of d)
        (record {
          created = refl;
          owns = λ n no. omega arith;
          weighs = λ f fits. omega (arith, employed_sum-employing f.of b.instance x);
        })
        (choice-stays ask c (chosen_spot c.instance ask.need) going))
        (choice-busy ask c (chosen_spot c.instance ask.need))
    fetched-goes ask n part b (Lost v) going =
        search-goes ask (passed (greatest_number e) b.lists n part v) b going
    fetched-goes ask n part b Done going = idle b _ refl refl (λ q. absurd cc)
    fetched-goes ask n part b (Head o) going = idle b _ refl refl (λ q. absurd cc)
    fetched-goes ask n part b Rests going = idle b _ refl refl (λ q. absurd cc)
    fetched-goes ask n part b (Passes o) going = idle b _ refl refl (λ q. absurd cc)
    fetched-goes ask n part b (Saw v) going = idle b _ refl refl (λ q. absurd cc)
    fetched-goes ask n part b (Home o) going = idle b _ refl refl (λ q. absurd cc)
    fetched-goes ask n part b (Got o) going = idle b _ refl refl (λ q. absurd cc)

    -- a held block is released, given, taken, or takes another size
    freed-goes : (n : ℕ) (b : Actor) (o : Option Named) → ((h : Named) → o ≡ Some h → Going h)
        → Goes b.instance nothing b.log (freed e me n b o)
    freed-goes n b None going = idle b _ refl refl (λ q. absurd cc)
    freed-goes n b (Some h) going =
        let t = route_of e me h (let_go h.name b) in
        Same (hands-keeps Any Cut Cleared e me (Freeing n) h b (may h (going h refl)))
        (carried-busy e me 0 (Freeing n) t.gone t.actor t.route)

    giving-goes : (n to : ℕ) (b : Actor) (o : Option Named)
        → Goes b.instance nothing b.log (giving n to b o)
    giving-goes n to b None = idle b _ refl refl (λ q. absurd cc)
    giving-goes n to b (Some h) = idle b _ refl refl (λ q. absurd cc)

    resized-goes : (h : Named) (fresh need : ℕ) (b : Actor) → Cut h.spot.carrier
        → Goes b.instance nothing b.log (resized_here h fresh need b)
    resized-goes h fresh need b cut =
        let i = b.instance in
        let d = decision_at i h.spot need in
        let size = resized_to i h.spot need in
        Same (record {
          created = resizing-created d i h.spot size fresh;
          owns = λ n no. omega (arith, resizing-owns n d i h.spot size fresh);
          weighs = λ f fits. omega (
            arith,
            resizing-weighs f d i h.spot size fresh (fits.shortens h.spot.carrier cut),
          );
        }) (λ q. absurd cc)

    decided-goes : (h : Named) (fresh need : ℕ) (b : Actor) (d : Decision) → Going h
        → Cut h.spot.carrier
        → Goes b.instance nothing b.log (reallocated_by e me h fresh need b d)
    decided-goes h fresh need b Move going cut =
        seek-goes (record { name = fresh; need = need; old = Some h }) b (λ off. going)
    decided-goes h fresh need b Stay going cut = resized-goes h fresh need b cut
    decided-goes h fresh need b ShrinkHere going cut = resized-goes h fresh need b cut
    decided-goes h fresh need b GrowHere going cut = resized-goes h fresh need b cut
    decided-goes h fresh need b (ShrinkCarrier pages) going cut =
        resized-goes h fresh need b cut

    reallocated-goes : (n fresh need : ℕ) (b : Actor) (o : Option Named)
        → ((h : Named) → o ≡ Some h → Going h × Cut h.spot.carrier)
        → Goes b.instance nothing b.log (reallocated e me n fresh need b o)
    reallocated-goes n fresh need b None going = idle b _ refl refl (λ q. absurd cc)
    reallocated-goes n fresh need b (Some h) going =
        decided-goes h fresh need b (decision_at b.instance h.spot need) (going h refl).0
        (going h refl).1

    -- the block of the operation goes, or takes another size
    abbrev pub OpGoing : Actor → List Op → Type 0
    OpGoing b (op.Free n ∷ ops) = (h : Named) → named_at n b.held ≡ Some h → Going h
    OpGoing b (op.Realloc n fresh bytes ∷ ops) =
        (h : Named) → named_at n b.held ≡ Some h → Going h × Cut h.spot.carrier
    OpGoing b ops = Unit {0}

    pub itself-goes : (b : Actor) (ops : List Op) → OpGoing b ops
        → Goes b.instance nothing b.log (itself e me b ops)
    itself-goes b [] going = idle b _ refl refl (λ q. absurd cc)
    itself-goes b (op.Alloc n bytes ∷ ops) going =
        seek-goes (record { name = n; need = need_of bytes; old = None }) b tt
    itself-goes b (op.Free n ∷ ops) going = freed-goes n b (named_at n b.held) going
    itself-goes b (op.Realloc n fresh bytes ∷ ops) going =
        reallocated-goes n fresh (need_of bytes) b (named_at n b.held) going
    itself-goes b (op.Give n to ∷ ops) going = giving-goes n to b (named_at n b.held)
    itself-goes b (op.Take n tries ∷ ops) going = idle b _ refl refl (λ q. absurd cc)
    itself-goes b (op.Info ∷ ops) going = idle b _ refl refl (λ q. absurd cc)
    itself-goes b (op.Idle ∷ ops) going = idle b _ refl refl (λ q. absurd cc)
