-- What the rows ask for by which a scheduler searches, fetches and creates a carrier, and where
-- their answers leave it.
use Rattle.std.proofs.Common.{◌≡◌, ℕ, ◌*◌, ◌<◌, ◌≤◌, true, false, List, [], ◌∷◌, drop}
use Rattle.std.proofs.Common.{refl, sym, ap, ◌∙◌, subst, arith}
use Rattle.std.specs.Prelude.{Option, None, Some, IfSome, IsSome, All, option_map, Ok}
use Rattle.ea_model.specs.declared.carriers.CarrierPlan.{CarrierPlan}
use Rattle.ea_model.specs.declared.carriers.Spot.{Spot}
use Rattle.ea_model.specs.declared.carriers.Kind.TheVariants.{Multi}
use Rattle.ea_model.specs.declared.operations.Op.{Op}
use Rattle.ea_model.specs.declared.operations.Op.TheVariants as op
use Rattle.ea_model.specs.declared.units.TheConstants.{NUMBERS}
use Rattle.ea_model.specs.Content.{Content}
use Rattle.ea_model.specs.Employment.{employing}
use Rattle.ea_model.specs.Instance.{Instance, chosen_spot, content_of, employed}
use Rattle.ea_model.specs.Instance.{own_of, owner_of, plan}
use Rattle.ea_model.specs.Trace.{IsScheduler}
use Rattle.ea_model.proofs.Options.{if_some}
use Rattle.ea_laws.specs.Kept.{ContentsApart, IsLaidOut, IsSomeones}
use Rattle.ea_machine.specs.declared.parts.Part.{Part}
use Rattle.ea_machine.specs.declared.parts.Part.TheVariants.{Own, Traitors, Pool}
use Rattle.ea_machine.specs.declared.asks.Ask.{Ask}
use Rattle.ea_machine.specs.declared.nodes.Named.{Named}
use Rattle.ea_machine.specs.declared.owners.OwnerWord.{OwnerWord}
use Rattle.ea_machine.specs.declared.stages.Stage.{Stage}
use Rattle.ea_machine.specs.declared.stages.Stage.TheVariants.{Creating, Fetching, Searching}
use Rattle.ea_machine.specs.Actor.{Actor}
use Rattle.ea_machine.specs.Machine.{IsReached, after_row, onward, run}
use Rattle.ea_machine.specs.Lists.{times_listed}
use Rattle.ea_machine.specs.Owners as owners
use Rattle.ea_machine.specs.Searches.{goes_on, left_in}
use Rattle.ea_machine.specs.Nodes.{named_at, spot_named}
use Rattle.ea_machine.specs.Rows.{FetchTry, Won}
use Rattle.ea_machine.specs.Setup.{Setup, migration}
use Rattle.ea_machine.specs.Shared.{Shared}
use Rattle.ea_machine.specs.State.{State}
use Rattle.ea_machine.specs.Statistics.{observed}
use Rattle.ea_machine.specs.Table.{tried_at}
use Rattle.ea_sound.specs.Listed.{LooksAt}
use Rattle.ea_sound.specs.Present.{Asked, Fits, HasLeft, OfAsk}
use Rattle.ea_sound.proofs.Asked.{reached-rule}
use Rattle.ea_sound.proofs.AskedCalls as asks
use Rattle.ea_sound.proofs.CarrierCalls as carriers
use Rattle.ea_sound.proofs.Created.{scheduler-number}
use Rattle.ea_sound.proofs.Observed.{reached-observed, searched-observed}
use Rattle.ea_sound.proofs.Plans.{planned-number}
use Rattle.ea_sound.proofs.ReleasingCalls.{own-migrates}
use Rattle.ea_sound.proofs.WordCalls.{fetch-won}
use Rattle.ea_names.specs.Holding.{has_place}
use Rattle.ea_search.specs.Looks.{IsInList}
use Rattle.ea_shared.specs.Calls.{Did, Told}
use Rattle.ea_shared.specs.Carriers.{IsCarrier, IsPooled}
use Rattle.ea_sched.specs.declared.state.Scheduler.{Scheduler}
use Rattle.ea_sched.specs.Acting.{setup_for, standing_at}
use Rattle.ea_sched.specs.Asking.{HasMore, IsAsked, IsHere}
use Rattle.ea_sched.specs.Steps.{DidRow, IsReadyAt, ObservedRow}
use Rattle.ea_sched.proofs.Calling.{left-more}
use Rattle.ea_sched.proofs.CarrierCalling.{listed-once}
use Rattle.ea_sched.proofs.Doing.{Answered, answered-so}
use Rattle.ea_sched.proofs.AfterWalk.{next-placed}

-- the name that is asked for has a place
module _ (s : Scheduler) (ask : Ask) where
  asked-placed : (todo : List Op) → drop s.done s.text.now ≡ todo → OfAsk ask todo
      → has_place s.names.places ask.name ≡ true
  asked-placed [] left of = absurd of
  asked-placed (op.Alloc name bytes ∷ ops) left of =
      ap (has_place s.names.places) of.0 ∙ next-placed s (op.Alloc name bytes) ops left
  asked-placed (op.Realloc old name bytes ∷ ops) left of =
      ap (has_place s.names.places) of.0 ∙ next-placed s (op.Realloc old name bytes) ops left
  asked-placed todo left of = absurd of

-- a number of some scheduler's carriers
as-carrier : {n m number : ℕ} → n ≡ m → (0 < number) × (number ≤ m * NUMBERS)
    → IsCarrier n number
as-carrier same is = (is.0, omega (arith, is.1, ap (λ n. NUMBERS * n) same))

-- a scheduler that is ready for its row, at a stage
module _ {stage : Stage Content} (s : Scheduler) {told : Told} (h : IsReadyAt stage s told) where
  abbrev me : ℕ
  me = s.number

  abbrev e : Setup
  e = setup_for s

  -- it stands so in this state
  abbrev w : State
  w = run e h.turns

  reached : IsReached e w
  reached = (h.turns, refl)

  number : IsScheduler s.config.schedulers me
  number = (s.number_from, s.number_to)

  in_state : (at : Stage Content) → stage ≡ at → (w.actors me).stage ≡ at
  in_state at now = ap (λ (x : Actor). x.stage) h.actor ∙ now

  same-instance : (w.actors me).instance ≡ s.instance
  same-instance = ap (λ (x : Actor). x.instance) h.actor

  listed-here : (at : ℕ) → 1 ≤ times_listed at (w.actors me).lists
      → times_listed at s.lists.lists ≡ 1
  listed-here at there = omega (
    arith,
    listed-once s h at,
    subst (λ (x : Actor). 1 ≤ times_listed at x.lists) h.actor there,
  )

  -- before a number that is left
  stands-before : (e : Setup) (at : ℕ) (part : Part) → HasLeft e part
      → LooksAt e (w.actors me).lists at part
      → (1 ≤ left_in part) × IsInList part at s.lists.lists
  stands-before e at (Own left) some looks = (some.0, listed-here at looks)
  stands-before e at (Traitors left) some looks = (some.0, listed-here at looks)
  stands-before e at (Pool left looked) some looks = (some.0, tt)

  suits : (at : Stage Content) → stage ≡ at → Fits e w me (w.actors me) at
  suits at now = subst (Fits e w me (w.actors me)) (in_state at now)
      ((reached-rule s.config s.trace.now h.config h.trace w reached).present.fits me)

  -- what is asked for there
  module _ (ask : Ask) (asked : Asked e w (w.actors me) ask) where
    ask-more : HasMore s
    ask-more =
        let first = asks.asked-first s.config s.trace.now h.config h.trace w reached me number ask
        asked in
        left-more s.done s.text.now first.1 first.0
        (sym (ap (λ (x : Actor). x.todo) h.actor) ∙ first.2)

    -- may be asked for where carriers migrate
    module _ (on : migration e ≡ true) (t : Scheduler) (names : t.names ≡ s.names)
        (moves : t.migrates ≡ s.migrates) (i : Instance) where
      never : t.migrates ≡ false → ⊥
      never off = let no : true ≡ false = sym (moves ∙ s.migrates_so ∙ on) ∙ off in cc

      old-here : (o : Option Named) → ask.old ≡ o → IfSome o (IsHere i t)
      old-here None q = tt
      old-here (Some old) q = record {
        name = omega (
          arith,
          (asks.asked-old_name s.config s.trace.now h.config h.trace w reached me number ask
              asked old q).1,
          s.names_upto,
          ap (λ ns. ns.greatest) names,
        );
        block = λ off. absurd (never off);
        own = λ off. absurd (never off);
      }

      ask-asked : IsAsked i t ask
      ask-asked = record {
        even =
            asks.asked-even s.config s.trace.now h.config h.trace w reached me number ask asked;
        least =
            asks.asked-least s.config s.trace.now h.config h.trace w reached me number ask asked;
        fresh = record {
          place = ap (λ ns. has_place ns.places ask.name) names
              ∙ asked-placed s ask (drop s.done s.text.now) refl
              (subst (OfAsk ask) (ap (λ (x : Actor). x.todo) h.actor) asked.of);
          fresh = ap (λ ns. spot_named ask.name ns.held) names
              ∙ ap (option_map (λ (x : Named). x.spot))
              (ap (λ (x : Actor). named_at ask.name x.held) (sym h.actor)
              ∙ asks.asked-unheld s.config s.trace.now h.config h.trace w reached me number ask
              asked);
        };
        old = old-here ask.old refl;
      }

  -- a search is to look at its next number
  module _ (ask : Ask) (at : ℕ) (part : Part) (now : stage ≡ Searching ask at part) where
    searches : Fits e w me (w.actors me) (Searching ask at part)
    searches = suits (Searching ask at part) now

    pub search-on : migration e ≡ true
    search-on = searches.4

    pub search-carrier : {count : ℕ} → count ≡ s.config.schedulers → IsCarrier count at
    search-carrier same = as-carrier same (carriers.search-number s.config s.trace.now h.config
        h.trace w reached me number ask at part (in_state (Searching ask at part) now))

    pub search-next : goes_on part ≡ true
    search-next = searches.2

    pub search-before : (1 ≤ left_in part) × IsInList part at s.lists.lists
    search-before = stands-before e at part searches.1 searches.5

    pub search-more : HasMore s
    search-more = ask-more ask searches.0

    pub search-asked : (t : Scheduler) → t.names ≡ s.names → t.migrates ≡ s.migrates
        → IsAsked s.instance t ask
    search-asked t names moves = ask-asked ask searches.0 search-on t names moves s.instance

    observes : observed (standing_at (Searching ask at part) s)
        ≡ standing_at (Searching ask at part) s
    observes = subst (λ st. observed (standing_at st s) ≡ standing_at st s) now
        (subst (λ (x : Actor). observed x ≡ x) h.actor (reached-observed e me w reached))

    -- after its look the figures are observed as they were before
    pub search-observed : {t : Scheduler} {new : Told}
        → DidRow stage s t told new → ObservedRow stage s t told new
    search-observed {t} did = record {
      gone_on = t;
      row = did;
      is = sym (subst (λ (x : Actor). observed x ≡ x) (sym (did.is
          ∙ ap (λ at. onward e me (after_row e me (standing_at at s) did.got at)) now))
          (searched-observed (standing_at (Searching ask at part) s) observes refl e me search-on
          ask at part did.got));
    }

  -- a carrier is to be fetched
  module _ (ask : Ask) (at : ℕ) (part : Part) (seen : OwnerWord)
      (now : stage ≡ Fetching ask at part seen) where
    fetches : Fits e w me (w.actors me) (Fetching ask at part seen)
    fetches = suits (Fetching ask at part seen) now

    pub fetch-on : migration e ≡ true
    fetch-on = fetches.3

    pub fetch-carrier : {count : ℕ} → count ≡ s.config.schedulers → IsCarrier count at
    fetch-carrier same = as-carrier same (carriers.fetch-number s.config s.trace.now h.config
        h.trace w reached me number ask at part seen
        (in_state (Fetching ask at part seen) now))

    pub fetch-before : (1 ≤ left_in part) × IsInList part at s.lists.lists
    fetch-before = stands-before e at part fetches.1 fetches.5

    pub fetch-pooled : {count : ℕ} → count ≡ s.config.schedulers → IsPooled count seen
    fetch-pooled same =
        let (i, g, is, by, units) = carriers.fetch-seen s.config s.trace.now h.config h.trace w
        reached me number ask at part seen (in_state (Fetching ask at part seen) now) in
        let from = scheduler-number e i by in
        record {
          instance = i;
          largest = g;
          is = is;
          scheduler = (from.0, omega (arith, from.1, same));
          units = units;
        }

    pub fetch-more : HasMore s
    fetch-more = ask-more ask fetches.0

    pub fetch-asked : (i : Instance) (t : Scheduler) → t.names ≡ s.names
        → t.migrates ≡ s.migrates → IsAsked i t ask
    fetch-asked i t names moves = ask-asked ask fetches.0 fetch-on t names moves i

    -- the try was won
    module _ {new : Told} (x : Content) (did : Did me (FetchTry at seen) (Won x) told new) where
      u : Answered e me (standing_at stage s) (FetchTry at seen) (Won x) told new
      u = answered-so s.config s.trace.now me (standing_at stage s) (FetchTry at seen) (Won x)
          told new h did

      -- it stood so in this state
      abbrev v : State
      v = run e u.turns

      came : IsReached e v
      came = (u.turns, refl)

      there : (v.actors me).stage ≡ Fetching ask at part seen
      there = ap (λ (y : Actor). y.stage) u.actor ∙ now

      is-same : (v.actors me).instance ≡ s.instance
      is-same = ap (λ (y : Actor). y.instance) u.actor

      won : tried_at seen (v.shared.places at) ≡ Won x
      won = fetch-won me at v.shared seen x (sym u.answered)

      pub won-migrates : 0 < s.instance.settings.acul
      won-migrates = subst (λ (i : Instance). 0 < i.settings.acul) is-same
          (own-migrates s.config s.trace.now h.config h.trace v came me number fetch-on)

      won-number : x.number ≡ at
      won-number = carriers.fetched-number s.config s.trace.now h.config h.trace v came
          me number ask at part seen there x won

      pub won-new : content_of (employed s.instance) x.number ≡ None
      won-new = ap (content_of (employed s.instance)) won-number
          ∙ subst (λ (i : Instance). content_of (employed i) at ≡ None) is-same
          (carriers.fetched-none s.config s.trace.now h.config h.trace v came me number
          ask at part seen there x won)

      pub won-kind : x.kind ≡ Multi
      won-kind = carriers.fetched-many s.config s.trace.now h.config h.trace v came
          me number ask at part seen there x won

      pub won-laid : IsLaidOut x
      won-laid = carriers.fetched-laid s.config s.trace.now h.config h.trace v came
          me number ask at part seen there x won

      pub won-apart : All (ContentsApart x) (employed s.instance)
      won-apart = subst (λ (i : Instance). All (ContentsApart x) (employed i)) is-same
          (carriers.fetched-away s.config s.trace.now h.config h.trace v came me number
          ask at part seen there x won)

      pub won-someones : IsSomeones s.instance (own_of x)
      won-someones = subst (λ (i : Instance). IsSomeones i (own_of x)) is-same
          (carriers.fetched-someones s.config s.trace.now h.config h.trace v came me
          number ask at part seen there x won)

      pub won-choice : IsSome (chosen_spot (employing s.instance x) ask.need)
      won-choice = subst IsSome
          (sym (ap (λ i. chosen_spot (employing i x) ask.need) (sym is-same) ∙ chosen.1)) refl where
            chosen : (spot : Spot)
                × (chosen_spot (employing (v.actors me).instance x) ask.need ≡ Some spot)
            chosen = asks.fetched-chosen s.config s.trace.now h.config h.trace v came me
                number ask at part seen there x won

  -- a carrier is to be created
  module _ (ask : Ask) (p : CarrierPlan) (now : stage ≡ Creating ask p) where
    creates : Fits e w me (w.actors me) (Creating ask p)
    creates = suits (Creating ask p) now

    created-at : (owner_of p.number ≡ me) × (w.shared.places p.number ≡ owners.Absent)
    created-at = carriers.create-number s.config s.trace.now h.config h.trace w reached me number
        ask p (in_state (Creating ask p) now)

    pub create-on : migration e ≡ true
    create-on = creates.2

    pub create-plan : plan s.instance ask.need ≡ Ok p
    create-plan = subst (λ i. plan i ask.need ≡ Ok p) same-instance creates.1

    pub create-own : owner_of p.number ≡ me
    create-own = created-at.0

    pub create-carrier : {count : ℕ} → count ≡ s.config.schedulers → IsCarrier count p.number
    create-carrier same =
        let from = planned-number s.instance ask.need p create-plan in
        (omega (arith, from.0), below p.number created-at.0 same)
      where
        below : {count : ℕ} (n : ℕ) → owner_of n ≡ me → count ≡ s.config.schedulers
            → n ≤ NUMBERS * count
        below n own same = omega (arith, own, number.1, ap (λ k. NUMBERS * k) same)

    pub create-absent : IfSome told.shared (λ x. x.places p.number ≡ owners.Absent)
    create-absent = if_some told.shared (λ x. x ≡ w.shared) (λ x. x.places p.number ≡ owners.Absent)
        (λ x same. subst (λ (y : Shared). y.places p.number ≡ owners.Absent) (sym same)
        created-at.1) h.shares

    pub create-more : HasMore s
    create-more = ask-more ask creates.0

    pub create-asked : IsAsked s.instance s ask
    create-asked = ask-asked ask creates.0 create-on s refl refl s.instance
