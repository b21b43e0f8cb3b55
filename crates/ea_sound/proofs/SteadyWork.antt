-- The local work of a scheduler leaves it steady.
use Rattle.std.proofs.Common.{◌≡◌, ℕ, zero, suc, Bool, true, false, List, [], ◌∷◌, refl, sym}
use Rattle.std.proofs.Common.{ap, ◌∙◌}
use Rattle.std.specs.Prelude.{Option, Some, None, Result, Ok, Err}
use Rattle.std.proofs.lemmas.Bool.{true≢false}
use Rattle.ea_model.specs.declared.carriers.CarrierPlan.{CarrierPlan}
use Rattle.ea_model.specs.declared.carriers.Place.{Place}
use Rattle.ea_model.specs.declared.carriers.Spot.{Spot}
use Rattle.ea_model.specs.declared.entries.NoCarrier.{NoCarrier}
use Rattle.ea_model.specs.declared.operations.Op.{Op}
use Rattle.ea_model.specs.declared.operations.Op.TheVariants as op
use Rattle.ea_model.specs.declared.reallocation.Decision.{Decision}
use Rattle.ea_model.specs.declared.reallocation.Decision.TheVariants.{Stay, ShrinkHere, GrowHere}
use Rattle.ea_model.specs.declared.reallocation.Decision.TheVariants.{ShrinkCarrier, Move}
use Rattle.ea_model.specs.Instance.{chosen_spot, creating, creating_single, decision_at, is_alone}
use Rattle.ea_model.specs.Instance.{placing_at, plan}
use Rattle.ea_model.specs.Units.{need_of}
use Rattle.ea_model.specs.Content.{Content}
use Rattle.ea_machine.specs.Placements.{fetches, search_on}
use Rattle.ea_machine.specs.Searches.{Search, goes_on, looked_in, new_search, passed, with_counted}
use Rattle.ea_machine.specs.declared.parts.Part.{Part}
use Rattle.ea_machine.specs.declared.nodes.Node.{Node}
use Rattle.ea_machine.specs.declared.nodes.Node.TheVariants.{Block, Carrier}
use Rattle.ea_machine.specs.declared.owners.OwnerWord.{OwnerWord}
use Rattle.ea_machine.specs.declared.stages.Stage.{Stage}
use Rattle.ea_machine.specs.declared.stages.Stage.TheVariants.{Begin, Routed, Collecting, Searching}
use Rattle.ea_machine.specs.declared.stages.Stage.TheVariants.{Fetching, Creating, Giving, Taking}
use Rattle.ea_machine.specs.declared.stages.Stage.TheVariants.{Ended, Ready}
use Rattle.ea_machine.specs.declared.stages.Route.{Route}
use Rattle.ea_machine.specs.Actor.{Actor}
use Rattle.ea_machine.specs.declared.tasks.Task.{Task}
use Rattle.ea_machine.specs.declared.tasks.Task.TheVariants.{Freeing, Moving}
use Rattle.ea_machine.specs.declared.tasks.Why.TheVariants.{Walk, For}
use Rattle.ea_machine.specs.declared.tasks.Gone.{Gone}
use Rattle.ea_machine.specs.declared.asks.Ask.{Ask}
use Rattle.ea_machine.specs.Machine.{after, after_row, onward_at}
use Rattle.ea_machine.specs.Nodes.{named_at}
use Rattle.ea_machine.specs.declared.nodes.Named.{Named}
use Rattle.ea_machine.specs.Operations.{freed, gave, giving, itself, took, took_by}
use Rattle.ea_machine.specs.Placements.{chosen_by, created_by, fetched, holding}
use Rattle.ea_machine.specs.Searches.{fits}
use Rattle.ea_machine.specs.Placements.{making, new_carrier, new_carrier_by, placed_by}
use Rattle.ea_machine.specs.Placements.{placed_in_choice, saw_by, search_if, searched}
use Rattle.ea_machine.specs.Placements.{searched_by, seek, seek_by, stands}
use Rattle.ea_machine.specs.Reallocations.{reallocated, reallocated_by}
use Rattle.ea_machine.specs.Releases.{route_of, turned}
use Rattle.ea_machine.specs.Rows.{Answer, Done, Head, Rests, Passes, Saw, Won, Lost, Home, Got}
use Rattle.ea_machine.specs.Setup.{Setup, greatest_number, migration}
use Rattle.ea_machine.specs.Tasks.{carried_by, hands_over, let_go, task_over}
use Rattle.ea_machine.specs.Walks.{after_route, begun, passed_on, taken, with_passed, worked_off}
use Rattle.ea_sound.specs.Steady.{IsShown, IsSteady, IsSteadyStage, TellsShown, works_off}
use Rattle.ea_sound.proofs.SteadyRoutes.{IsSteadyNext, OrderlyIf, route-goes, turned-goes}
use Rattle.ea_machine.specs.Placements.{refills}

module _ (e : Setup) (me : ℕ) where
  -- the operation itself leaves the walk as it is
  abbrev pub Leaves : Option Node → List Node → Actor → Type 0
  Leaves next passed a = (a.next ≡ next) × (a.passed ≡ passed)
      × IsSteadyStage e me a.instance.count a.instance.contents a.stage
      × (works_off a.stage ≡ false)

  carried-leaves : (task : Task) (g : Gone) (next : Option Node) (passed : List Node)
      (a : Actor) (r : Option (Route Content)) → a.next ≡ next → a.passed ≡ passed
      → IsSteadyNext e me a.instance.count a.instance.contents r
      → Leaves next passed (carried_by (For task) (task_over task) g a r)
  carried-leaves task g next passed a None n p s = (n, p, tt, refl)
  carried-leaves task g next passed a (Some r) n p s = (n, p, s, refl)

  hands-leaves : (task : Task) (hand : Named) (a : Actor)
      → Leaves a.next a.passed (hands_over e me task hand a)
  hands-leaves task hand a =
      let b = let_go hand.name a in
      let t = route_of e me hand b in
      let g = route-goes e me hand b in
      carried-leaves task t.gone a.next a.passed t.actor t.route g.0 g.1 g.2

  stands-leaves : (name : ℕ) (place : Place) (old : Option Named) (a : Actor)
      → Leaves a.next a.passed (stands e me name place old a)
  stands-leaves name place None a = (refl, refl, tt, refl)
  stands-leaves name place (Some old) a = hands-leaves (Moving old.name name place) old a

  placed-leaves : (ask : Ask) (a : Actor) (o : Option Spot)
      → Leaves a.next a.passed (placed_by e me ask a o)
  placed-leaves ask a None = (refl, refl, tt, refl)
  placed-leaves ask a (Some spot) = stands-leaves ask.name _ ask.old
      (holding ask.name spot (record a { instance = placing_at a.instance spot ask.need ask.name }))

  choice-leaves : (ask : Ask) (a : Actor) → Leaves a.next a.passed (placed_in_choice e me ask a)
  choice-leaves ask a = placed-leaves ask a (chosen_spot a.instance ask.need)

  pub created_by-leaves : (ask : Ask) (p : CarrierPlan) (a : Actor) (single : Bool)
      → Leaves a.next a.passed (created_by e me ask p a single)
  created_by-leaves ask p a true = stands-leaves ask.name _ ask.old
      (holding ask.name _
      (record a { instance = creating_single a.instance p ask.need ask.name }))
  created_by-leaves ask p a false =
      choice-leaves ask (record a { instance = creating a.instance p })

  making-leaves : (ask : Ask) (p : CarrierPlan) (a : Actor) (on : Bool)
      → Leaves a.next a.passed (making e me ask p a on)
  making-leaves ask p a true = (refl, refl, tt, refl)
  making-leaves ask p a false = created_by-leaves ask p a p.single

  new_by-leaves : (ask : Ask) (looked : ℕ) (a : Actor) (r : Result CarrierPlan NoCarrier)
      → Leaves a.next a.passed (new_carrier_by e me ask looked a r)
  new_by-leaves ask looked a (Ok p) = making-leaves ask p a (migration e)
  new_by-leaves ask looked a (Err why) = (refl, refl, tt, refl)

  new-leaves : (ask : Ask) (looked : ℕ) (a : Actor)
      → Leaves a.next a.passed (new_carrier e me ask looked a)
  new-leaves ask looked a = new_by-leaves ask looked a (plan a.instance ask.need)

  searched_by-leaves : (ask : Ask) (x : Search) (a : Actor) (more : Bool)
      → Leaves a.next a.passed (searched_by e me ask x a more)
  searched_by-leaves ask x a true = (refl, refl, tt, refl)
  searched_by-leaves ask x a false = new-leaves ask (looked_in x.part) a

  pub search-leaves : (ask : Ask) (x : Search) (a : Actor)
      → Leaves a.next a.passed (search_on e me ask x a)
  search-leaves ask x a =
      searched_by-leaves ask x (record a { lists = x.lists }) (goes_on x.part)

  search_if-leaves : (ask : Ask) (a : Actor) (on : Bool)
      → Leaves a.next a.passed (search_if e me ask a on)
  search_if-leaves ask a true = search-leaves ask (new_search (greatest_number e) a.lists) a
  search_if-leaves ask a false = new-leaves ask 0 a

  chosen-leaves : (ask : Ask) (a : Actor) (o : Option Spot)
      → Leaves a.next a.passed (chosen_by e me ask a o)
  chosen-leaves ask a (Some spot) = placed-leaves ask a (Some spot)
  chosen-leaves ask a None = search_if-leaves ask (refills a) (migration e)

  seek_by-leaves : (ask : Ask) (a : Actor) (alone : Bool)
      → Leaves a.next a.passed (seek_by e me ask a alone)
  seek_by-leaves ask a true = new-leaves ask 0 (refills a)
  seek_by-leaves ask a false = chosen-leaves ask a (chosen_spot a.instance ask.need)

  seek-leaves : (ask : Ask) (a : Actor) → Leaves a.next a.passed (seek e me ask a)
  seek-leaves ask a = seek_by-leaves ask a (is_alone a.instance ask.need)

  saw-leaves : (ask : Ask) (at : ℕ) (part : Part) (a : Actor) (w : OwnerWord) (fit : Bool)
      → IsShown e w
      → Leaves a.next a.passed (saw_by e me ask at part a w fit)
  saw-leaves ask at part a w true shown = (refl, refl, shown, refl)
  saw-leaves ask at part a w false shown =
      search-leaves ask (passed (greatest_number e) a.lists at part w) a

  searched-leaves : (ask : Ask) (at : ℕ) (part : Part) (a : Actor) (r : Answer) → TellsShown e r
      → Leaves a.next a.passed (searched e me ask at part a r)
  searched-leaves ask at part a (Saw w) shown =
      saw-leaves ask at (with_counted w part) a w (fits ask.need w) shown
  searched-leaves ask at part a Done shown = (refl, refl, tt, refl)
  searched-leaves ask at part a (Head n) shown = (refl, refl, tt, refl)
  searched-leaves ask at part a Rests shown = (refl, refl, tt, refl)
  searched-leaves ask at part a (Passes n) shown = (refl, refl, tt, refl)
  searched-leaves ask at part a (Won x) shown = (refl, refl, tt, refl)
  searched-leaves ask at part a (Lost w) shown = (refl, refl, tt, refl)
  searched-leaves ask at part a (Home x) shown = (refl, refl, tt, refl)
  searched-leaves ask at part a (Got o) shown = (refl, refl, tt, refl)

  pub fetched-leaves : (ask : Ask) (at : ℕ) (part : Part) (a : Actor) (r : Answer)
      → Leaves a.next a.passed (fetched e me ask at part a r)
  fetched-leaves ask at part a (Won x) =
      choice-leaves ask (fetches at x a)
  fetched-leaves ask at part a (Lost w) =
      search-leaves ask (passed (greatest_number e) a.lists at part w) a
  fetched-leaves ask at part a Done = (refl, refl, tt, refl)
  fetched-leaves ask at part a (Head n) = (refl, refl, tt, refl)
  fetched-leaves ask at part a Rests = (refl, refl, tt, refl)
  fetched-leaves ask at part a (Passes n) = (refl, refl, tt, refl)
  fetched-leaves ask at part a (Saw w) = (refl, refl, tt, refl)
  fetched-leaves ask at part a (Home x) = (refl, refl, tt, refl)
  fetched-leaves ask at part a (Got o) = (refl, refl, tt, refl)

  took_by-leaves : (name tries left : ℕ) (a : Actor) (o : Option Spot)
      → Leaves a.next a.passed (took_by name tries left a o)
  took_by-leaves name tries left a (Some spot) = (refl, refl, tt, refl)
  took_by-leaves name tries zero a None = (refl, refl, tt, refl)
  took_by-leaves name tries (suc zero) a None = (refl, refl, tt, refl)
  took_by-leaves name tries (suc (suc left)) a None = (refl, refl, tt, refl)

  pub took-leaves : (name tries left : ℕ) (a : Actor) (r : Answer)
      → Leaves a.next a.passed (took name tries left a r)
  took-leaves name tries left a (Got o) = took_by-leaves name tries left a o
  took-leaves name tries left a Done = (refl, refl, tt, refl)
  took-leaves name tries left a (Head n) = (refl, refl, tt, refl)
  took-leaves name tries left a Rests = (refl, refl, tt, refl)
  took-leaves name tries left a (Passes n) = (refl, refl, tt, refl)
  took-leaves name tries left a (Saw w) = (refl, refl, tt, refl)
  took-leaves name tries left a (Won x) = (refl, refl, tt, refl)
  took-leaves name tries left a (Lost w) = (refl, refl, tt, refl)
  took-leaves name tries left a (Home x) = (refl, refl, tt, refl)

  freed-leaves : (name : ℕ) (a : Actor) (o : Option Named)
      → Leaves a.next a.passed (freed e me name a o)
  freed-leaves name a None = (refl, refl, tt, refl)
  freed-leaves name a (Some hand) = hands-leaves (Freeing name) hand a

  decided-leaves : (old : Named) (fresh need : ℕ) (a : Actor) (d : Decision)
      → Leaves a.next a.passed (reallocated_by e me old fresh need a d)
  decided-leaves old fresh need a Stay = (refl, refl, tt, refl)
  decided-leaves old fresh need a ShrinkHere = (refl, refl, tt, refl)
  decided-leaves old fresh need a GrowHere = (refl, refl, tt, refl)
  decided-leaves old fresh need a (ShrinkCarrier pages) = (refl, refl, tt, refl)
  decided-leaves old fresh need a Move =
      seek-leaves (record { name = fresh; need = need; old = Some old }) a

  reallocated-leaves : (name fresh need : ℕ) (a : Actor) (o : Option Named)
      → Leaves a.next a.passed (reallocated e me name fresh need a o)
  reallocated-leaves name fresh need a None = (refl, refl, tt, refl)
  reallocated-leaves name fresh need a (Some old) =
      decided-leaves old fresh need a (decision_at a.instance old.spot need)

  giving-leaves : (name to : ℕ) (a : Actor) (o : Option Named)
      → Leaves a.next a.passed (giving name to a o)
  giving-leaves name to a None = (refl, refl, tt, refl)
  giving-leaves name to a (Some given) = (refl, refl, tt, refl)

  pub itself-leaves : (a : Actor) (ops : List Op) → Leaves a.next a.passed (itself e me a ops)
  itself-leaves a [] = (refl, refl, tt, refl)
  itself-leaves a (op.Alloc name bytes ∷ ops) =
      seek-leaves (record { name = name; need = need_of bytes; old = None }) a
  itself-leaves a (op.Free name ∷ ops) = freed-leaves name a (named_at name a.held)
  itself-leaves a (op.Realloc old fresh bytes ∷ ops) =
      reallocated-leaves old fresh (need_of bytes) a (named_at old a.held)
  itself-leaves a (op.Give name to ∷ ops) = giving-leaves name to a (named_at name a.held)
  itself-leaves a (op.Take name tries ∷ ops) = (refl, refl, tt, refl)
  itself-leaves a (op.Info ∷ ops) = (refl, refl, tt, refl)
  itself-leaves a (op.Idle ∷ ops) = (refl, refl, tt, refl)

  -- so a scheduler whose walk is at its end stays steady
  abbrev AtEnd : Actor → Type 0
  AtEnd a = a.next ≡ None → a.passed ≡ []

  leaves-steady : (a b : Actor) → AtEnd a → Leaves a.next a.passed b → IsSteady e me b
  leaves-steady a b end (n, p, s, o) = record {
    walk = λ _ none. p ∙ end (sym n ∙ none);
    off = λ t. absurd (true≢false (sym t ∙ o));
    route = s;
  }

  -- what is worked off, node by node
  carried-steady : (nodes : List Node) (g : Gone) (a : Actor) (r : Option (Route Content))
      → IsSteadyNext e me a.instance.count a.instance.contents r → a.next ≡ None
      → ((b : Actor) → b.next ≡ None → IsSteady e me (worked_off e me nodes b))
      → IsSteady e me (carried_by Walk (λ gone b. worked_off e me nodes b) g a r)
  carried-steady nodes g a None s none rest = rest a none
  carried-steady nodes g a (Some r) s none rest = record {
    walk = λ off. absurd (true≢false off);
    off = λ _. none;
    route = s;
  }

  worked-steady : (nodes : List Node) (a : Actor) → a.next ≡ None
      → IsSteady e me (worked_off e me nodes a)
  worked-steady [] a none = record { walk = λ _ _. refl; off = λ _. none; route = tt }
  worked-steady (Block name spot ∷ nodes) a none =
      let hand : Named = record { name = name; spot = spot } in
      let b = record a { passed = nodes } in
      let t = route_of e me hand b in
      carried-steady nodes t.gone t.actor t.route (route-goes e me hand b).2
      ((route-goes e me hand b).0 ∙ none) (worked-steady nodes)
  worked-steady (Carrier number ∷ nodes) a none = record {
    walk = λ off. absurd (true≢false off);
    off = λ _. none;
    route = tt;
  }

  taken-steady : (a : Actor) (o : Option Node) → AtEnd a → IsSteady e me (taken a o)
  taken-steady a None end = record { walk = λ _. end; off = λ q. absurd cc; route = tt }
  taken-steady a (Some node) end =
      record { walk = λ _ q. absurd cc; off = λ q. absurd cc; route = tt }

  passed-steady : (a : Actor) (o : Option Node) → IsSteady e me (passed_on e me a o)
  passed-steady a (Some node) =
      record { walk = λ _ q. absurd cc; off = λ q. absurd cc; route = tt }
  passed-steady a None =
      worked-steady (with_passed a.next a.passed) (record a { next = None }) refl

  begun-steady : (a : Actor) (r : Answer) → AtEnd a → IsSteady e me (begun e me a r)
  begun-steady a (Head node) end = taken-steady a node end
  begun-steady a Rests end = record { walk = λ _. end; off = λ q. absurd cc; route = tt }
  begun-steady a (Passes node) end = passed-steady a node
  begun-steady a Done end = record { walk = λ _. end; off = λ q. absurd cc; route = tt }
  begun-steady a (Saw w) end = record { walk = λ _. end; off = λ q. absurd cc; route = tt }
  begun-steady a (Won x) end = record { walk = λ _. end; off = λ q. absurd cc; route = tt }
  begun-steady a (Lost w) end = record { walk = λ _. end; off = λ q. absurd cc; route = tt }
  begun-steady a (Home x) end = record { walk = λ _. end; off = λ q. absurd cc; route = tt }
  begun-steady a (Got o) end = record { walk = λ _. end; off = λ q. absurd cc; route = tt }

  walked-steady : (g : Gone) (a : Actor) (r : Option (Route Content))
      → IsSteadyNext e me a.instance.count a.instance.contents r → a.next ≡ None
      → IsSteady e me (carried_by Walk (after_route e me Walk) g a r)
  walked-steady g a None s none = worked-steady a.passed a none
  walked-steady g a (Some r) s none = record {
    walk = λ off. absurd (true≢false off);
    off = λ _. none;
    route = s;
  }

  -- a row, and the local work up to the next one
  module _ (a : Actor) (r : Answer) (order : OrderlyIf e me a) (shown : TellsShown e r) where
    row-steady : (stage : Stage Content) → a.stage ≡ stage → IsSteady e me a
        → IsSteady e me (after_row e me a r stage)
    row-steady Begin q s =
        begun-steady a r (s.walk (ap works_off q))
    row-steady (Routed route Walk gone) q s =
        let t = turned e me route gone a r in
        let goes = turned-goes e me route gone a r order shown in
        walked-steady t.gone t.actor t.route goes.2 (goes.0 ∙ s.off (ap works_off q))
    row-steady (Routed route (For task) gone) q s =
        let t = turned e me route gone a r in
        let (n, p, next) = turned-goes e me route gone a r order shown in
        leaves-steady a (carried_by (For task) (task_over task) t.gone t.actor t.route)
        (s.walk (ap works_off q))
        (carried-leaves task t.gone a.next a.passed t.actor t.route n p next)
    row-steady (Collecting number) q s = worked-steady a.passed _ (s.off (ap works_off q))
    row-steady (Searching ask at part) q s = leaves-steady a _ (s.walk (ap works_off q))
        (searched-leaves ask at part a r shown)
    row-steady (Fetching ask at part seen) q s = leaves-steady a _ (s.walk (ap works_off q))
        (fetched-leaves ask at part a r)
    row-steady (Creating ask p) q s = leaves-steady a _ (s.walk (ap works_off q))
        (created_by-leaves ask p a p.single)
    row-steady (Giving given to) q s =
        leaves-steady a (gave given to a) (s.walk (ap works_off q)) (refl, refl, tt, refl)
    row-steady (Taking name tries left) q s = leaves-steady a _ (s.walk (ap works_off q))
        (took-leaves name tries left a r)
    row-steady Ended q s = s
    row-steady Ready q s = s

  onward-steady : (a : Actor) (stage : Stage Content) → a.stage ≡ stage → IsSteady e me a
      → IsSteady e me (onward_at e me a stage)
  onward-steady a Begin q s = s
  onward-steady a (Routed route why gone) q s = s
  onward-steady a (Collecting number) q s = s
  onward-steady a (Searching ask at part) q s = s
  onward-steady a (Fetching ask at part seen) q s = s
  onward-steady a (Creating ask p) q s = s
  onward-steady a (Giving given to) q s = s
  onward-steady a (Taking name tries left) q s = s
  onward-steady a Ended q s = s
  onward-steady a Ready q s =
      leaves-steady a (itself e me a a.todo) (s.walk (ap works_off q)) (itself-leaves a a.todo)

  pub after-steady : (a : Actor) (r : Answer) (stage : Stage Content) → OrderlyIf e me a
      → TellsShown e r → a.stage ≡ stage → IsSteady e me a → IsSteady e me (after e me a r stage)
  unfolding after
  after-steady a r stage order shown q s =
      let b = after_row e me a r stage in
      let t = onward-steady b b.stage refl (row-steady a r order shown stage q s) in
      record { walk = t.walk; off = t.off; route = t.route }
