-- The local work of a scheduler leaves the figures that were observed, but for a report.
use Rattle.std.proofs.Common.{◌≡◌, ℕ, zero, suc, Bool, true, false, List, [], ◌∷◌, refl}
use Rattle.std.proofs.Common.{◌∙◌}
use Rattle.std.specs.Prelude.{Option, Some, None, Result, Ok, Err}
use Rattle.ea_model.specs.declared.carriers.CarrierPlan.{CarrierPlan}
use Rattle.ea_model.specs.declared.carriers.Place.{Place}
use Rattle.ea_model.specs.declared.carriers.Spot.{Spot}
use Rattle.ea_model.specs.declared.entries.NoCarrier.{NoCarrier}
use Rattle.ea_model.specs.declared.operations.Op.{Op}
use Rattle.ea_model.specs.declared.operations.Op.TheVariants as op
use Rattle.ea_model.specs.declared.reallocation.Decision.{Decision}
use Rattle.ea_model.specs.declared.reallocation.Decision.TheVariants.{Stay, ShrinkHere, GrowHere}
use Rattle.ea_model.specs.declared.reallocation.Decision.TheVariants.{ShrinkCarrier, Move}
use Rattle.ea_model.specs.Instance.{chosen_spot, creating, creating_single, decision_at, is_alone}
use Rattle.ea_model.specs.Instance.{placing_at, plan}
use Rattle.ea_model.specs.Units.{need_of}
use Rattle.ea_model.specs.Content.{Content}
use Rattle.ea_machine.specs.Placements.{fetches, search_on}
use Rattle.ea_machine.specs.Searches.{Search, goes_on, looked_in, new_search, passed, with_counted}
use Rattle.ea_machine.specs.declared.parts.Part.{Part}
use Rattle.ea_machine.specs.declared.nodes.Node.{Node}
use Rattle.ea_machine.specs.declared.nodes.Node.TheVariants.{Block, Carrier}
use Rattle.ea_machine.specs.declared.owners.OwnerWord.{OwnerWord}
use Rattle.ea_machine.specs.declared.stages.Stage.{Stage}
use Rattle.ea_machine.specs.declared.stages.Stage.TheVariants.{Begin, Routed, Collecting, Searching}
use Rattle.ea_machine.specs.declared.stages.Stage.TheVariants.{Fetching, Creating, Giving, Taking}
use Rattle.ea_machine.specs.declared.stages.Stage.TheVariants.{Ended, Ready}
use Rattle.ea_machine.specs.declared.stages.Route.{Route}
use Rattle.ea_machine.specs.Actor.{Actor}
use Rattle.ea_machine.specs.declared.tasks.Task.{Task}
use Rattle.ea_machine.specs.declared.tasks.Task.TheVariants.{Freeing, Moving}
use Rattle.ea_machine.specs.declared.tasks.Why.TheVariants.{Walk, For}
use Rattle.ea_machine.specs.declared.tasks.Gone.{Gone}
use Rattle.ea_machine.specs.declared.asks.Ask.{Ask}
use Rattle.ea_machine.specs.Machine.{after_row, onward, onward_at}
use Rattle.ea_machine.specs.Nodes.{named_at}
use Rattle.ea_machine.specs.declared.nodes.Named.{Named}
use Rattle.ea_machine.specs.Operations.{freed, giving, itself, took, took_by}
use Rattle.ea_machine.specs.Placements.{chosen_by, created_by, fetched, holding}
use Rattle.ea_machine.specs.Searches.{fits}
use Rattle.ea_machine.specs.Placements.{making, new_carrier, new_carrier_by, placed_by}
use Rattle.ea_machine.specs.Placements.{placed_in_choice, saw_by, search_if, searched}
use Rattle.ea_machine.specs.Placements.{searched_by, seek, seek_by, stands}
use Rattle.ea_machine.specs.Reallocations.{reallocated, reallocated_by}
use Rattle.ea_machine.specs.Releases.{route_of, turned}
use Rattle.ea_machine.specs.Rows.{Answer, Done, Head, Rests, Passes, Saw, Won, Lost, Home, Got}
use Rattle.ea_machine.specs.Setup.{Setup, greatest_number, migration}
use Rattle.ea_machine.specs.Tasks.{carried_by, hands_over, let_go, task_over}
use Rattle.ea_machine.specs.Walks.{after_route, begun, with_passed, worked_off}
use Rattle.ea_sound.specs.Reported.{AsksInfo}
use Rattle.ea_sound.proofs.ShortRoutes.{route-short, turned-short}
use Rattle.ea_machine.specs.Placements.{refills}

module _ (e : Setup) (me : ℕ) where
  abbrev pub IsStill : Actor → Actor → Type 0
  IsStill a b = (b.mbcs ≡ a.mbcs) × (b.sbcs ≡ a.sbcs)

  carried-kept : (task : Task) (g : Gone) (a b : Actor) (r : Option (Route Content)) → IsStill a b
      → IsStill a (carried_by (For task) (task_over task) g b r)
  carried-kept task g a b None k = k
  carried-kept task g a b (Some r) k = k

  hands-kept : (task : Task) (hand : Named) (a : Actor) → IsStill a (hands_over e me task hand a)
  hands-kept task hand a =
      let b = let_go hand.name a in
      let t = route_of e me hand b in
      let s = (route-short e me hand b).1 in
      carried-kept task t.gone a t.actor t.route (s.7, s.8)

  stands-kept : (name : ℕ) (place : Place) (old : Option Named) (a : Actor)
      → IsStill a (stands e me name place old a)
  stands-kept name place None a = (refl, refl)
  stands-kept name place (Some old) a = hands-kept (Moving old.name name place) old a

  placed-kept : (ask : Ask) (a : Actor) (o : Option Spot)
      → IsStill a (placed_by e me ask a o)
  placed-kept ask a None = (refl, refl)
  placed-kept ask a (Some spot) = stands-kept ask.name _ ask.old
      (holding ask.name spot (record a { instance = placing_at a.instance spot ask.need ask.name }))

  choice-kept : (ask : Ask) (a : Actor) → IsStill a (placed_in_choice e me ask a)
  choice-kept ask a = placed-kept ask a (chosen_spot a.instance ask.need)

  created_by-kept : (ask : Ask) (p : CarrierPlan) (a : Actor) (single : Bool)
      → IsStill a (created_by e me ask p a single)
  created_by-kept ask p a true = stands-kept ask.name _ ask.old
      (holding ask.name _
      (record a { instance = creating_single a.instance p ask.need ask.name }))
  created_by-kept ask p a false =
      choice-kept ask (record a { instance = creating a.instance p })

  making-kept : (ask : Ask) (p : CarrierPlan) (a : Actor) (on : Bool)
      → IsStill a (making e me ask p a on)
  making-kept ask p a true = (refl, refl)
  making-kept ask p a false = created_by-kept ask p a p.single

  new_by-kept : (ask : Ask) (looked : ℕ) (a : Actor) (r : Result CarrierPlan NoCarrier)
      → IsStill a (new_carrier_by e me ask looked a r)
  new_by-kept ask looked a (Ok p) = making-kept ask p a (migration e)
  new_by-kept ask looked a (Err why) = (refl, refl)

  new-kept : (ask : Ask) (looked : ℕ) (a : Actor)
      → IsStill a (new_carrier e me ask looked a)
  new-kept ask looked a = new_by-kept ask looked a (plan a.instance ask.need)

  searched_by-kept : (ask : Ask) (x : Search) (a : Actor) (more : Bool)
      → IsStill a (searched_by e me ask x a more)
  searched_by-kept ask x a true = (refl, refl)
  searched_by-kept ask x a false = new-kept ask (looked_in x.part) a

  search-kept : (ask : Ask) (x : Search) (a : Actor)
      → IsStill a (search_on e me ask x a)
  search-kept ask x a =
      searched_by-kept ask x (record a { lists = x.lists }) (goes_on x.part)

  search_if-kept : (ask : Ask) (a : Actor) (on : Bool)
      → IsStill a (search_if e me ask a on)
  search_if-kept ask a true = search-kept ask (new_search (greatest_number e) a.lists) a
  search_if-kept ask a false = new-kept ask 0 a

  chosen-kept : (ask : Ask) (a : Actor) (o : Option Spot)
      → IsStill a (chosen_by e me ask a o)
  chosen-kept ask a (Some spot) = placed-kept ask a (Some spot)
  chosen-kept ask a None = search_if-kept ask (refills a) (migration e)

  seek_by-kept : (ask : Ask) (a : Actor) (alone : Bool)
      → IsStill a (seek_by e me ask a alone)
  seek_by-kept ask a true = new-kept ask 0 (refills a)
  seek_by-kept ask a false = chosen-kept ask a (chosen_spot a.instance ask.need)

  seek-kept : (ask : Ask) (a : Actor) → IsStill a (seek e me ask a)
  seek-kept ask a = seek_by-kept ask a (is_alone a.instance ask.need)

  saw-kept : (ask : Ask) (at : ℕ) (part : Part) (a : Actor) (w : OwnerWord) (fit : Bool)
      → IsStill a (saw_by e me ask at part a w fit)
  saw-kept ask at part a w true = (refl, refl)
  saw-kept ask at part a w false =
      search-kept ask (passed (greatest_number e) a.lists at part w) a

  searched-kept : (ask : Ask) (at : ℕ) (part : Part) (a : Actor) (r : Answer)
      → IsStill a (searched e me ask at part a r)
  searched-kept ask at part a (Saw w) =
      saw-kept ask at (with_counted w part) a w (fits ask.need w)
  searched-kept ask at part a Done = (refl, refl)
  searched-kept ask at part a (Head n) = (refl, refl)
  searched-kept ask at part a Rests = (refl, refl)
  searched-kept ask at part a (Passes n) = (refl, refl)
  searched-kept ask at part a (Won x) = (refl, refl)
  searched-kept ask at part a (Lost w) = (refl, refl)
  searched-kept ask at part a (Home x) = (refl, refl)
  searched-kept ask at part a (Got o) = (refl, refl)

  fetched-kept : (ask : Ask) (at : ℕ) (part : Part) (a : Actor) (r : Answer)
      → IsStill a (fetched e me ask at part a r)
  fetched-kept ask at part a (Won x) =
      choice-kept ask (fetches at x a)
  fetched-kept ask at part a (Lost w) =
      search-kept ask (passed (greatest_number e) a.lists at part w) a
  fetched-kept ask at part a Done = (refl, refl)
  fetched-kept ask at part a (Head n) = (refl, refl)
  fetched-kept ask at part a Rests = (refl, refl)
  fetched-kept ask at part a (Passes n) = (refl, refl)
  fetched-kept ask at part a (Saw w) = (refl, refl)
  fetched-kept ask at part a (Home x) = (refl, refl)
  fetched-kept ask at part a (Got o) = (refl, refl)

  took_by-kept : (name tries left : ℕ) (a : Actor) (o : Option Spot)
      → IsStill a (took_by name tries left a o)
  took_by-kept name tries left a (Some spot) = (refl, refl)
  took_by-kept name tries zero a None = (refl, refl)
  took_by-kept name tries (suc zero) a None = (refl, refl)
  took_by-kept name tries (suc (suc left)) a None = (refl, refl)

  took-kept : (name tries left : ℕ) (a : Actor) (r : Answer)
      → IsStill a (took name tries left a r)
  took-kept name tries left a (Got o) = took_by-kept name tries left a o
  took-kept name tries left a Done = (refl, refl)
  took-kept name tries left a (Head n) = (refl, refl)
  took-kept name tries left a Rests = (refl, refl)
  took-kept name tries left a (Passes n) = (refl, refl)
  took-kept name tries left a (Saw w) = (refl, refl)
  took-kept name tries left a (Won x) = (refl, refl)
  took-kept name tries left a (Lost w) = (refl, refl)
  took-kept name tries left a (Home x) = (refl, refl)

  freed-kept : (name : ℕ) (a : Actor) (o : Option Named)
      → IsStill a (freed e me name a o)
  freed-kept name a None = (refl, refl)
  freed-kept name a (Some hand) = hands-kept (Freeing name) hand a

  decided-kept : (old : Named) (fresh need : ℕ) (a : Actor) (d : Decision)
      → IsStill a (reallocated_by e me old fresh need a d)
  decided-kept old fresh need a Stay = (refl, refl)
  decided-kept old fresh need a ShrinkHere = (refl, refl)
  decided-kept old fresh need a GrowHere = (refl, refl)
  decided-kept old fresh need a (ShrinkCarrier pages) = (refl, refl)
  decided-kept old fresh need a Move =
      seek-kept (record { name = fresh; need = need; old = Some old }) a

  reallocated-kept : (name fresh need : ℕ) (a : Actor) (o : Option Named)
      → IsStill a (reallocated e me name fresh need a o)
  reallocated-kept name fresh need a None = (refl, refl)
  reallocated-kept name fresh need a (Some old) =
      decided-kept old fresh need a (decision_at a.instance old.spot need)

  giving-kept : (name to : ℕ) (a : Actor) (o : Option Named)
      → IsStill a (giving name to a o)
  giving-kept name to a None = (refl, refl)
  giving-kept name to a (Some given) = (refl, refl)

  -- the operation itself, but for a report
  itself-kept : (a : Actor) (ops : List Op) → (AsksInfo ops → ⊥) → IsStill a (itself e me a ops)
  itself-kept a [] never = (refl, refl)
  itself-kept a (op.Alloc name bytes ∷ ops) never =
      seek-kept (record { name = name; need = need_of bytes; old = None }) a
  itself-kept a (op.Free name ∷ ops) never = freed-kept name a (named_at name a.held)
  itself-kept a (op.Realloc old fresh bytes ∷ ops) never =
      reallocated-kept old fresh (need_of bytes) a (named_at old a.held)
  itself-kept a (op.Give name to ∷ ops) never = giving-kept name to a (named_at name a.held)
  itself-kept a (op.Take name tries ∷ ops) never = (refl, refl)
  itself-kept a (op.Info ∷ ops) never = absurd (never (ops, refl))
  itself-kept a (op.Idle ∷ ops) never = (refl, refl)

  -- a begin
  then-kept : (over : Gone → Actor → Actor) (g : Gone) (a b : Actor) (r : Option (Route Content))
      → IsStill a b → ((h : Gone) (c : Actor) → IsStill a c → IsStill a (over h c))
      → IsStill a (carried_by Walk over g b r)
  then-kept over g a b None k f = f g b k
  then-kept over g a b (Some r) k f = k

  worked-kept : (a : Actor) (ns : List Node) (b : Actor) → IsStill a b
      → IsStill a (worked_off e me ns b)
  worked-kept a [] b k = k
  worked-kept a (Carrier c ∷ ns) b k = k
  worked-kept a (Block n p ∷ ns) b k =
      let hand : Named = record { name = n; spot = p } in
      let t = route_of e me hand (record b { passed = ns }) in
      let s = (route-short e me hand (record b { passed = ns })).1 in
      then-kept (λ gone d. worked_off e me ns d) t.gone a t.actor t.route (s.7 ∙ k.0, s.8 ∙ k.1)
      (λ h c l. worked-kept a ns c l)

  begun-kept : (a : Actor) (r : Answer) → IsStill a (begun e me a r)
  begun-kept a (Head None) = (refl, refl)
  begun-kept a (Head (Some n)) = (refl, refl)
  begun-kept a Rests = (refl, refl)
  begun-kept a (Passes None) =
      worked-kept a (with_passed a.next a.passed) (record a { next = None }) (refl, refl)
  begun-kept a (Passes (Some n)) = (refl, refl)
  begun-kept a Done = (refl, refl)
  begun-kept a (Saw v) = (refl, refl)
  begun-kept a (Won x) = (refl, refl)
  begun-kept a (Lost v) = (refl, refl)
  begun-kept a (Home x) = (refl, refl)
  begun-kept a (Got p) = (refl, refl)

  -- each row
  pub row-kept : (a : Actor) (r : Answer) (st : Stage Content) → IsStill a (after_row e me a r st)
  row-kept a r Begin = begun-kept a r
  row-kept a r (Routed route Walk g) =
      let t = turned e me route g a r in
      let s = (turned-short e me route g a r).1 in
      then-kept (after_route e me Walk) t.gone a t.actor t.route (s.7, s.8)
      (λ h c l. worked-kept a c.passed c l)
  row-kept a r (Routed route (For task) g) =
      let t = turned e me route g a r in
      let s = (turned-short e me route g a r).1 in
      carried-kept task t.gone a t.actor t.route (s.7, s.8)
  row-kept a r (Collecting c) = worked-kept a a.passed _ (refl, refl)
  row-kept a r (Searching ask at part) = searched-kept ask at part a r
  row-kept a r (Fetching ask at part seen) = fetched-kept ask at part a r
  row-kept a r (Creating ask p) = created_by-kept ask p a p.single
  row-kept a r (Giving given to) = (refl, refl)
  row-kept a r (Taking name tries left) = took-kept name tries left a r
  row-kept a r Ended = (refl, refl)
  row-kept a r Ready = (refl, refl)

  onward_at-kept : (b : Actor) (st : Stage Content) → (st ≡ Ready → AsksInfo b.todo → ⊥)
      → IsStill b (onward_at e me b st)
  onward_at-kept b Ready never = itself-kept b b.todo (never refl)
  onward_at-kept b Begin never = (refl, refl)
  onward_at-kept b (Routed r y g) never = (refl, refl)
  onward_at-kept b (Collecting c) never = (refl, refl)
  onward_at-kept b (Searching ask at part) never = (refl, refl)
  onward_at-kept b (Fetching ask at part seen) never = (refl, refl)
  onward_at-kept b (Creating ask p) never = (refl, refl)
  onward_at-kept b (Giving given to) never = (refl, refl)
  onward_at-kept b (Taking name tries left) never = (refl, refl)
  onward_at-kept b Ended never = (refl, refl)

  pub onward-kept : (b : Actor) → (b.stage ≡ Ready → AsksInfo b.todo → ⊥)
      → IsStill b (onward e me b)
  onward-kept b never = onward_at-kept b b.stage never
