-- The rule of the table (`Keeps`): its words are the coding of what is shared after a list of
-- steps, its slots have the contents that are at home, and each seat knows its scheduler as that
-- stands then. The list grows by one turn with each atomic step, and by nothing else. `Took` and
-- `DidRow` say what a seat knows after a step.
-- A view of a seat is data of proofs. It has the turns up to its scheduler's last step, and not the
-- state, which others change. `Keeps` speaks of each seat, also of a spent one (`live`).
use Rattle.std.specs.Prelude.{◌≡◌, ◌≢◌, ℕ, ◌≤◌, true, false, ◌==◌, if◌then◌else◌}
use Rattle.std.specs.Prelude.{List, [], ◌∷◌, ◌++◌, All, map, Option, None, Some, IfSome}
use Rattle.std.specs.List.{range_with_len}
use mathlib.Core.Option.{some}
use lib.ListN.{get_elem?}
use Rattle.atomic_table.specs.Table.{Me, Step, carried_after, rest}
use Rattle.atomic_table.specs.Table as table
use Rattle.ea_model.specs.declared.carriers.Spot.{Spot}
use Rattle.ea_model.specs.declared.settings.Config.{Config}
use Rattle.ea_model.specs.declared.trace.Trace.{Trace}
use Rattle.ea_model.specs.Settings.{IsValidConfig}
use Rattle.ea_model.specs.declared.settings.Letter.TheVariants.{H}
use Rattle.ea_model.specs.declared.settings.Settings.{Settings}
use Rattle.ea_model.specs.declared.settings.Strategy.TheVariants.{Bf}
use Rattle.ea_model.specs.declared.trace.Mode.TheVariants.{Threads}
use Rattle.ea_model.specs.Trace.{IsValidTrace, listed}
use Rattle.ea_machine.specs.declared.nodes.Node.{Node}
use Rattle.ea_machine.specs.declared.nodes.Node.TheVariants.{Block}
use Rattle.ea_machine.specs.declared.tasks.Gone.{Gone}
use Rattle.ea_machine.specs.declared.tasks.Why.{Why}
use Rattle.ea_machine.specs.declared.stages.Stage.TheVariants.{Routed}
use Rattle.ea_machine.specs.declared.stages.Route.TheVariants.{Linking}
use Rattle.ea_machine.specs.Actor.{Actor}
use Rattle.ea_machine.specs.Courses.{AreSteps}
use Rattle.ea_machine.specs.Machine.{run, wants}
use Rattle.ea_machine.specs.Nodes.{Mark, first_node, spot_named}
use Rattle.ea_machine.specs.Owners.{CarrierAt, word_of}
use Rattle.ea_machine.specs.Rows.{Answer, Row, TakeAll, TakeLink, Look, Push}
use Rattle.ea_machine.specs.Rows.{Link, BusyTry, Settle, Abandon, FetchTry}
use Rattle.ea_machine.specs.Rows.{Create, SendHome, Clear, Give, TakeTry, Nothing}
use Rattle.ea_machine.specs.Setup.{Setup, migration, setup_of}
use Rattle.ea_machine.specs.Shared.{Shared}
use Rattle.ea_machine.specs.State.{State}
use Rattle.ea_machine.specs.Table.{answer}
use Rattle.ea_shared.specs.Calls.{Caller, Told, caller_of}
use Rattle.ea_sound.specs.Standing.{IsOlderAt}
use Rattle.ea_word.specs.declared.words.TheConstants.{NO_NODE, OLDEST}
use Rattle.ea_word.specs.Codes.{IsCodable, IsShown, head_code, link_code}
use Rattle.ea_table.specs.Slots.{Houses, Move, Slot, act_of, claim_by, move_of, slot_at}
use Rattle.ea_table.specs.Words.{Codes, given_code, mark_code, owner_at, place_code}
use Rattle.ea_table.specs.declared.views.About.{About}
use Rattle.ea_table.specs.declared.views.Seated.{Seated}
use Rattle.ea_table.specs.declared.views.View.{View}

-- where the scheduler is about to link a node, the word is that of the link: it codes the next
-- older node
abbrev pub Remembers : State → ℕ → ℕ → Type 0
Remembers w s word = (node : Node) (to : ℕ) (why : Why) (gone : Gone)
    → (w.actors s).stage ≡ Routed (Linking node to) why gone
    → (older : Option Node) × (word ≡ link_code older) × IsOlderAt node to older w.shared

module _ (c : Config) (t : Trace) (ran : List ℕ) (seat_of claim_of : ℕ → ℕ) (j : ℕ) where
  -- the scheduler sits at the seat j, which knows the turns up to its last one: all that ran since
  -- are turns of others. It knows the carrier whose slot the scheduler has claimed
  pub record Sits (x : Seated) : Type 0 where
    pub seat : seat_of x.number ≡ j
    pub since : List ℕ
    pub front : ran ≡ x.turns ++ since
    pub others : All (λ i. i ≢ x.number) since
    pub remembers : Remembers (run (setup_of c t) ran) x.number x.older
    pub claim : claim_of x.number ≡ x.claim

  -- the seat j knows the run, while it is live, and how its schedulers stand
  pub record Knows (v : View) : Type 0 where
    pub config : v.live ≡ true → v.config ≡ c
    pub trace : v.live ≡ true → v.trace ≡ t
    pub seated : All Sits v.seated

-- after the steps that ran the words code what is shared, the slots have what is at home, and each
-- seat knows its schedulers
pub record Keeps (c : Config) (t : Trace) (s : table.State Slot View) : Type 0 where
  pub valid : IsValidConfig c
  pub made : IsValidTrace c.schedulers t
  pub ran : List ℕ
  pub steps : AreSteps (setup_of c t) ran
  pub coded : Codes c.schedulers t.greatest (run (setup_of c t) ran).shared s.words
  pub claim_of : ℕ → ℕ
  pub housed : Houses s.homes c.schedulers claim_of (run (setup_of c t) ran).shared
  pub seat_of : ℕ → ℕ
  pub each_seat : (j : ℕ) (v : View) → get_elem? s.views j ≡ some v
      → Knows c t ran seat_of claim_of j v

-- the rule of the table of a run
abbrev pub holds : About → table.State Slot View → Type 0
holds a s = Keeps a.config a.trace.now s

-- a scheduler before its first step
abbrev pub waiting : ℕ → Seated
waiting i = record { number = i; turns = []; older = NO_NODE; claim = 0 }

-- what a seat knows that has that many schedulers, from number i on, before their first step
abbrev pub waiting_from : Config → Trace → ℕ → ℕ → View
waiting_from c t i count = record {
  config = c;
  trace = t;
  live = true;
  seated = map waiting (range_with_len i count);
}

-- what the first seat knows: it has all schedulers
abbrev pub first : About → View
first a = waiting_from a.config a.trace.now 1 a.config.schedulers

-- the first of some schedulers, and the others

abbrev pub first_seated : List Seated → Seated
first_seated [] = waiting 0
first_seated (x ∷ xs) = x

abbrev pub after_first : List Seated → List Seated
after_first [] = []
after_first (x ∷ xs) = xs

-- the scheduler whose steps a seat takes
abbrev pub acting : View → Seated
acting v = first_seated v.seated

-- the seat is live, and has one scheduler
abbrev pub IsSingle : View → Type 0
IsSingle v = v ≡ record v { seated = acting v ∷ []; live = true }

-- the run that a seat knows, and the scheduler whose steps it takes as that stands there

abbrev pub setup_in : View → Setup
setup_in v = setup_of v.config v.trace

abbrev pub actor_in : View → Actor
actor_in v = (run (setup_in v) (acting v).turns).actors (acting v).number

abbrev pub caller_in : View → Caller
caller_in v = caller_of (setup_in v) (acting v).number (acting v).turns

-- what it tells of that run: its scheduler as the caller
abbrev pub told_in : View → Told
told_in v = record {
  schedulers = v.config.schedulers;
  greatest = v.trace.greatest;
  migrates = migration (setup_in v);
  shared = None;
  caller = Some (caller_in v);
}

-- the link word of a pushed node, by the word that was found at the head
abbrev pub older_word : ℕ → ℕ
older_word found = if found == NO_NODE then OLDEST else found

-- the link word that a scheduler keeps after a row, by the word that was found
abbrev pub older_after : Row → ℕ → ℕ → ℕ
older_after (Push node to) found was = older_word found
older_after _ found was = was

-- what is shared after the turns that a seat knows and those that others took since
abbrev pub shared_since : View → List ℕ → Shared
shared_since v since = (run (setup_in v) ((acting v).turns ++ since)).shared

-- what the seat knows after a step that follows these
abbrev pub stepped : View → List ℕ → ℕ → ℕ → View
stepped v since older claim = record v {
  seated = record {
    number = (acting v).number;
    turns = (acting v).turns ++ since ++ (acting v).number ∷ [];
    older = older;
    claim = claim;
  } ∷ [];
}

-- and where its scheduler has claimed the slot of that carrier, or none
abbrev pub claimed : View → ℕ → View
claimed v number = record v { seated = record (acting v) { claim = number } ∷ [] }

-- the word that a step finds: the head of a queue with that newest node
abbrev pub ReadsHead : Option Node → ℕ → Type 0
ReadsHead newest found = (found ≡ head_code newest) × IfSome newest IsCodable

-- the link of the first of these nodes
abbrev pub ReadsLink : List Mark → ℕ → Type 0
ReadsLink [] found = ⊥
ReadsLink (m ∷ ms) found = (found ≡ mark_code m.linked ms) × IfSome (first_node ms) IsCodable

-- the word of a name, whose block is given where there is a spot
abbrev pub ReadsName : ℕ → Option Spot → ℕ → Type 0
ReadsName name spot found = (found ≡ given_code name spot)
    × IfSome spot (λ p. IsCodable (Block name p))

-- the owner word of a carrier that is there
abbrev pub ReadsOwner : CarrierAt → ℕ → Type 0
ReadsOwner place found = (found ≡ place_code place) × IsShown (word_of place)

-- the word that a row of scheduler me finds in what is shared, where it reads one
abbrev pub Reads : ℕ → Row → Shared → ℕ → Type 0
Reads me TakeAll s found = ReadsHead (first_node (s.queues me)) found
Reads me TakeLink s found = ReadsLink (s.rests me) found
Reads me (Look number) s found = ReadsOwner (s.places number) found
Reads me (Push node to) s found = ReadsHead (first_node (s.queues to)) found
Reads me (Link node to) s found = Unit {0}
Reads me (BusyTry number seen) s found = ReadsOwner (s.places number) found
Reads me (Settle x) s found = Unit {0}
Reads me (Abandon x) s found = Unit {0}
Reads me (FetchTry number seen) s found = ReadsOwner (s.places number) found
Reads me (Create number) s found = Unit {0}
Reads me (SendHome x) s found = Unit {0}
Reads me (Clear number) s found = Unit {0}
Reads me (Give given) s found = Unit {0}
Reads me (TakeTry name) s found = ReadsName name (spot_named name s.given) found
Reads me Nothing s found = Unit {0}

-- what the next row of the scheduler does with slots, after the turns that others took
abbrev pub move_since : View → List ℕ → Move
move_since v since = move_of (wants (actor_in v))
    (answer (acting v).number (wants (actor_in v)) (shared_since v since))

-- others took some turns since those that the seat knew, and then its scheduler took a step, in
-- which its row found that word; now the seat knows all turns up to that step, and has the slots
-- that the row left it. The run is that of a valid trace
pub record Took (m : Me Slot View) (found : ℕ) (n : Me Slot View) : Type 0 where
  pub valid : IsValidConfig m.0.config
  pub made : IsValidTrace m.0.config.schedulers m.0.trace
  pub since : List ℕ
  pub others : All (λ i. i ≢ (acting m.0).number) since
  pub reads : Reads (acting m.0).number (wants (actor_in m.0)) (shared_since m.0 since) found
  pub view : n.0 ≡ stepped m.0 since (older_after (wants (actor_in m.0)) found (acting m.0).older)
      (claim_by (move_since m.0 since) (acting m.0).claim)
  pub slots : n.1 ≡ carried_after m.1 (act_of (move_since m.0 since))

-- a step of a seat
abbrev pub steps : Step Slot → Me Slot View → ℕ → Me Slot View → Type 0
steps step m found n = Took m found n

-- a look of a seat at the owner word of a carrier, by which it claims the slot of the carrier,
-- which is empty. It is no step of its scheduler, and changes nothing that is shared
abbrev pub claims : Step Slot → Me Slot View → ℕ → Me Slot View → Type 0
claims step m found n = (number : ℕ) → 1 ≤ number
    → step.word ≡ owner_at m.0.config.schedulers m.0.trace.greatest number
    → (n.0 ≡ claimed m.0 number) × (n.1 ≡ (slot_at number, None) ∷ m.1)

-- a look by which it gives back the slot that it has claimed, and that is empty
abbrev pub yields : Step Slot → Me Slot View → ℕ → Me Slot View → Type 0
yields step m found n = (n.0 ≡ claimed m.0 0) × (n.1 ≡ rest m.1)

-- the row got that answer in a step of the seat
pub record DidRow (me : ℕ) (row : Row) (got : Answer) (v u : View) : Type 0 where
  pub number : (acting v).number ≡ me
  pub since : List ℕ
  pub others : All (λ i. i ≢ me) since
  pub answered : got ≡ answer me row (shared_since v since)
  pub older : ℕ
  pub claim : ℕ
  pub view : u ≡ stepped v since older claim

-- a seat is split off for the first scheduler of another: what the two know then

abbrev pub dealt_left : View → View
dealt_left v = record v { seated = after_first v.seated }

abbrev pub dealt_right : View → View
dealt_right v = record v { seated = acting v ∷ [] }

-- what a seat knows after it took in another
abbrev pub taken_in : View → View → View
taken_in v w = record v { seated = v.seated ++ w.seated }

-- a spent seat knows nothing

abbrev pub no_settings : Settings
no_settings = record {
  strategy = Bf;
  acul = 0;
  acfml = 0;
  sbct = 0;
  smbcs = 0;
  lmbcs = 0;
  mbcgs = 0;
  mmbcs = 0;
  mbsd = 0;
  rsbcmt = 0;
  rmbcmt = 0;
  rsbcst = 0;
  asbcst = 0;
  ramv = false;
  rules = record { powers = false; falling = false; counter = false };
}

abbrev pub no_config : Config
no_config = record {
  schedulers = 0;
  scs = 0;
  b = no_settings;
  d = no_settings;
  e = no_settings;
  h = no_settings;
  l = no_settings;
  r = no_settings;
  s = no_settings;
  t = no_settings;
}

abbrev pub no_trace : Trace
no_trace = record {
  letter = H;
  texts = listed [];
  stops = listed [];
  mode = Threads;
  greatest = 0;
}

abbrev pub spent_view : View
spent_view = record { config = no_config; trace = no_trace; live = false; seated = [] }
