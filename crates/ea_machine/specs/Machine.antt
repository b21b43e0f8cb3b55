-- The machine: what a scheduler wants, a step, and a run. It also defines the start.
-- This simulator's own: the sources leave it undecided.
use Rattle.std.specs.Prelude.{◌≡◌, ℕ, Bool, true, false, ◌&&◌, nat_lt, ◌==◌, List, [], ◌∷◌, Option}
use Rattle.std.specs.Prelude.{None, Some}
use Rattle.ea_model.specs.Instance.{Instance, first_number, new_instance, owner_of}
use Rattle.ea_model.specs.Content.{Content}
use Rattle.ea_machine.specs.declared.nodes.Node.{Node}
use Rattle.ea_machine.specs.Owners.{CarrierAt, employed_if}
use Rattle.ea_machine.specs.Setup.{Setup, first_page, is_scheduler, migration}
use Rattle.ea_machine.specs.Shared.{put}
use Rattle.ea_machine.specs.declared.stages.Stage.{Stage}
use Rattle.ea_machine.specs.declared.stages.Stage.TheVariants.{Begin, Routed, Collecting, Searching}
use Rattle.ea_machine.specs.declared.stages.Stage.TheVariants.{Fetching, Creating, Giving, Taking}
use Rattle.ea_machine.specs.declared.stages.Stage.TheVariants.{Ended, Ready}
use Rattle.ea_machine.specs.declared.stages.Route.{Route}
use Rattle.ea_machine.specs.declared.stages.Route.TheVariants.{Looking, Trying, Settling}
use Rattle.ea_machine.specs.declared.stages.Route.TheVariants.{Abandoning, Sending, Clearing}
use Rattle.ea_machine.specs.declared.stages.Route.TheVariants.{Pushing, Linking}
use Rattle.ea_machine.specs.Lists.{no_lists}
use Rattle.ea_machine.specs.Actor.{Actor}
use Rattle.ea_machine.specs.State.{State}
use Rattle.ea_machine.specs.Rows.{Answer, Row, TakeAll, TakeLink, Look, Push, Link, BusyTry, Settle}
use Rattle.ea_machine.specs.Rows.{Abandon, FetchTry, Create, SendHome, Clear, Give, TakeTry}
use Rattle.ea_machine.specs.Rows.{Nothing}
use Rattle.ea_machine.specs.Table.{answer, effect}
use Rattle.ea_machine.specs.Releases.{turned}
use Rattle.ea_machine.specs.Tasks.{carried}
use Rattle.ea_machine.specs.Placements.{created, fetched, searched}
use Rattle.ea_machine.specs.Statistics.{observed, unseen}
use Rattle.ea_machine.specs.Operations.{gave, itself, took}
use Rattle.ea_machine.specs.Walks.{after_route, begun, collected}

-- an operation begins with the queue, or goes on with a walk that rested
abbrev pub begins : Option Node → Row
begins None = TakeAll
begins (Some node) = TakeLink

-- the row that is next on a route
abbrev pub wants_on : Route Content → Row
wants_on (Looking hand) = Look hand.spot.carrier
wants_on (Trying hand seen) = BusyTry hand.spot.carrier seen
wants_on (Settling x) = Settle x
wants_on (Abandoning x) = Abandon x
wants_on (Sending x) = SendHome x
wants_on (Clearing x) = Clear x.number
wants_on (Pushing node to) = Push node to
wants_on (Linking node to) = Link node to

-- the row that is next, by where the scheduler is in its operation
abbrev pub wants_at : Option Node → Stage Content → Row
wants_at next Begin = begins next
wants_at next (Routed r why gone) = wants_on r
wants_at next (Collecting number) = Clear number
wants_at next (Searching ask at part) = Look at
wants_at next (Fetching ask at part seen) = FetchTry at seen
wants_at next (Creating ask p) = Create p.number
wants_at next (Giving given to) = Give given
wants_at next (Taking name tries left) = TakeTry name
wants_at next Ended = Nothing
wants_at next Ready = Nothing

-- the row that a scheduler wants next
abbrev pub wants : Actor → Row
wants a = wants_at a.next a.stage

module _ (setup : Setup) (me : ℕ) where
  -- the scheduler once the row that it wanted is answered; where the begin of its operation is over
  -- by that, it is ready for the operation itself
  abbrev pub after_row : Actor → Answer → Stage Content → Actor
  after_row a r Begin = begun setup me a r
  after_row a r (Routed route why gone) = carried why (after_route setup me why)
      (turned setup me route gone a r)
  after_row a r (Collecting number) = collected setup me number a
  after_row a r (Searching ask at part) = searched setup me ask at part a r
  after_row a r (Fetching ask at part seen) = fetched setup me ask at part a r
  after_row a r (Creating ask p) = created setup me ask p a
  after_row a r (Giving given to) = gave given to a
  after_row a r (Taking name tries left) = took name tries left a r
  after_row a r Ended = a
  after_row a r Ready = a

  -- by where the scheduler is
  abbrev pub onward_at : Actor → Stage Content → Actor
  onward_at a Begin = a
  onward_at a (Routed route why gone) = a
  onward_at a (Collecting number) = a
  onward_at a (Searching ask at part) = a
  onward_at a (Fetching ask at part seen) = a
  onward_at a (Creating ask p) = a
  onward_at a (Giving given to) = a
  onward_at a (Taking name tries left) = a
  onward_at a Ended = a
  onward_at a Ready = itself setup me a a.todo

  -- a scheduler that is ready goes on with the operation itself
  abbrev pub onward : Actor → Actor
  onward a = onward_at a a.stage

  -- the scheduler when its row is answered and all is done up to the next one, with its figures
  -- observed
  unfoldable pub after : Actor → Answer → Stage Content → Actor
  after a r stage = observed (onward (after_row a r stage))

module _ (setup : Setup) where
  -- the scheduler does the row, and goes on by its answer
  abbrev pub stepped : State → ℕ → Actor → Stage Content → Row → State
  stepped w me a stage row = record {
    shared = effect me row w.shared;
    actors = put w.actors me (after setup me a (answer me row w.shared) stage);
  }

  -- a step of the scheduler, by where it is in its operation; one that has ended does nothing
  unfoldable pub step_at : State → ℕ → Stage Content → State
  step_at w me Ended = w
  step_at w me stage = stepped w me (w.actors me) stage (wants_at (w.actors me).next stage)

  -- a step of the scheduler
  abbrev pub step : State → ℕ → State
  step w me = step_at w me (w.actors me).stage

  -- steps of these schedulers, one after another
  abbrev pub run_on : State → List ℕ → State
  run_on w [] = w
  run_on w (me ∷ turns) = run_on (step w me) turns

  -- an instance before its first operation, with its main carrier
  abbrev pub full_instance : ℕ → Instance
  full_instance me = new_instance setup.settings me (first_page setup me) setup.pages

  -- by whether the number is a scheduler's: else it has no carriers
  abbrev pub instance_by : Bool → ℕ → Instance
  instance_by true me = full_instance me
  instance_by false me = record (full_instance me) { own = []; contents = []; created = 0 }

  -- the instance of a number
  abbrev pub first_instance : ℕ → Instance
  first_instance me = instance_by (is_scheduler setup me) me

  -- a number that is no scheduler's has ended
  abbrev pub first_stage : Bool → Stage Content
  first_stage true = Begin
  first_stage false = Ended

  -- a scheduler before its first step
  abbrev pub first_actor : ℕ → Actor
  first_actor me = observed
      (record {
        instance = first_instance me;
        lists = no_lists;
        held = [];
        todo = setup.texts me;
        stage = first_stage (is_scheduler setup me);
        passed = [];
        next = None;
        mbcs = unseen;
        sbcs = unseen;
        log = [];
      })

  -- whether the number is that of a scheduler's main carrier, and the settings ask for one
  abbrev pub is_main : ℕ → ℕ → Bool
  is_main me number = is_scheduler setup me
      && (nat_lt 0 setup.settings.mmbcs && (number == first_number me))

  -- the main carriers are employed by their owners; where carriers don't migrate no owner word is
  -- set
  abbrev pub first_place : ℕ → CarrierAt
  first_place number = employed_if (migration setup && is_main (owner_of number) number)
      (owner_of number)

  -- the state before the first step
  abbrev pub start : State
  start = record {
    shared = record { places = first_place; queues = λ i. []; rests = λ i. []; given = [] };
    actors = first_actor;
  }

  -- the state after steps of these schedulers
  abbrev pub run : List ℕ → State
  run turns = run_on start turns

  -- a state that a run comes to
  abbrev pub IsReached : State → Type 0
  IsReached w = (turns : List ℕ) × (w ≡ run turns)
