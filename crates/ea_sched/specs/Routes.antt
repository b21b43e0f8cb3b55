-- What a row of a release route leaves, and where a scheduler goes on from there.
use Rattle.std.specs.Prelude.{◌≡◌, ℕ}
use Rattle.ea_model.specs.Content.{Content}
use Rattle.ea_machine.specs.declared.stages.Route.{Route}
use Rattle.ea_machine.specs.declared.stages.Stage.{Stage}
use Rattle.ea_machine.specs.declared.stages.Stage.TheVariants.{Routed}
use Rattle.ea_machine.specs.declared.tasks.Gone.{Gone}
use Rattle.ea_machine.specs.declared.tasks.Why.{Why}
use Rattle.ea_machine.specs.Actor.{Actor}
use Rattle.ea_machine.specs.Machine.{onward, wants_on}
use Rattle.ea_machine.specs.Releases.{disowned, struck, turned}
use Rattle.ea_machine.specs.Releases as releases
use Rattle.ea_machine.specs.Rows.{Answer, Clear}
use Rattle.ea_machine.specs.Setup.{Setup}
use Rattle.ea_machine.specs.Tasks.{carried}
use Rattle.ea_machine.specs.Walks.{after_route}
use Rattle.ea_shared.specs.Calls.{Did, Told}
use Rattle.ea_sched.specs.declared.routes.Turned.{Turned}
use Rattle.ea_sched.specs.declared.state.Scheduler.{Scheduler}
use Rattle.ea_sched.specs.Acting.{setup_for, standing_at}
use Rattle.ea_sched.specs.Steps.{StartsRow}

-- what is left of a route, with its scheduler
abbrev pub turned_of : Turned → Actor → releases.Turned
turned_of t a = record { actor = a; route = t.route; gone = t.gone }

-- the scheduler waits for the route's next row, or has gone on from its end
abbrev pub carried_on : Setup → ℕ → Why → releases.Turned → Actor
carried_on setup me why t = onward setup me (carried why (after_route setup me why) t)

-- the scheduler is to do the row of a route, whatever the block is released for
pub record StartsRoute (route : Route Content) (gone : Gone) (s : Scheduler) (told : Told) : Type 0
  where
    pub why : Why
    pub row : StartsRow (Routed route why gone) s told

-- the row of a route that the scheduler wanted was done, and its answer leaves this
pub record TurnedRow (route : Route Content) (gone : Gone) (s t : Scheduler) (left : Turned)
    (before after : Told) : Type 0 where
  pub got : Answer
  pub did : Did s.number (wants_on route) got before after
  pub is : (at : Stage Content) → turned_of left (standing_at at t)
      ≡ turned (setup_for s) s.number route gone (standing_at at s) got

-- the row of a carrier that came home was done: the scheduler no longer owns the carrier
pub record CollectedRow (number : ℕ) (s t : Scheduler) (before after : Told) : Type 0 where
  pub got : Answer
  pub did : Did s.number (Clear number) got before after
  pub is : (at : Stage Content) → standing_at at t
      ≡ disowned number (struck number (standing_at at s))
