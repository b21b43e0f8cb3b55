-- A scheduler in a run: when it may step (`Ready`), and what it did (`DidRow`, `Stepped`). It may
-- step if it stands so after turns of its run. Something has to be told (`some`), since an object
-- that tells nothing keeps every clause.
use Rattle.std.specs.Prelude.{◌≡◌, ◌⊎◌, ℕ, List, ◌++◌, None, Some, IfSome, IsSome, replicate}
use Rattle.ea_model.specs.declared.settings.Config.{Config}
use Rattle.ea_model.specs.declared.trace.Trace.{Trace}
use Rattle.ea_model.specs.Content.{Content}
use Rattle.ea_model.specs.Settings.{IsValidConfig}
use Rattle.ea_model.specs.Trace.{IsValidTrace}
use Rattle.ea_machine.specs.Setup.{migration, setup_of}
use Rattle.ea_machine.specs.declared.stages.Stage.{Stage}
use Rattle.ea_machine.specs.Actor.{Actor}
use Rattle.ea_machine.specs.Machine.{after_row, onward, run, run_on, wants}
use Rattle.ea_machine.specs.Rows.{Answer, Row}
use Rattle.ea_machine.specs.Statistics.{observed}
use Rattle.ea_shared.specs.Calls.{Did, KnowsFront, Told, caller_of}
use Rattle.ea_sched.specs.declared.state.Scheduler.{Scheduler}
use Rattle.ea_sched.specs.Acting.{actor_of, setup_for, standing_at}

-- scheduler `me` stands so after these turns of a run of a valid trace under a valid configuration;
-- what is shared is as it is told, or the caller that is told is this scheduler, which knows these
-- turns, or both
pub record Ready (c : Config) (t : Trace) (me : ℕ) (a : Actor) (told : Told) : Type 0 where
  pub config : IsValidConfig c
  pub trace : IsValidTrace c.schedulers t
  pub turns : List ℕ
  pub actor : (run (setup_of c t) turns).actors me ≡ a
  pub shares : IfSome told.shared (λ s. s ≡ (run (setup_of c t) turns).shared)
  pub calls : IfSome told.caller (λ x. x ≡ caller_of (setup_of c t) me turns)
  pub some : IsSome told.shared ⊎ IsSome told.caller

-- scheduler `me`, which stood so after these turns, has taken that many steps there: it is as it is
-- after them, and so is what is shared, where that is told. The caller, where that is told, knew all
-- of these turns but the last ones, which were turns of others; now it knows them and its steps
pub record Stepped (c : Config) (t : Trace) (me count : ℕ) (a b : Actor) (before after : Told)
    : Type 0 where
  pub turns : List ℕ
  pub actor : (run (setup_of c t) turns).actors me ≡ a
  pub is : b ≡ (run_on (setup_of c t) (run (setup_of c t) turns) (replicate count me)).actors me
  pub shares : IfSome before.shared (λ s. (s ≡ (run (setup_of c t) turns).shared)
      × (after.shared ≡ Some
      (run_on (setup_of c t) (run (setup_of c t) turns) (replicate count me)).shared))
  pub shares_untold : before.shared ≡ None → after.shared ≡ None
  pub calls : IfSome before.caller (λ x. KnowsFront (setup_of c t) me turns x
      × (after.caller ≡ Some (caller_of (setup_of c t) me (turns ++ replicate count me))))
  pub calls_untold : before.caller ≡ None → after.caller ≡ None

-- the scheduler stands so, at a stage
abbrev pub IsReadyAt : Stage Content → Scheduler → Told → Type 0
IsReadyAt stage s told = Ready s.config s.trace.now s.number (standing_at stage s) told

-- at its own
abbrev pub IsReady : Scheduler → Told → Type 0
IsReady s told = IsReadyAt s.stage s told

-- the scheduler, at the stage, is to do its row on what is shared, which is of that many schedulers
-- and of names up to a greatest one, and whose carriers migrate exactly if the scheduler's do
pub record StartsRow (stage : Stage Content) (s : Scheduler) (told : Told) : Type 0 where
  pub schedulers : told.schedulers ≡ s.config.schedulers
  pub greatest : told.greatest ≡ s.trace.now.greatest
  pub migrates : told.migrates ≡ migration (setup_for s)
  pub ready : IsReadyAt stage s told

-- the scheduler stands so after some turns of its run, whatever is told of it
abbrev pub HasReached : Scheduler → Type 0
HasReached s = (told : Told) × IsReady s told

-- the scheduler once the row that it wanted is answered: it has gone on, up to its next row
abbrev pub gone_on_by : Scheduler → Answer → Actor
gone_on_by s got = onward (setup_for s) s.number
    (after_row (setup_for s) s.number (actor_of s) got s.stage)

-- the row that the scheduler wanted at the stage was done, and it has gone on by the answer, up to
-- its next row
pub record DidRow (stage : Stage Content) (s t : Scheduler) (before after : Told) : Type 0 where
  pub row : Row
  pub got : Answer
  pub wanted : wants (standing_at stage s) ≡ row
  pub did : Did s.number row got before after
  pub is : actor_of t ≡ onward (setup_for s) s.number
      (after_row (setup_for s) s.number (standing_at stage s) got stage)

-- the same, with the figures of the scheduler's carriers observed after it
pub record ObservedRow (stage : Stage Content) (s t : Scheduler) (before after : Told) : Type 0 where
  pub gone_on : Scheduler
  pub row : DidRow stage s gone_on before after
  pub is : actor_of t ≡ observed (actor_of gone_on)
