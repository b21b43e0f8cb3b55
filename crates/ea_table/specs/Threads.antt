-- Schedulers that run beside each other: workers before a run and after it (`IsFresh`, `IsAtRest`),
-- and the outcome of the run (`IsOfRun`).
use Rattle.std.specs.Prelude.{◌≡◌, ℕ, List, true, false, IsFalse}
use Rattle.atomic_table.specs.Seated.{TableId}
use Rattle.ea_model.specs.declared.outcome.Outcome.{Outcome}
use Rattle.ea_model.specs.declared.settings.Config.{Config}
use Rattle.ea_model.specs.declared.trace.Trace.{Trace}
use Rattle.ea_model.specs.Outcome.{plain_outcome}
use Rattle.ea_machine.specs.Courses.{AllRest, AreSteps, AreWithin}
use Rattle.ea_machine.specs.Machine.{first_actor}
use Rattle.ea_machine.specs.Outcome as machine
use Rattle.ea_machine.specs.Setup.{setup_of}
use Rattle.ea_sched.specs.declared.state.Scheduler.{Scheduler}
use Rattle.ea_sched.specs.Acting.{actor_of, rests}
use Rattle.ea_table.specs.declared.pass.Pass.{Pass}
use Rattle.ea_table.specs.declared.worker.Finished.{Finished}
use Rattle.ea_table.specs.declared.worker.Worker.{Worker}
use Rattle.ea_table.specs.Ending.{IsLast}
use Rattle.ea_table.specs.Ruling.{waiting_from}

module _ (c : Config) (t : Trace) where
  -- a pass of that table for scheduler i before its first step
  pub record IsDealt (id : TableId) (i : ℕ) (p : Pass) : Type 0 where
    pub seated : p.seat.table_id ≡ id
    pub view : p.seat.me.0 ≡ waiting_from c t i 1

  -- scheduler i before its first step
  pub record IsFirst (i : ℕ) (s : Scheduler) : Type 0 where
    pub config : s.config ≡ c
    pub trace : s.trace.now ≡ t
    pub number : s.number ≡ i
    pub going : s.failed ≡ false
    pub actor : actor_of s ≡ first_actor (setup_of c t) i
    pub left : s.left ≡ s.stop

  -- scheduler i with its pass of that table, before its first step
  pub record IsFresh (id : TableId) (i : ℕ) (w : Worker) : Type 0 where
    pub scheduler : IsFirst i w.scheduler
    pub pass : IsDealt id i w.pass

  -- scheduler i has ended or is stopped, if it had memory
  pub record IsAtRest (id : TableId) (i : ℕ) (f : Finished) : Type 0 where
    pub last : IsFalse f.out_of_memory → IsLast c t id i f
    pub rest : IsFalse f.out_of_memory → rests f.scheduler ≡ true

  -- what is printed is that of the run after some steps, in whatever order of the schedulers, of
  -- each up to its stop, after which all have ended or are stopped
  pub record IsOfRun (outcome : Outcome) : Type 0 where
    pub turns : List ℕ
    pub steps : AreSteps (setup_of c t) turns
    pub within : AreWithin (setup_of c t) turns
    pub rest : AllRest (setup_of c t) turns
    pub printed : plain_outcome outcome ≡ machine.outcome (setup_of c t) turns
