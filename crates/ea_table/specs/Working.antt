-- A worker that can pause, in a run (`AtWork`).
use Rattle.std.specs.Prelude.{◌≡◌, ℕ, false, true, length}
use Rattle.atomic_table.specs.Seated.{TableId}
use Rattle.ea_model.specs.declared.settings.Config.{Config}
use Rattle.ea_model.specs.declared.trace.Trace.{Trace}
use Rattle.ea_sound.specs.OwnWork.{own_work}
use Rattle.ea_sched.specs.Acting.{actor_of, rests}
use Rattle.ea_sched.specs.Steps.{IsReady}
use Rattle.ea_table.specs.declared.worker.Working.{Working}
use Rattle.ea_table.specs.Ending.{IsCounted}
use Rattle.ea_table.specs.Ruling.{caller_in, told_in}

-- scheduler i of the run is at work at that table. Unless it had no memory, it stands so in a state
-- of the run, its pass knows it as it stands there, and the steps left to it are counted
pub record AtWork (c : Config) (t : Trace) (id : TableId) (i : ℕ) (w : Working) : Type 0 where
  pub table : w.shared.board.now.table.shared.table_id ≡ id
  pub config : w.scheduler.config ≡ c
  pub trace : w.scheduler.trace.now ≡ t
  pub number : w.scheduler.number ≡ i
  pub known_config : w.shared.pass.seat.me.0.config ≡ c
  pub known_trace : w.shared.pass.seat.me.0.trace ≡ t
  pub ready : w.scheduler.failed ≡ false
      → IsReady w.scheduler (told_in w.shared.pass.seat.me.0)
  pub counted : w.scheduler.failed ≡ false → IsCounted w.shared.pass.seat.me.0 w.scheduler

-- it is, in some run and at some table
abbrev pub IsAtWork : Working → Type 0
IsAtWork w = (c : Config) × (t : Trace) × (id : TableId) × (i : ℕ) × AtWork c t id i w

-- in whatever run and at whatever table it was at work, it still is
abbrev pub WorksOn : Working → Working → Type 0
WorksOn w v = (c : Config) (t : Trace) (id : TableId) (i : ℕ) → AtWork c t id i w
    → AtWork c t id i v

-- how many entries its log has
abbrev pub entries : Working → ℕ
entries w = length w.scheduler.log.items

-- the steps that it takes until it has ended, at most
abbrev pub work_left : Working → ℕ
work_left w = own_work w.scheduler.config w.scheduler.trace.now (actor_of w.scheduler)
    (caller_in w.shared.pass.seat.me.0).rest

-- it had memory, and takes no step any more
abbrev pub IsThrough : Working → Type 0
IsThrough w = (w.scheduler.failed ≡ false) × (rests w.scheduler ≡ true)
