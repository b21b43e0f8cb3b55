use Rattle.std.proofs.Common.{◌≡◌, ◌+◌, ◌<◌, ◌≤◌, false}
use Rattle.ea_table.specs.Working.{WorksOn, entries, work_left}
use Rattle.ea_table.proofs.worker.Working.operate.Given as goal

abbrev pub invariant-loop-alloc : goal.invariant-loop-alloc
invariant-loop-alloc g l = record {
  works : WorksOn l.fn.self l.self;
  before : l.entries ≡ entries l.fn.self;
  from : entries l.fn.self ≤ entries l.self;
  to : entries l.self ≤ entries l.fn.self + 1;
  goes : entries l.fn.self < entries l.self → l.self.scheduler.failed ≡ false;
}

abbrev pub decreases-loop-alloc : goal.decreases-loop-alloc
decreases-loop-alloc g l = work_left l.self
