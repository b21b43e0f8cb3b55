use Rattle.std.proofs.Common.{◌≡◌}
use Rattle.ea_table.specs.Working.{WorksOn, work_left}
use Rattle.ea_table.proofs.worker.Working.run_out.Given as goal

abbrev pub invariant-loop : goal.invariant-loop
invariant-loop g l = record {
  works : WorksOn l.fn.self l.self;
  trace : l.self.scheduler.trace ≡ l.fn.self.scheduler.trace;
}

abbrev pub decreases-loop : goal.decreases-loop
decreases-loop g l = work_left l.self
