use Rattle.std.proofs.Common.{◌≡◌, ◌++◌, map}
use Rattle.std.specs.Prelude.{All}
use Rattle.ea_table.specs.declared.worker.Finished.{Finished}
use Rattle.ea_table.specs.Ruling.{acting}
use Rattle.ea_table.proofs.Taking.{beside}
use Rattle.ea_table.proofs.ending.take_in.Given as goal

abbrev pub invariant-loop-other : goal.invariant-loop-other
invariant-loop-other l = record {
  all : l.yielded ++ l.other-iterator.rest.items ≡ l.fn.others.items;
  table : l.seat.table_id ≡ l.fn.table.shared.table_id;
  rest : All (λ (f : Finished). f.pass.seat.table_id ≡ l.fn.table.shared.table_id)
      l.other-iterator.rest.items;
  view : l.seat.me.0
      ≡ beside l.fn.seat.me.0 (map (λ (f : Finished). acting f.pass.seat.me.0) l.yielded);
  schedulers : l.schedulers.items ≡ map (λ (f : Finished). f.scheduler) l.yielded;
}
