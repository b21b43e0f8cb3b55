use Rattle.std.proofs.Common.{◌≡◌, ◌++◌, map}
use Rattle.std.specs.Prelude.{All}
use Rattle.ea_segments.specs.declared.pass.Pass.{Pass}
use Rattle.ea_segments.specs.Ruling.{acting}
use Rattle.ea_segments.proofs.Ending.{beside}
use Rattle.ea_segments.proofs.closing.take_in.Given as goal

abbrev pub invariant-loop-other : goal.invariant-loop-other
invariant-loop-other l = record {
  all : l.yielded ++ l.other-iterator.rest.items ≡ l.fn.others.items;
  table : l.seat.table_id ≡ l.fn.table.shared.table_id;
  rest : All (λ (p : Pass). p.seat.table_id ≡ l.fn.table.shared.table_id)
      l.other-iterator.rest.items;
  view : l.seat.me.0 ≡ beside l.fn.seat.me.0 (map (λ (p : Pass). acting p.seat.me.0) l.yielded);
}
