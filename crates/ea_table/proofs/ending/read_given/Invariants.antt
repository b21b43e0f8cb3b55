use Rattle.std.proofs.Common.{◌≡◌}
use Rattle.std.specs.Mem.Slots.{slots_items}
use Rattle.ea_names.specs.Holding.{IsWhole}
use Rattle.ea_table.proofs.Reading.{AreRead}
use Rattle.ea_table.proofs.ending.read_given.Given as goal

abbrev pub invariant-loop-before : goal.invariant-loop-before
invariant-loop-before l = record {
  greatest : l.given.greatest ≡ l.fn.greatest;
  whole : IsWhole l.given;
  read : AreRead l.fn.schedulers l.fn.greatest (slots_items l.fn.closed.words) l.before
      l.given.held;
}
