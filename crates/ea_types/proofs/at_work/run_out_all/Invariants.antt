use Rattle.std.specs.List.{AllWithin}
use Rattle.ea_table.specs.Working.{IsThrough}
use Rattle.ea_types.specs.Tables.{AllWorkOn}
use Rattle.ea_types.proofs.at_work.run_out_all.Given as goal

abbrev pub invariant-loop-place : goal.invariant-loop-place
invariant-loop-place g l = record {
  works : AllWorkOn l.fn.working l.working;
  through : AllWithin IsThrough l.working 0 l.place;
}
