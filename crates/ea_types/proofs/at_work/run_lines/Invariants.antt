use Rattle.ea_types.specs.Tables.{AllWorkOn}
use Rattle.ea_types.proofs.at_work.run_lines.Given as goal

abbrev pub invariant-loop-line : goal.invariant-loop-line
invariant-loop-line g l = AllWorkOn l.fn.working l.working
