use Rattle.std.proofs.Common.{◌+◌, ◌*◌, ◌≤◌, ◌∷◌}
use Rattle.ea_trace.specs.Lines.{type_line}
use Rattle.ea_trace.specs.Taken.{lines_taken}
use Rattle.ea_recorded.specs.Language.{sections, unplaced}
use Rattle.ea_recorded.specs.Told.{AreTold, HasLines, ToldLines}
use Rattle.ea_recorded.proofs.sections.trace_of_lines.Given as goal

abbrev pub invariant-loop-before : goal.invariant-loop-before
invariant-loop-before l = record {
  most : l.before ≤ l.schedulers;
  count : lines_taken l.trace.reader ≤ 1 + l.before * 16777218;
  taken : (told : ToldLines) → AreTold told l.lines
      → HasLines l.schedulers (unplaced (type_line l.fn.letter) ∷ sections l.before 1 told) l.trace;
}
