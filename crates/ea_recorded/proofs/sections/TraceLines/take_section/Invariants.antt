use Rattle.std.proofs.Common.{ℕ, ◌+◌, ◌≤◌, ◌++◌, length}
use Rattle.ea_trace.specs.Taken.{lines_taken}
use Rattle.ea_recorded.specs.Told.{AreTold, HasLines, PlacedLines, ToldLines}
use Rattle.ea_recorded.proofs.Feeding.{own_upto}
use Rattle.ea_recorded.proofs.sections.TraceLines.take_section.Given as goal

abbrev pub invariant-loop-line : goal.invariant-loop-line
invariant-loop-line l = record {
  count : lines_taken l.self.reader ≤ lines_taken l.initial.self.reader + l.line-index;
  most : l.line-index ≤ length l.lines;
  taken : (n : ℕ) (ls : PlacedLines) (told : ToldLines) → HasLines n ls l.initial.self
      → AreTold told l.lines → HasLines n (ls ++ own_upto l.me l.line-index told) l.self;
}
