use Rattle.std.proofs.Common.{◌≡◌, length, take}
use Rattle.ea_trace.specs.Language.{WordLines}
use Rattle.ea_trace.specs.Taken.{HasTaken, lines_taken}
use Rattle.ea_types.specs.Language.{AreSkipped}
use Rattle.ea_types.proofs.type_reader.TypeReader.new.Given as goal

abbrev pub invariant-loop-count : goal.invariant-loop-count
invariant-loop-count l = record {
  count : lines_taken l.reader ≡ l._count;
  taken : (lines : WordLines) → AreSkipped lines → length lines ≡ l.skipped
      → HasTaken l.schedulers (take l._count lines) l.reader;
}
