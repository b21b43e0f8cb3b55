use Rattle.std.proofs.Common.{◌≡◌, ℕ, map}
use Rattle.std.specs.List.{All}
use Rattle.ea_model.specs.Trace.{IsValidTrace, plain}
use Rattle.ea_types.specs.Language.{traces_by}
use Rattle.ea_types.specs.Readers.{HasRead, TypeLines, letters_of}
use Rattle.ea_types.proofs.Traces.{and_traces}
use Rattle.ea_types.proofs.type_reader.finish_each.Given as goal

abbrev pub invariant-loop-reader : goal.invariant-loop-reader
invariant-loop-reader l = record {
  left : (n : ℕ) (lines : TypeLines) → All (HasRead n lines) l.fn.readers.items
      → All (HasRead n lines) l.reader-iterator.rest.items;
  given : (n : ℕ) (lines : TypeLines) → All (HasRead n lines) l.fn.readers.items
      → traces_by n lines (letters_of l.fn.readers.items) ≡ and_traces (map plain l.traces.items)
      (traces_by n lines (letters_of l.reader-iterator.rest.items));
  valid : (n : ℕ) (lines : TypeLines) → All (HasRead n lines) l.fn.readers.items
      → All (IsValidTrace n) l.traces.items;
}
