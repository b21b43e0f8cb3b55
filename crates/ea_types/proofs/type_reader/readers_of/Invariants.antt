use Rattle.std.proofs.Common.{◌≡◌, length, take}
use Rattle.std.specs.List.{All}
use Rattle.ea_trace.specs.Language.{WordLines}
use Rattle.ea_types.specs.Language.{AreSkipped}
use Rattle.ea_types.specs.Readers.{HasRead, begun_with, letters_of}
use Rattle.ea_types.proofs.type_reader.readers_of.Given as goal

abbrev pub invariant-loop-letter : goal.invariant-loop-letter
invariant-loop-letter l = record {
  letters : letters_of l.readers.items ≡ take l.letter-index l.letters;
  taken : (lines : WordLines) → AreSkipped lines → length lines ≡ l.skipped
      → All (HasRead l.schedulers (begun_with lines)) l.readers.items;
}
