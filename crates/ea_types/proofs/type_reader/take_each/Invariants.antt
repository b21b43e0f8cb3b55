use Rattle.std.proofs.Common.{◌≡◌, ℕ, length}
use Rattle.std.specs.List.{All, AllWithin}
use Rattle.ea_trace.specs.Language.{LineWords}
use Rattle.ea_trace.specs.Lines.{line_of_words}
use Rattle.ea_trace.specs.Says.{said}
use Rattle.ea_types.specs.Readers.{HasRead, HasRoom, TypeLines, and_line, letters_of, own_word}
use Rattle.ea_types.proofs.type_reader.take_each.Given as goal

abbrev pub invariant-loop-reader : goal.invariant-loop-reader
invariant-loop-reader l = record {
  letters : letters_of l.readers ≡ letters_of l.initial.readers;
  room : AllWithin HasRoom l.readers l.reader-index (length l.readers);
  taken : (n : ℕ) (lines : TypeLines) (words : LineWords) → All (HasRead n lines) l.initial.readers
      → said l.line ≡ line_of_words words
      → AllWithin (HasRead n (and_line lines (own_word l.word) words)) l.readers 0 l.reader-index
      × AllWithin (HasRead n lines) l.readers l.reader-index (length l.readers);
}
