-- What the words of a line stand for.
use Rattle.std.specs.Prelude.{ℕ, ◌+◌, List, [], ◌∷◌, ◌++◌, codes, decimal}
use Rattle.ea_report.specs.Text.{line}
use Rattle.ea_report.specs.declared.lines.Word as code
use Rattle.ea_report.specs.declared.lines.Word.TheVariants.{Text, Number, Sum}

-- the text of a word
abbrev pub word_text : code.Word → List ℕ
word_text (Text t) = t.now
word_text (Number n) = decimal n
word_text (Sum n) = decimal n

-- words, each after a space, and then the rest
abbrev pub spaced : List (List ℕ) → List ℕ → List ℕ
spaced [] rest = rest
spaced (w ∷ ws) rest = 32 ∷ w ++ spaced ws rest

-- texts of logs, of schedulers from that number on, each after a line with its number
abbrev pub headed_texts : ℕ → List (List ℕ) → List ℕ
headed_texts i [] = []
headed_texts i (text ∷ texts) = line (codes "scheduler") (decimal i ∷ []) ++ text
    ++ headed_texts (i + 1) texts
