-- The words of the lines of a text.
use Rattle.std.proofs.Common.{◌≡◌, ℕ, List, [], ◌∷◌, Option, Some, None, map, ap}
use Rattle.std.specs.Borrow.{Bor}
use Rattle.std.specs.Option.{option_map_or}
use Rattle.ea_model.specs.Words.{lines, words}

-- they begin with those of the first line
pub words-first : (text first : List ℕ) (rest : Option (Bor (List ℕ)))
    → lines text ≡ first ∷ option_map_or (λ r. lines r.now) rest []
    → map words (lines text) ≡ words first ∷ option_map_or (λ r. map words (lines r.now)) rest []
words-first text first None e = ap (map words) e
words-first text first (Some r) e = ap (map words) e
