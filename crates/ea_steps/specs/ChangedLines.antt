-- The lines of the carriers that a step took away, made or left with fewer pages, by what code
-- finds: the number of the carrier that was made, and which carriers are there after the step.
-- This simulator's own: the sources do not speak of it.
use Rattle.std.specs.Prelude.{ℕ, Bool, true, false, not, ◌&&◌, ◌||◌, ◌==◌, nat_lt, List, [], ◌∷◌}
use Rattle.std.specs.Prelude.{◌++◌, Option, None, Some, codes, decimal, is_none}
use Rattle.std.specs.Option.{option_map_or}
use Rattle.ea_model.specs.declared.carriers.CarrierLine.{CarrierLine}
use Rattle.ea_report.specs.Text.{kind_text, line}

-- whether it is that number
abbrev pub is_number : Option ℕ → ℕ → Bool
is_number found number = option_map_or (λ n. n == number) found false

abbrev pub gone_line : ℕ → List ℕ
gone_line number = line (codes "gone") (decimal number ∷ [])

abbrev pub shrunk_line : CarrierLine → List ℕ
shrunk_line x = line (codes "shrunk")
    (decimal x.number ∷ codes "pages" ∷ decimal x.pages ∷ [])

abbrev pub made_line : CarrierLine → List ℕ
made_line x = line (codes "made") (decimal x.number ∷ kind_text x.kind ∷ codes "base"
    ∷ decimal x.base ∷ codes "pages" ∷ decimal x.pages ∷ [])

abbrev pub gone_if : Bool → ℕ → List ℕ
gone_if true number = gone_line number
gone_if false number = []

abbrev pub shrunk_line_if : Bool → CarrierLine → List ℕ
shrunk_line_if true x = shrunk_line x
shrunk_line_if false x = []

-- by whether the carrier is a new one, and by how it is now
abbrev pub shrunk_by : Bool → CarrierLine → Option CarrierLine → List ℕ
shrunk_by true before now = []
shrunk_by false before None = []
shrunk_by false before (Some now) = shrunk_line_if (nat_lt now.pages before.pages) now

abbrev pub made_line_of : Option CarrierLine → List ℕ
made_line_of None = []
made_line_of (Some x) = made_line x

module _ (made : Option ℕ) (found : ℕ → Option CarrierLine) where
  -- whether a carrier that was there is gone
  abbrev pub has_gone : ℕ → Bool
  has_gone number = is_number made number || is_none (found number)

  -- of numbers that don't fall, each once: `last` is the one before these
  abbrev pub gone_lines : Option ℕ → List ℕ → List ℕ
  gone_lines last [] = []
  gone_lines last (n ∷ ns) = gone_if (not (is_number last n) && has_gone n) n
      ++ gone_lines (Some n) ns

  -- of a carrier as it was
  abbrev pub shrunk_lines : Option CarrierLine → List ℕ
  shrunk_lines None = []
  shrunk_lines (Some before) =
      shrunk_by (is_number made before.number) before (found before.number)

-- of the carrier that was made
abbrev pub made_lines : Option ℕ → (ℕ → Option CarrierLine) → List ℕ
made_lines None found = []
made_lines (Some number) found = made_line_of (found number)
