-- The lines of an input, and those that are left of a text.
use Rattle.std.specs.Prelude.{ℕ, List, [], Option}
use Rattle.std.specs.Borrow.{Bor}
use Rattle.std.specs.Option.{option_map_or}
use Rattle.ea_trace.specs.Language.{WordLines, lines_of}

-- the lines of what is left of a text
abbrev pub rest_lines : Option (Bor (List ℕ)) → WordLines
rest_lines rest = option_map_or (λ r. lines_of r.now) rest []
