-- The word of a header, as a number (`code`).
use Rattle.std.specs.Prelude.{ℕ, ◌+◌, ◌*◌, Bool, if◌then◌else◌}
use Rattle.ea_tags.specs.declared.header.Header.{Header}

abbrev pub bit : Bool → ℕ
bit b = if b then 1 else 0

-- eight times the units, and a bit each for a gap, for a gap directly before it, and for the last
-- block or gap of its carrier
abbrev pub code : Header → ℕ
code h = h.size * 8 + bit h.this_free + 2 * bit h.prev_free + 4 * bit h.last
