-- What a walk over the headers of a carrier finds.
use Rattle.std.specs.Prelude.{ℕ, if◌then◌else◌}
use Rattle.ea_tags.specs.declared.header.Header.{Header}

-- the free units that a header stands for
abbrev pub free_of : Header → ℕ
free_of h = if h.this_free then h.size else 0
