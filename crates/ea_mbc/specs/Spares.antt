-- What contracts see of carriers that are kept.
use Rattle.std.specs.Prelude.{ℕ}
use Rattle.ea_mbc.specs.declared.spare.Spare.{Spare}

-- the most units that they have together
abbrev pub most_of : Spare → ℕ
most_of s = s.most
