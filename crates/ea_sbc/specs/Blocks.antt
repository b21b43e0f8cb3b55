-- The blocks of a singleblock carrier: one block, or none after its release.
use Rattle.std.specs.Prelude.{List, [], ◌∷◌, Option, None, Some}
use Rattle.ea_model.specs.declared.carriers.Block.{Block}
use Rattle.ea_model.specs.declared.carriers.BlockAt.{BlockAt}
use Rattle.ea_model.specs.declared.units.TheConstants.{HEADER_UNITS}

-- its one block, directly behind its header, and none once that was released
abbrev pub blocks_of : Option Block → List BlockAt
blocks_of None = []
blocks_of (Some b) = record { name = b.name; offset = HEADER_UNITS; size = b.size } ∷ []
