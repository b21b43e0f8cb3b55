-- The number of a refused word, and the message about it.
-- This simulator's own: the sources do not speak of it.
use Rattle.std.specs.Prelude.{ℕ, List, Option, Some, None, codes}
use Rattle.ea_flags.specs.declared.fault.FlagFault.{FlagFault}
use Rattle.ea_flags.specs.declared.fault.FlagFault.TheVariants.{Unknown, NoValue, BadValue}
use Rattle.ea_flags.specs.declared.fault.FlagFault.TheVariants.{Unsupported, SpaceTooSmall}

-- the number of the refused word, from 1; None where no word alone is refused
abbrev pub word_of : FlagFault → Option ℕ
word_of (Unknown word) = Some word
word_of (NoValue word) = Some word
word_of (BadValue word) = Some word
word_of (Unsupported word) = Some word
word_of SpaceTooSmall = None

-- what is wrong
abbrev pub message_of : FlagFault → List ℕ
message_of (Unknown word) = codes "unknown flag"
message_of (NoValue word) = codes "value missing"
message_of (BadValue word) = codes "bad value"
message_of (Unsupported word) = codes "unsupported"
message_of SpaceTooSmall = codes "super carrier too small"
