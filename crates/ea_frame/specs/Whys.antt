-- Why each fault came: what it says of the words, the input and the ends.
use Rattle.std.specs.Prelude.{◌≡◌, ℕ, ◌+◌, ◌<◌, List, Option, IfSome, Err, length}
use Rattle.std.specs.Io.KnownBytes.{IsAtEnd}
use Rattle.std.specs.declared.string.String.{String}
use Rattle.ea_io.specs.Fronts.{ConsumesAtMost, ConsumesMany}
use Rattle.ea_flags.specs.Flags.{flags}
use Rattle.ea_model.specs.declared.settings.Config.{Config}
use Rattle.ea_model.specs.declared.units.TheConstants.{MAX_INPUT}
use Rattle.ea_frame.specs.declared.faults.Fault.{Fault}
use Rattle.ea_frame.specs.declared.faults.Fault.TheVariants.{Words, Input, TooLong}
use Rattle.ea_frame.specs.declared.faults.Fault.TheVariants.{ReadFailed, WriteFailed, OutOfMemory}
use Rattle.ea_frame.specs.declared.faults.Fault.TheVariants.{ScheduleWanted}
use Rattle.ea_frame.specs.Inputs.{DeclinedInput, GivesSome, GoodWords, OfInput, RefusedInput}
use Rattle.ea_frame.specs.Inputs.{spelled}
use Rattle.ea_frame.specs.Language.{Language, IsDeclined, IsRefused}

-- before and after are what the source had and has left, where it tells it; read and wrote say that
-- the source, and that out, failed
abbrev pub IsWhy : Language → {Z : Type 0} → List (String Z) → Option (List ℕ) → Option (List ℕ)
    → Type 0 → Type 0 → Fault → Type 0
IsWhy language words before after read wrote (Words refusal) = flags (spelled words) ≡ Err refusal
IsWhy language words before after read wrote (Input refusal) = GoodWords words × IsAtEnd after
    × IfSome before (RefusedInput language words refusal)
IsWhy language words before after read wrote TooLong =
    GoodWords words × ConsumesMany before after (MAX_INPUT + 1)
    × IfSome before (λ input. MAX_INPUT < length input)
IsWhy language words before after read wrote ReadFailed = GoodWords words
    × ConsumesAtMost before after MAX_INPUT × read
IsWhy language words before after read wrote WriteFailed = GoodWords words × IsAtEnd after
    × IfSome before (GivesSome language words) × wrote
IsWhy language words before after read wrote OutOfMemory = GoodWords words
IsWhy language words before after read wrote ScheduleWanted = GoodWords words × IsAtEnd after
    × OfInput before (DeclinedInput language words)

-- what may be said where the input was not read to its end
abbrev pub IsReadFault : Option (List ℕ) → Option (List ℕ) → Type 0 → Fault → Type 0
IsReadFault before after read (Words refusal) = ⊥
IsReadFault before after read (Input refusal) = ⊥
IsReadFault before after read TooLong = ConsumesMany before after (MAX_INPUT + 1)
    × IfSome before (λ input. MAX_INPUT < length input)
IsReadFault before after read ReadFailed = ConsumesAtMost before after MAX_INPUT × read
IsReadFault before after read WriteFailed = ⊥
IsReadFault before after read OutOfMemory = Unit {0}
IsReadFault before after read ScheduleWanted = ⊥

-- what may be said where the input gave no text under a configuration
abbrev pub IsTextFault : Language → Config → List ℕ → Fault → Type 0
IsTextFault language c input (Words refusal) = ⊥
IsTextFault language c input (Input refusal) = IsRefused language c input refusal
IsTextFault language c input TooLong = ⊥
IsTextFault language c input ReadFailed = ⊥
IsTextFault language c input WriteFailed = ⊥
IsTextFault language c input OutOfMemory = Unit {0}
IsTextFault language c input ScheduleWanted = IsDeclined language c input
