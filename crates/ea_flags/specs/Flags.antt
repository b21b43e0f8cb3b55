-- The configuration that words ask for, or their first refusal (`flags`).
-- This simulator's own: the sources leave it undecided.
use Rattle.std.specs.Prelude.{ℕ, ◌+◌, if◌then◌else◌, List, [], ◌∷◌, Option, Some, None, Result, Ok}
use Rattle.std.specs.Prelude.{Err, fold}
use Rattle.ea_model.specs.declared.settings.Config.{Config}
use Rattle.ea_flags.specs.declared.config.TheConstants.{DEFAULT_CONFIG}
use Rattle.ea_flags.specs.declared.flag.Flag.{Flag}
use Rattle.ea_flags.specs.declared.flag.Flag.TheVariants.{NotSimulated}
use Rattle.ea_flags.specs.declared.fault.FlagFault.{FlagFault}
use Rattle.ea_flags.specs.declared.fault.FlagFault.TheVariants as fault
use Rattle.ea_flags.specs.declared.setting.Setting.{Setting}
use Rattle.ea_flags.specs.declared.setting.ValueFault.{ValueFault}
use Rattle.ea_flags.specs.declared.setting.ValueFault.TheVariants.{Bad, Unsupported}
use Rattle.ea_flags.specs.Words.{flag_of}
use Rattle.ea_flags.specs.Values.{setting_of}
use Rattle.ea_flags.specs.Configs.{set_by, settled, fits_all}

-- the settings of some words, or their first refusal
abbrev pub Read : Type 0
Read = Result (List Setting) FlagFault

-- the flag is the word after the first n, and its value the next one
abbrev pub set_at : ℕ → Result Setting ValueFault → Result Setting FlagFault
set_at n (Ok s) = Ok s
set_at n (Err Bad) = Err (fault.BadValue (n + 2))
set_at n (Err Unsupported) = Err (fault.Unsupported (n + 1))

abbrev pub pair_at : ℕ → Option Flag → List ℕ → Result Setting FlagFault
pair_at n None value = Err (fault.Unknown (n + 1))
pair_at n (Some flag) value = set_at n (setting_of flag value)

-- the last word has no value after it
abbrev pub alone_at : ℕ → Option Flag → FlagFault
alone_at n None = fault.Unknown (n + 1)
alone_at n (Some NotSimulated) = fault.Unsupported (n + 1)
alone_at n (Some flag) = fault.NoValue (n + 1)

abbrev pub then_settings : Setting → Read → Read
then_settings s (Ok later) = Ok (s ∷ later)
then_settings s (Err f) = Err f

abbrev pub then_read : Result Setting FlagFault → Read → Read
then_read (Ok s) read = then_settings s read
then_read (Err f) read = Err f

-- what the words after the first n set: a flag and its value are a pair
abbrev pub settings_after : ℕ → List (List ℕ) → Read
settings_after n [] = Ok []
settings_after n (word ∷ []) = Err (alone_at n (flag_of word))
settings_after n (word ∷ value ∷ words) = then_read (pair_at n (flag_of word) value)
    (settings_after (n + 2) words)

-- each allocator's main carrier has to fit an instance's region
abbrev pub if_fits : Config → Result Config FlagFault
if_fits c = if fits_all c then Ok c else Err fault.SpaceTooSmall

-- of two settings of one thing the later holds
abbrev pub config_by : Config → Read → Result Config FlagFault
config_by c (Ok settings) = if_fits (settled (fold set_by c settings))
config_by c (Err f) = Err f

-- the configuration that the words ask for, or their first refusal
abbrev pub flags : List (List ℕ) → Result Config FlagFault
flags words = config_by DEFAULT_CONFIG (settings_after 0 words)
