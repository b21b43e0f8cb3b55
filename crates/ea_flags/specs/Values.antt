-- What a flag and its value set.
-- Source of the strategies' names, and of `de`, `true` and `false`: Erlang/OTP, 'erts_alloc',
-- sections 'Flags for Configuration of mseg_alloc' and 'Flags for Configuration of Allocators Based
-- on alloc_util'. This simulator's own: which values are read, and in which form.
use Rattle.std.specs.Prelude.{ℕ, ◌*◌, Bool, true, false, nat_lt, if◌then◌else◌, List, Option, Some}
use Rattle.std.specs.Prelude.{None, Result, Ok, Err, codes, bytes_eq}
use Rattle.ea_model.specs.declared.settings.Strategy.{Strategy}
use Rattle.ea_model.specs.declared.settings.Strategy.TheVariants.{Bf, Aobf, Aoff, AoffCbf}
use Rattle.ea_model.specs.declared.settings.Strategy.TheVariants.{AoffCaobf, AgeffCaoff, AgeffCbf}
use Rattle.ea_model.specs.declared.settings.Strategy.TheVariants.{AgeffCaobf, Gf, Af}
use Rattle.ea_model.specs.declared.units.TheConstants.{KILOBYTE_UNITS, MAX_BYTES}
use Rattle.ea_model.specs.declared.units.TheConstants.{MAX_GROWTH_CARRIERS, MAX_MEGABYTES}
use Rattle.ea_model.specs.declared.units.TheConstants.{MAX_PERCENT, MAX_SCHEDULERS}
use Rattle.ea_model.specs.declared.units.TheConstants.{MAX_SEARCH_DEPTH}
use Rattle.ea_model.specs.Words.{number}
use Rattle.ea_flags.specs.declared.flag.Flag.{Flag}
use Rattle.ea_flags.specs.declared.flag.Flag.TheVariants as flag
use Rattle.ea_flags.specs.declared.flag.Parameter.{Parameter}
use Rattle.ea_flags.specs.declared.flag.Parameter.TheVariants as parameter
use Rattle.ea_flags.specs.declared.setting.Change.{Change}
use Rattle.ea_flags.specs.declared.setting.Change.TheVariants as change
use Rattle.ea_flags.specs.declared.setting.Setting.{Setting}
use Rattle.ea_flags.specs.declared.setting.Setting.TheVariants as setting
use Rattle.ea_flags.specs.declared.setting.ValueFault.{ValueFault}
use Rattle.ea_flags.specs.declared.setting.ValueFault.TheVariants.{Bad, Unsupported}
use Rattle.ea_flags.specs.declared.value.TheConstants.{DEFAULT_ACUL, LEAST_ACNL, MAX_ACNL}
use Rattle.ea_flags.specs.declared.value.TheConstants.{MAX_KILOBYTES}

-- the strategy of this name, by the age of carriers, by good fit or by a fit
abbrev pub other_strategy : List ℕ → Option Strategy
other_strategy name =
    if bytes_eq name (codes "ageffcaoff") then Some AgeffCaoff
    else if bytes_eq name (codes "ageffcbf") then Some AgeffCbf
    else if bytes_eq name (codes "ageffcaobf") then Some AgeffCaobf
    else if bytes_eq name (codes "gf") then Some Gf
    else if bytes_eq name (codes "af") then Some Af
    else None

-- the strategy of this name
abbrev pub strategy_named : List ℕ → Option Strategy
strategy_named name =
    if bytes_eq name (codes "bf") then Some Bf
    else if bytes_eq name (codes "aobf") then Some Aobf
    else if bytes_eq name (codes "aoff") then Some Aoff
    else if bytes_eq name (codes "aoffcbf") then Some AoffCbf
    else if bytes_eq name (codes "aoffcaobf") then Some AoffCaobf
    else other_strategy name

-- a value of the flag
abbrev pub good : {A : Type 0} → Option A → Result A ValueFault
good (Some a) = Ok a
good None = Err Bad

-- a number from low to high
abbrev pub ranged : ℕ → ℕ → List ℕ → Result ℕ ValueFault
ranged low high value = good (number low high value)

abbrev pub percent : List ℕ → Result ℕ ValueFault
percent value = ranged 0 MAX_PERCENT value

abbrev pub in_units : Result ℕ ValueFault → Result ℕ ValueFault
in_units (Ok kilobytes) = Ok (KILOBYTE_UNITS * kilobytes)
in_units (Err e) = Err e

-- a number of kilobytes, in units
abbrev pub kilobytes : ℕ → List ℕ → Result ℕ ValueFault
kilobytes low value = in_units (ranged low MAX_KILOBYTES value)

-- the abandon carrier utilization limit; `de` is its default
abbrev pub utilization_limit : List ℕ → Result ℕ ValueFault
utilization_limit value = if bytes_eq value (codes "de") then Ok DEFAULT_ACUL else percent value

-- a limit on the number of abandoned carriers, which has no effect where it is large enough
abbrev pub no_effect : {A : Type 0} → A → Result ℕ ValueFault → Result A ValueFault
no_effect nothing (Ok n) = if nat_lt n LEAST_ACNL then Err Unsupported else Ok nothing
no_effect nothing (Err e) = Err e

abbrev pub number_limit : {A : Type 0} → A → List ℕ → Result A ValueFault
number_limit nothing value = no_effect nothing (ranged 0 MAX_ACNL value)

abbrev pub truth : List ℕ → Result Bool ValueFault
truth value =
    if bytes_eq value (codes "true") then Ok true
    else if bytes_eq value (codes "false") then Ok false
    else Err Bad

-- `true` holds anyway, and `false` isn't simulated
abbrev pub only_true : {A : Type 0} → A → List ℕ → Result A ValueFault
only_true nothing value =
    if bytes_eq value (codes "true") then Ok nothing
    else if bytes_eq value (codes "false") then Err Unsupported
    else Err Bad

-- what a value sets
abbrev pub sets : {A B : Type 0} → (A → B) → Result A ValueFault → Result B ValueFault
sets f (Ok a) = Ok (f a)
sets f (Err e) = Err e

-- what a parameter and its value change
abbrev pub change_of : Parameter → List ℕ → Result Change ValueFault
change_of parameter.As value = sets change.As (good (strategy_named value))
change_of parameter.Acul value = sets change.Acul (utilization_limit value)
change_of parameter.Acfml value = sets change.Acfml (ranged 0 MAX_BYTES value)
change_of parameter.Acnl value = number_limit change.Nothing value
change_of parameter.Sbct value = sets change.Sbct (kilobytes 1 value)
change_of parameter.Smbcs value = sets change.Smbcs (kilobytes 1 value)
change_of parameter.Lmbcs value = sets change.Lmbcs (kilobytes 1 value)
change_of parameter.Mmbcs value = sets change.Mmbcs (kilobytes 0 value)
change_of parameter.Asbcst value = sets change.Asbcst (kilobytes 0 value)
change_of parameter.Mbcgs value = sets change.Mbcgs (ranged 1 MAX_GROWTH_CARRIERS value)
change_of parameter.Mbsd value = sets change.Mbsd (ranged 1 MAX_SEARCH_DEPTH value)
change_of parameter.Rsbcmt value = sets change.Rsbcmt (percent value)
change_of parameter.Rmbcmt value = sets change.Rmbcmt (percent value)
change_of parameter.Rsbcst value = sets change.Rsbcst (percent value)
change_of parameter.Ramv value = sets change.Ramv (truth value)
change_of parameter.ThreadSafe value = only_true change.Nothing value
change_of parameter.Enabled value = only_true change.Nothing value

-- what a flag and its value set; the value of a flag that isn't simulated isn't looked at
abbrev pub setting_of : Flag → List ℕ → Result Setting ValueFault
setting_of flag.Schedulers value = sets setting.Schedulers (ranged 1 MAX_SCHEDULERS value)
setting_of flag.SuperCarrier value = sets setting.SuperCarrier (ranged 1 MAX_MEGABYTES value)
setting_of flag.SuperCarrierOnly value = only_true setting.Nothing value
setting_of (flag.Of scope p) value = sets (λ c. setting.Of scope c) (change_of p value)
setting_of flag.NotSimulated value = Err Unsupported
