-- The flag that a word is.
-- Source of the names, and of `u`: Erlang/OTP, 'erts_alloc', sections 'Flags for Configuration of
-- mseg_alloc' and 'Flags for Configuration of Allocators Based on alloc_util'. This simulator's
-- own: which of them are read, and in which form.
use Rattle.std.specs.Prelude.{ℕ, Bool, true, false, ◌||◌, if◌then◌else◌, ◌==◌, List, [], ◌∷◌, drop}
use Rattle.std.specs.Prelude.{Option, Some, None, codes, bytes_eq, nat_eq}
use Rattle.std.specs.List.{starts_with}
use Rattle.ea_model.specs.declared.settings.Letter.TheVariants as letter
use Rattle.ea_flags.specs.declared.flag.Scope.{Scope}
use Rattle.ea_flags.specs.declared.flag.Scope.TheVariants.{One, All}
use Rattle.ea_flags.specs.declared.flag.Parameter.{Parameter}
use Rattle.ea_flags.specs.declared.flag.Parameter.TheVariants.{As, Acul, Acfml, Acnl, Sbct, Smbcs}
use Rattle.ea_flags.specs.declared.flag.Parameter.TheVariants.{Lmbcs, Mmbcs, Asbcst, Mbcgs, Mbsd}
use Rattle.ea_flags.specs.declared.flag.Parameter.TheVariants.{Rsbcmt, Rmbcmt, Rsbcst, Ramv}
use Rattle.ea_flags.specs.declared.flag.Parameter.TheVariants.{ThreadSafe, Enabled}
use Rattle.ea_flags.specs.declared.flag.Flag.{Flag}
use Rattle.ea_flags.specs.declared.flag.Flag.TheVariants.{Schedulers, SuperCarrier}
use Rattle.ea_flags.specs.declared.flag.Flag.TheVariants.{SuperCarrierOnly, Of, NotSimulated}

abbrev pub begins : List ℕ → List ℕ → Bool
begins word front = starts_with nat_eq word front

-- the allocators that a letter stands for, by its code: B, D, E, H, L, R, S, T, and u for all of
-- them
abbrev pub scope_of : ℕ → Option Scope
scope_of code =
    if code == 66 then Some (One letter.B)
    else if code == 68 then Some (One letter.D)
    else if code == 69 then Some (One letter.E)
    else if code == 72 then Some (One letter.H)
    else if code == 76 then Some (One letter.L)
    else if code == 82 then Some (One letter.R)
    else if code == 83 then Some (One letter.S)
    else if code == 84 then Some (One letter.T)
    else if code == 117 then Some All
    else None

-- the parameter of this name, if its value is true or false
abbrev pub switch_parameter : List ℕ → Option Parameter
switch_parameter name =
    if bytes_eq name (codes "ramv") then Some Ramv
    else if bytes_eq name (codes "t") then Some ThreadSafe
    else if bytes_eq name (codes "e") then Some Enabled
    else None

-- the parameter of this name, if its value is a count, a percentage, or true or false
abbrev pub limit_parameter : List ℕ → Option Parameter
limit_parameter name =
    if bytes_eq name (codes "mbcgs") then Some Mbcgs
    else if bytes_eq name (codes "mbsd") then Some Mbsd
    else if bytes_eq name (codes "rsbcmt") then Some Rsbcmt
    else if bytes_eq name (codes "rmbcmt") then Some Rmbcmt
    else if bytes_eq name (codes "rsbcst") then Some Rsbcst
    else switch_parameter name

-- the parameter of this name, unless it is the strategy or a limit on abandoned carriers
abbrev pub size_parameter : List ℕ → Option Parameter
size_parameter name =
    if bytes_eq name (codes "sbct") then Some Sbct
    else if bytes_eq name (codes "smbcs") then Some Smbcs
    else if bytes_eq name (codes "lmbcs") then Some Lmbcs
    else if bytes_eq name (codes "mmbcs") then Some Mmbcs
    else if bytes_eq name (codes "asbcst") then Some Asbcst
    else limit_parameter name

-- the parameter of this name
abbrev pub parameter_of : List ℕ → Option Parameter
parameter_of name =
    if bytes_eq name (codes "as") then Some As
    else if bytes_eq name (codes "acul") then Some Acul
    else if bytes_eq name (codes "acfml") then Some Acfml
    else if bytes_eq name (codes "acnl") then Some Acnl
    else size_parameter name

-- a parameter of the runtime that isn't simulated
abbrev pub is_other_parameter : List ℕ → Bool
is_other_parameter name = bytes_eq name (codes "cp") || (bytes_eq name (codes "atags")
    || (bytes_eq name (codes "mmsbc") || bytes_eq name (codes "mmmbc")))

abbrev pub flag_with : Option Parameter → Scope → Bool → Option Flag
flag_with (Some p) s other = Some (Of s p)
flag_with None s true = Some NotSimulated
flag_with None s false = None

abbrev pub flag_for : Option Scope → List ℕ → Option Flag
flag_for None name = None
flag_for (Some s) name = flag_with (parameter_of name) s (is_other_parameter name)

-- a letter and the name of a parameter
abbrev pub parameter_flag : List ℕ → Option Flag
parameter_flag [] = None
parameter_flag (code ∷ name) = flag_for (scope_of code) name

-- a flag of allocators that aren't simulated, or of all of them
abbrev pub is_other_flag : List ℕ → Bool
is_other_flag word = bytes_eq word (codes "+Mea") || (begins word (codes "+MM")
    || (begins word (codes "+MY") || (begins word (codes "+MF") || (begins word (codes "+MI")
    || begins word (codes "+MX")))))

-- the flag that a word is: the first case that holds
abbrev pub flag_of : List ℕ → Option Flag
flag_of word =
    if bytes_eq word (codes "+S") then Some Schedulers
    else if bytes_eq word (codes "+MMscs") then Some SuperCarrier
    else if bytes_eq word (codes "+MMsco") then Some SuperCarrierOnly
    else if is_other_flag word then Some NotSimulated
    else if begins word (codes "+M") then parameter_flag (drop 2 word)
    else None
