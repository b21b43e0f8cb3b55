-- What flags set lies in the ranges that valid settings have.
use Rattle.std.proofs.Common.{◌≤◌, arith}
use Rattle.ea_model.specs.declared.units.TheConstants.{MAX_BYTES, MAX_GROWTH_CARRIERS}
use Rattle.ea_model.specs.declared.units.TheConstants.{MAX_MEGABYTES, MAX_PERCENT, MAX_SCHEDULERS}
use Rattle.ea_model.specs.declared.units.TheConstants.{MAX_SEARCH_DEPTH, MAX_UNITS}
use Rattle.ea_model.specs.declared.settings.Settings.{Settings}
use Rattle.ea_model.specs.declared.settings.Letter.TheVariants.{B, D, E, H, L, R, S, T}
use Rattle.ea_model.specs.declared.settings.Config.{Config}
use Rattle.ea_model.specs.Settings.{IsSize}
use Rattle.ea_flags.specs.declared.flag.Scope.{Scope}
use Rattle.ea_flags.specs.declared.flag.Scope.TheVariants.{One, All}
use Rattle.ea_flags.specs.declared.setting.Change.{Change}
use Rattle.ea_flags.specs.declared.setting.Change.TheVariants as change
use Rattle.ea_flags.specs.declared.setting.Setting.{Setting}
use Rattle.ea_flags.specs.declared.setting.Setting.TheVariants as setting
use Rattle.ea_flags.specs.Configs.{changed, changed_for, set_by}
use Rattle.ea_flags.specs.Ranges.{IsChangeInRange, IsFromTo, IsInRange}

-- the settings lie in the ranges of their flags
abbrev pub HasRanges : Settings → Type 0
HasRanges s = (s.acul ≤ MAX_PERCENT) × (s.acfml ≤ MAX_BYTES) × IsSize s.sbct × IsSize s.smbcs
    × IsSize s.lmbcs × IsFromTo 1 MAX_GROWTH_CARRIERS s.mbcgs × (s.mmbcs ≤ MAX_UNITS)
    × IsFromTo 1 MAX_SEARCH_DEPTH s.mbsd × (s.rsbcmt ≤ MAX_PERCENT) × (s.rmbcmt ≤ MAX_PERCENT)
    × (s.rsbcst ≤ MAX_PERCENT) × (s.asbcst ≤ MAX_UNITS)

changed-HasRanges : (c : Change) (s : Settings) → HasRanges s → IsChangeInRange c
    → HasRanges (changed c s)
changed-HasRanges (change.As x) s h k = h
changed-HasRanges (change.Acul x) s h k = grind arith
changed-HasRanges (change.Acfml x) s h k = grind arith
changed-HasRanges (change.Sbct x) s h k = grind arith
changed-HasRanges (change.Smbcs x) s h k = grind arith
changed-HasRanges (change.Lmbcs x) s h k = grind arith
changed-HasRanges (change.Mmbcs x) s h k = grind arith
changed-HasRanges (change.Asbcst x) s h k = grind arith
changed-HasRanges (change.Mbcgs x) s h k = grind arith
changed-HasRanges (change.Mbsd x) s h k = grind arith
changed-HasRanges (change.Rsbcmt x) s h k = grind arith
changed-HasRanges (change.Rmbcmt x) s h k = grind arith
changed-HasRanges (change.Rsbcst x) s h k = grind arith
changed-HasRanges (change.Ramv x) s h k = h
changed-HasRanges change.Nothing s h k = h

-- so do the settings of all allocators, and the schedulers and the super carrier are in theirs
abbrev pub IsRanged : Config → Type 0
IsRanged c = IsFromTo 1 MAX_SCHEDULERS c.schedulers × IsFromTo 1 MAX_MEGABYTES c.scs
    × HasRanges c.b × HasRanges c.d × HasRanges c.e × HasRanges c.h × HasRanges c.l
    × HasRanges c.r × HasRanges c.s × HasRanges c.t

changed-IsRanged : (scope : Scope) (x : Change) (c : Config) → IsRanged c → IsChangeInRange x
    → IsRanged (changed_for scope x c)
changed-IsRanged (One B) x c (n, m, b, d, e, h, l, r, s, t) k =
    (n, m, changed-HasRanges x c.b b k, d, e, h, l, r, s, t)
changed-IsRanged (One D) x c (n, m, b, d, e, h, l, r, s, t) k =
    (n, m, b, changed-HasRanges x c.d d k, e, h, l, r, s, t)
changed-IsRanged (One E) x c (n, m, b, d, e, h, l, r, s, t) k =
    (n, m, b, d, changed-HasRanges x c.e e k, h, l, r, s, t)
changed-IsRanged (One H) x c (n, m, b, d, e, h, l, r, s, t) k =
    (n, m, b, d, e, changed-HasRanges x c.h h k, l, r, s, t)
changed-IsRanged (One L) x c (n, m, b, d, e, h, l, r, s, t) k =
    (n, m, b, d, e, h, changed-HasRanges x c.l l k, r, s, t)
changed-IsRanged (One R) x c (n, m, b, d, e, h, l, r, s, t) k =
    (n, m, b, d, e, h, l, changed-HasRanges x c.r r k, s, t)
changed-IsRanged (One S) x c (n, m, b, d, e, h, l, r, s, t) k =
    (n, m, b, d, e, h, l, r, changed-HasRanges x c.s s k, t)
changed-IsRanged (One T) x c (n, m, b, d, e, h, l, r, s, t) k =
    (n, m, b, d, e, h, l, r, s, changed-HasRanges x c.t t k)
changed-IsRanged All x c (n, m, b, d, e, h, l, r, s, t) k = (
  n,
  m,
  changed-HasRanges x c.b b k,
  changed-HasRanges x c.d d k,
  changed-HasRanges x c.e e k,
  changed-HasRanges x c.h h k,
  changed-HasRanges x c.l l k,
  changed-HasRanges x c.r r k,
  changed-HasRanges x c.s s k,
  changed-HasRanges x c.t t k,
)

pub keeps_ranges : (c : Config) (x : Setting) → IsRanged c → IsInRange x
    → IsRanged (set_by c x)
keeps_ranges c (setting.Schedulers count) (n, m, b, d, e, h, l, r, s, t) k =
    (k, m, b, d, e, h, l, r, s, t)
keeps_ranges c (setting.SuperCarrier megabytes) (n, m, b, d, e, h, l, r, s, t) k =
    (n, k, b, d, e, h, l, r, s, t)
keeps_ranges c (setting.Of scope x) h k = changed-IsRanged scope x c h k
keeps_ranges c setting.Nothing h k = h
