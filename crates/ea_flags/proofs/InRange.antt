-- What a flag and a value of its own set is in its range.
use Rattle.std.proofs.Common.{ℕ, ◌*◌, List, arith}
use Rattle.std.specs.Prelude.{Result, Ok, Err, IfOk, codes, bytes_eq}
use Rattle.std.proofs.lemmas.Bool.{cond_both}
use Rattle.ea_model.specs.declared.units.TheConstants.{KILOBYTE_UNITS, MAX_PERCENT, MAX_UNITS}
use Rattle.ea_flags.specs.declared.flag.Flag.{Flag}
use Rattle.ea_flags.specs.declared.flag.Flag.TheVariants as flag
use Rattle.ea_flags.specs.declared.flag.Parameter.{Parameter}
use Rattle.ea_flags.specs.declared.flag.Parameter.TheVariants as parameter
use Rattle.ea_flags.specs.declared.setting.Change.{Change}
use Rattle.ea_flags.specs.declared.setting.Change.TheVariants as change
use Rattle.ea_flags.specs.declared.setting.Setting.TheVariants as setting
use Rattle.ea_flags.specs.declared.setting.ValueFault.{ValueFault}
use Rattle.ea_flags.specs.declared.setting.ValueFault.TheVariants.{Bad, Unsupported}
use Rattle.ea_flags.specs.declared.value.TheConstants.{MAX_ACNL, MAX_KILOBYTES}
use Rattle.ea_flags.specs.Values.{good, ranged, in_units, kilobytes, utilization_limit, no_effect}
use Rattle.ea_flags.specs.Values.{truth, only_true, sets, change_of, setting_of, strategy_named}
use Rattle.ea_flags.specs.Ranges.{IsChangeInRange, IsFromTo, IsInRange}

sets-IfOk : {A B : Type 0} (f : A → B) (r : Result A ValueFault) (P : A → Type 0) (Q : B → Type 0)
    → IfOk r P → ((a : A) → P a → Q (f a)) → IfOk (sets f r) Q
sets-IfOk f (Ok a) P Q h k = k a h
sets-IfOk f (Err e) P Q h k = tt

good-IsFromTo : (low high : ℕ) (value : List ℕ) → IfOk (ranged low high value) (IsFromTo low high)
good-IsFromTo low high value = grind arith

units-IsFromTo : (low : ℕ) (r : Result ℕ ValueFault) → IfOk r (IsFromTo low MAX_KILOBYTES)
    → IfOk (in_units r) (IsFromTo (KILOBYTE_UNITS * low) MAX_UNITS)
units-IsFromTo low (Ok n) h = (omega (arith, h), omega (arith, h))
units-IsFromTo low (Err e) h = tt

kilobytes-IsFromTo : (low : ℕ) (value : List ℕ)
    → IfOk (kilobytes low value) (IsFromTo (KILOBYTE_UNITS * low) MAX_UNITS)
kilobytes-IsFromTo low value = units-IsFromTo low (ranged low MAX_KILOBYTES value)
    (good-IsFromTo low MAX_KILOBYTES value)

limit-IsFromTo : (value : List ℕ) → IfOk (utilization_limit value) (IsFromTo 0 MAX_PERCENT)
limit-IsFromTo value = cond_both (bytes_eq value (codes "de")) _ _
    (λ r. IfOk r (IsFromTo 0 MAX_PERCENT)) (λ _. (omega arith, omega arith))
    (λ _. good-IsFromTo 0 MAX_PERCENT value)

no_effect-IfOk : {A : Type 0} (nothing : A) (r : Result ℕ ValueFault) (P : A → Type 0) → P nothing
    → IfOk (no_effect nothing r) P
no_effect-IfOk nothing (Ok n) P h = cond_both _ (Err Unsupported) (Ok nothing) (λ r. IfOk r P)
    (λ _. tt) (λ _. h)
no_effect-IfOk nothing (Err e) P h = tt

only_true-IfOk : {A : Type 0} (nothing : A) (value : List ℕ) (P : A → Type 0) → P nothing
    → IfOk (only_true nothing value) P
only_true-IfOk nothing value P h = cond_both (bytes_eq value (codes "true")) _ _ (λ r. IfOk r P)
    (λ _. h) (λ _. cond_both (bytes_eq value (codes "false")) (Err Unsupported) (Err Bad)
    (λ r. IfOk r P) (λ _. tt) (λ _. tt))

-- nothing is asked of an answer
any-IfOk : {A : Type 0} (r : Result A ValueFault) → IfOk r (λ _. Unit {0})
any-IfOk (Ok a) = tt
any-IfOk (Err e) = tt

ranged-change : (f : ℕ → Change) (low high : ℕ) (value : List ℕ)
    → ((n : ℕ) → IsFromTo low high n → IsChangeInRange (f n))
    → IfOk (sets f (ranged low high value)) IsChangeInRange
ranged-change f low high value k = sets-IfOk f (ranged low high value) (IsFromTo low high)
    IsChangeInRange (good-IsFromTo low high value) k

sized-change : (f : ℕ → Change) (low : ℕ) (value : List ℕ)
    → ((n : ℕ) → IsFromTo (KILOBYTE_UNITS * low) MAX_UNITS n → IsChangeInRange (f n))
    → IfOk (sets f (kilobytes low value)) IsChangeInRange
sized-change f low value k = sets-IfOk f (kilobytes low value)
    (IsFromTo (KILOBYTE_UNITS * low) MAX_UNITS) IsChangeInRange (kilobytes-IsFromTo low value) k

change_of-IsChangeInRange : (p : Parameter) (value : List ℕ)
    → IfOk (change_of p value) IsChangeInRange
change_of-IsChangeInRange parameter.As value = sets-IfOk change.As (good (strategy_named value))
    (λ _. Unit {0}) IsChangeInRange (any-IfOk (good (strategy_named value))) (λ _ _. tt)
change_of-IsChangeInRange parameter.Acul value = sets-IfOk change.Acul (utilization_limit value)
    (IsFromTo 0 MAX_PERCENT) IsChangeInRange (limit-IsFromTo value) (λ n h. h)
change_of-IsChangeInRange parameter.Acfml value = ranged-change change.Acfml _ _ value (λ n h. h)
change_of-IsChangeInRange parameter.Acnl value = no_effect-IfOk change.Nothing
    (ranged 0 MAX_ACNL value) IsChangeInRange tt
change_of-IsChangeInRange parameter.Sbct value = sized-change change.Sbct 1 value (λ n h. h)
change_of-IsChangeInRange parameter.Smbcs value = sized-change change.Smbcs 1 value (λ n h. h)
change_of-IsChangeInRange parameter.Lmbcs value = sized-change change.Lmbcs 1 value (λ n h. h)
change_of-IsChangeInRange parameter.Mmbcs value = sized-change change.Mmbcs 0 value (λ n h. h)
change_of-IsChangeInRange parameter.Asbcst value = sized-change change.Asbcst 0 value (λ n h. h)
change_of-IsChangeInRange parameter.Mbcgs value = ranged-change change.Mbcgs _ _ value (λ n h. h)
change_of-IsChangeInRange parameter.Mbsd value = ranged-change change.Mbsd _ _ value (λ n h. h)
change_of-IsChangeInRange parameter.Rsbcmt value = ranged-change change.Rsbcmt _ _ value (λ n h. h)
change_of-IsChangeInRange parameter.Rmbcmt value = ranged-change change.Rmbcmt _ _ value (λ n h. h)
change_of-IsChangeInRange parameter.Rsbcst value = ranged-change change.Rsbcst _ _ value (λ n h. h)
change_of-IsChangeInRange parameter.Ramv value = sets-IfOk change.Ramv (truth value)
    (λ _. Unit {0}) IsChangeInRange (any-IfOk (truth value)) (λ _ _. tt)
change_of-IsChangeInRange parameter.ThreadSafe value = only_true-IfOk change.Nothing value
    IsChangeInRange tt
change_of-IsChangeInRange parameter.Enabled value = only_true-IfOk change.Nothing value
    IsChangeInRange tt

-- what a flag and its value set is in its range
pub setting_of-IsInRange : (f : Flag) (value : List ℕ) → IfOk (setting_of f value) IsInRange
setting_of-IsInRange flag.Schedulers value = sets-IfOk setting.Schedulers (ranged 1 _ value)
    (IsFromTo 1 _) IsInRange (good-IsFromTo 1 _ value) (λ n h. h)
setting_of-IsInRange flag.SuperCarrier value = sets-IfOk setting.SuperCarrier (ranged 1 _ value)
    (IsFromTo 1 _) IsInRange (good-IsFromTo 1 _ value) (λ n h. h)
setting_of-IsInRange flag.SuperCarrierOnly value = only_true-IfOk setting.Nothing value IsInRange tt
setting_of-IsInRange (flag.Of scope p) value = sets-IfOk (λ c. setting.Of scope c)
    (change_of p value) IsChangeInRange IsInRange (change_of-IsChangeInRange p value) (λ c h. h)
setting_of-IsInRange flag.NotSimulated value = tt
