-- The value of the digits read so far.
use Rattle.std.proofs.Common.{◌≡◌, ℕ, ◌+◌, ◌-◌, ◌*◌, ◌^◌, ◌<◌, ◌≤◌, true, List, length, get_or}
use Rattle.std.proofs.Common.{take, refl, ◌∙◌, arith}
use Rattle.std.specs.List.{list_all}
use Rattle.std.proofs.Math.Pow.{pow_mono}
use Rattle.std.proofs.lemmas.Nat.{pow-add}
use Rattle.std.proofs.lemmas.List.Sums.{fold_more}
use Rattle.std.proofs.lemmas.List.Folds.{list_all_more}
use Rattle.std.specs.Char.{is_ascii_digit}
use Rattle.ea_model.specs.Words.{then_digit, numeral_value}

-- ten digits stay far below 2 ^ 64
pub below_forty : (n i : ℕ) → n < 2 ^ (4 * i) → i ≤ 10 → n < 2 ^ 40
below_forty n i h le = let m : 2 ^ (4 * i) ≤ 2 ^ 40 = pow_mono {i = 4 * i} {j = 40}
    (omega arith) in omega (arith, m, h)

pub bound_more : (n d i : ℕ) → n < 2 ^ (4 * i) → d ≤ 9 → n * 10 + d < 2 ^ (4 * (i + 1))
bound_more n d i h le =
    let e : 4 * (i + 1) ≡ 4 + 4 * i = omega arith in
    let p : 2 ^ (4 + 4 * i) ≡ 16 * 2 ^ (4 * i) = pow-add 2 4 (4 * i) in
    rw (e, p) (omega (arith, h))

pub value_more : (word : List ℕ) (i : ℕ) → i < length word
    → numeral_value (take (i + 1) word) ≡ numeral_value (take i word) * 10 + (get_or word i 0 - 48)
value_more word i lt = fold_more then_digit 0 word i 0 lt

pub digits_more : (word : List ℕ) (i : ℕ) → i < length word
    → list_all is_ascii_digit (take i word) ≡ true → is_ascii_digit (get_or word i 0) ≡ true
    → list_all is_ascii_digit (take (i + 1) word) ≡ true
digits_more word i lt h d = list_all_more is_ascii_digit word i 0 lt ∙ rw (h, d) refl

pub digit_value : (b : ℕ) → is_ascii_digit b ≡ true → b - 48 ≤ 9
digit_value b h = grind arith
