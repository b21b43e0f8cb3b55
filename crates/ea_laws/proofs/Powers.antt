-- The least power of two of pages that is great enough.
use Rattle.std.proofs.Common.{◌≡◌, ℕ, zero, suc, ◌+◌, ◌*◌, ◌/◌, ◌^◌, ◌<◌, ◌≤◌, true, sym}
use Rattle.std.proofs.Common.{◌∙◌, subst, refl, inl, inr, arith}
use Rattle.std.specs.Int.{IsNextPowerOfTwo, IsPowerOfTwo}
use Rattle.std.specs.Prelude.{max, nat_le}
use Rattle.std.proofs.lemmas.Bool.{cases_Bool, cases_lt, cond-false, cond-true}
use Rattle.std.proofs.lemmas.Grind.{pow_more}
use Rattle.std.proofs.lemmas.Nat.{pow_pos}
use Rattle.std.proofs.Math.Nat.{pow-le-pow_right}
use Rattle.ea_model.specs.declared.settings.Settings.{Settings}
use Rattle.ea_model.specs.declared.units.TheConstants.{MIN_POWER_PAGES}
use Rattle.ea_model.specs.Instance.{power_from, rounded}
use Rattle.ea_laws.specs.PlanLaws.{IsRounded}

pub power_from-zero : (p n : ℕ) → power_from zero p n ≡ p
unfolding power_from
power_from-zero p n = refl

pub power_from-here : (k p n : ℕ) → n ≤ p → power_from (suc k) p n ≡ p
unfolding power_from
power_from-here k p n le = cond-true (nat_le n p) p (power_from k (2 * p) n) (grind (arith, le))

pub power_from-more : (k p n : ℕ) → p < n → power_from (suc k) p n ≡ power_from k (2 * p) n
unfolding power_from
power_from-more k p n lt = cond-false (nat_le n p) p (power_from k (2 * p) n) (grind (arith, lt))

is-next : (e n : ℕ) → n ≤ 2 ^ e → MIN_POWER_PAGES ≤ 2 ^ e → 2 ^ e / 2 < max MIN_POWER_PAGES n
    → IsNextPowerOfTwo (max MIN_POWER_PAGES n) (2 ^ e)
is-next e n enough least below = ((e, refl), omega (arith, enough, least), omega (arith, below))

-- from a power of two on, of which the half is too small
power_from-next : (k e n : ℕ) → n ≤ 2 ^ e + k → MIN_POWER_PAGES ≤ 2 ^ e
    → 2 ^ e / 2 < max MIN_POWER_PAGES n
    → IsNextPowerOfTwo (max MIN_POWER_PAGES n) (power_from k (2 ^ e) n)
power_from-next zero e n enough least below =
    subst (IsNextPowerOfTwo (max MIN_POWER_PAGES n)) (sym (power_from-zero (2 ^ e) n))
    (is-next e n (omega (arith, enough)) least below)
power_from-next (suc k) e n enough least below = elim (cases_lt (2 ^ e) n) [
  | inr le ↦ subst (IsNextPowerOfTwo (max MIN_POWER_PAGES n)) (sym (power_from-here k (2 ^ e) n le))
      (is-next e n le least below)
  | inl lt ↦
      let more : 2 ^ (e + 1) ≡ 2 * 2 ^ e = pow_more 2 e ∙ omega arith in
      subst (IsNextPowerOfTwo (max MIN_POWER_PAGES n))
      (sym (power_from-more k (2 ^ e) n lt
      ∙ subst (λ p. power_from k (2 * 2 ^ e) n ≡ power_from k p n) (sym more) refl))
      (power_from-next k (e + 1) n (omega (arith, more, enough, pow_pos e))
      (omega (arith, more, least)) (omega (arith, more, lt)))
]

pub power-next : (n : ℕ)
    → IsNextPowerOfTwo (max MIN_POWER_PAGES n) (power_from n MIN_POWER_PAGES n)
power-next n = power_from-next n 6 n (omega arith) (omega arith) (omega arith)

pub is-rounded : (s : Settings) (n : ℕ) → IsRounded s n (rounded s n)
is-rounded s n = elim (cases_Bool s.rules.powers) [
  | inl powers ↦ inl (
    powers,
    subst (IsNextPowerOfTwo (max MIN_POWER_PAGES n))
        (sym (cond-true s.rules.powers (power_from n MIN_POWER_PAGES n) n powers)) (power-next n),
  )
  | inr not ↦ inr (not, cond-false s.rules.powers (power_from n MIN_POWER_PAGES n) n not)
]

pub rounded-from : (s : Settings) (n : ℕ) → n ≤ rounded s n
rounded-from s n = elim (is-rounded s n) [
  | inl powers ↦ omega (arith, powers.1.1)
  | inr not ↦ omega (arith, not.1)
]

pub power-of : (s : Settings) (n : ℕ) → s.rules.powers ≡ true
    → IsPowerOfTwo (rounded s n) × (MIN_POWER_PAGES ≤ rounded s n)
power-of s n powers =
    subst (λ r. IsPowerOfTwo r × (MIN_POWER_PAGES ≤ r))
    (sym (cond-true s.rules.powers (power_from n MIN_POWER_PAGES n) n powers))
    ((power-next n).0, omega (arith, (power-next n).1))

-- there is one such power
same_power : (a b n : ℕ) → 1 ≤ n → n ≤ 2 ^ a → 2 ^ b / 2 < n → b ≤ a
same_power a b n some enough below = elim (cases_lt a b) [
  | inr le ↦ le
  | inl lt ↦
      let more : 2 ^ (a + 1) ≡ 2 ^ a * 2 = pow_more 2 a in
      let grown : 2 ^ (a + 1) ≤ 2 ^ b = pow-le-pow_right (omega arith) (omega (arith, lt)) in
      absurd (omega (arith, more, grown, enough, below))
]

pub power-same : (n p q : ℕ) → 1 ≤ n → IsNextPowerOfTwo n p → IsNextPowerOfTwo n q → p ≡ q
power-same n p q some l r =
    let a : ℕ = l.0.0 in
    let b : ℕ = r.0.0 in
    let p_is : p ≡ 2 ^ a = l.0.1 in
    let q_is : q ≡ 2 ^ b = r.0.1 in
    let low : b ≤ a = same_power a b n some (omega (arith, p_is, l.1))
    (omega (arith, q_is, r.2, some)) in
    let high : a ≤ b = same_power b a n some (omega (arith, q_is, r.1))
    (omega (arith, p_is, l.2, some)) in
    let same : a ≡ b = omega (arith, low, high) in
    p_is ∙ subst (λ e. 2 ^ a ≡ 2 ^ e) same refl ∙ sym q_is

-- the next power of two, raised to the least pages, is the one that is looked for
pub power-raised : (n p : ℕ) → IsNextPowerOfTwo n p
    → max p MIN_POWER_PAGES ≡ power_from n MIN_POWER_PAGES n
power-raised n p next =
    power-same (max MIN_POWER_PAGES n) (max p MIN_POWER_PAGES) (power_from n MIN_POWER_PAGES n)
    (omega arith) raised (power-next n) where
      raised : IsNextPowerOfTwo (max MIN_POWER_PAGES n) (max p MIN_POWER_PAGES)
      raised = elim (cases_lt MIN_POWER_PAGES p) [
        | inl more ↦
            let is : max p MIN_POWER_PAGES ≡ p = omega (arith, more) in
            subst (IsNextPowerOfTwo (max MIN_POWER_PAGES n)) (sym is)
            (next.0, omega (arith, more, next.1), omega (arith, next.2))
        | inr least ↦
            let is : max p MIN_POWER_PAGES ≡ 64 = omega (arith, least) in
            subst (IsNextPowerOfTwo (max MIN_POWER_PAGES n)) (sym is)
            ((6, refl), omega (arith, least, next.1), omega arith)
      ]
