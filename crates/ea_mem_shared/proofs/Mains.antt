-- The places of main carriers, scheduler by scheduler.
use Rattle.std.proofs.Common.{◌≡◌, ◌≢◌, ℕ, ◌+◌, ◌*◌, ◌<◌, Bool, true, false, ◌&&◌, ◌==◌, nat_lt}
use Rattle.std.proofs.Common.{List, length, refl, sym, ap, ◌∙◌, inl, inr, arith}
use Rattle.std.specs.Prelude.{nat_le, set}
use Rattle.std.proofs.lemmas.Bool.{cases_eq}
use Rattle.std.proofs.lemmas.List.{get_or-set_other, get_or-set_same}
use Rattle.ea_model.specs.declared.units.TheConstants.{NUMBERS}
use Rattle.ea_model.specs.Instance.{first_number, owner_of}
use Rattle.ea_machine.specs.Machine.{first_place, is_main}
use Rattle.ea_machine.specs.Owners.{CarrierAt, Absent, Employed, employed_if}
use Rattle.ea_machine.specs.Setup.{Setup, migration}
use Rattle.ea_shared.specs.Carriers.{is_first_upto, main_upto}
use Rattle.ea_mem_shared.specs.Places.{place_at}

-- before the first scheduler
pub no-main : (n : ℕ) → Absent ≡ main_upto 0 n
no-main n = ap (λ b. employed_if b (owner_of n)) (sym (none n)) where
  none : (n : ℕ) → is_first_upto 0 n ≡ false
  none n = grind arith

-- the main carrier of the next one
is-next : (k : ℕ) → is_first_upto (k + 1) (NUMBERS * k + 1) ≡ true
is-next k = grind arith

owner-next : (k : ℕ) → owner_of (NUMBERS * k + 1) ≡ k + 1
owner-next k = omega arith

-- another number
not-next : (k n : ℕ) → n ≢ NUMBERS * k + 1 → is_first_upto (k + 1) n ≡ is_first_upto k n
not-next k n other = elim (cases_eq (owner_of n) (k + 1)) [
  | inl same ↦
      let not : n ≢ first_number (owner_of n) = λ e. other (omega (arith, e, same)) in
      grind (arith, not)
  | inr differs ↦ grind (arith, differs)
]

pub next-main : (k : ℕ) (ps qs : List CarrierAt) → NUMBERS * k + 1 < length ps
    → ((n : ℕ) → place_at ps n ≡ main_upto k n)
    → qs ≡ set ps (NUMBERS * k + 1) (Employed (k + 1))
    → (n : ℕ) → place_at qs n ≡ main_upto (k + 1) n
next-main k ps qs within are is n = elim (cases_eq n (NUMBERS * k + 1)) [
  | inl same ↦ ap (λ xs. place_at xs n) is
      ∙ ap (place_at (set ps (NUMBERS * k + 1) (Employed (k + 1)))) same
      ∙ get_or-set_same ps (NUMBERS * k + 1) (Employed (k + 1)) Absent within
      ∙ sym (ap (main_upto (k + 1)) same
      ∙ ap (λ b. employed_if b (owner_of (NUMBERS * k + 1))) (is-next k)
      ∙ ap Employed (owner-next k))
  | inr other ↦ ap (λ xs. place_at xs n) is
      ∙ get_or-set_other ps (NUMBERS * k + 1) n (Employed (k + 1)) Absent other ∙ are n
      ∙ ap (λ b. employed_if b (owner_of n)) (sym (not-next k n other))
]

-- the main carriers at the start of a run
module _ (e : Setup) where
  by : (on sch some first : Bool)
      → ((on && some) && (sch && first)) ≡ (on && (sch && (some && first)))
  by true true some first = refl
  by true false true first = refl
  by true false false first = refl
  by false sch some first = refl

  an-owner : (n : ℕ) → nat_lt 0 (owner_of n) ≡ true
  an-owner n = grind arith

  main-is : (n : ℕ) → ((migration e && nat_lt 0 e.settings.mmbcs) && is_first_upto e.schedulers n)
      ≡ (migration e && is_main e (owner_of n) n)
  main-is n = by (migration e) (nat_le (owner_of n) e.schedulers) (nat_lt 0 e.settings.mmbcs)
      (n == first_number (owner_of n))
      ∙ ap (λ b. migration e && ((b && nat_le (owner_of n) e.schedulers)
      && (nat_lt 0 e.settings.mmbcs && (n == first_number (owner_of n))))) (sym (an-owner n))

  pub mains-first : (n : ℕ)
      → employed_if ((migration e && nat_lt 0 e.settings.mmbcs) && is_first_upto e.schedulers n)
      (owner_of n) ≡ first_place e n
  mains-first n = ap (λ b. employed_if b (owner_of n)) (main-is n)
