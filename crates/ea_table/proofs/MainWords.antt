-- The words of the table before the first step, main carrier by main carrier.
use Rattle.std.proofs.Common.{◌≡◌, ◌≢◌, ℕ, ◌+◌, ◌*◌, ◌<◌, ◌≤◌, Bool, true, ◌==◌, nat_le}
use Rattle.std.proofs.Common.{nat_lt, List, length, set, slice_index}
use Rattle.std.proofs.Common.{sym, ap, ◌∙◌, inl, inr, arith}
use Rattle.std.specs.Prelude.{◌&&◌}
use Rattle.std.proofs.lemmas.Bool.{cases_eq}
use Rattle.std.proofs.lemmas.List.{get_or-set_other, get_or-set_same, length-set}
use Rattle.ea_model.specs.declared.units.TheConstants.{NUMBERS}
use Rattle.ea_model.specs.declared.settings.Config.{Config}
use Rattle.ea_model.specs.declared.settings.Settings.{Settings}
use Rattle.ea_model.specs.declared.trace.Trace.{Trace}
use Rattle.ea_model.specs.Instance.{first_number, owner_of}
use Rattle.ea_model.specs.Settings.{lets_migrate, settings_of}
use Rattle.ea_machine.specs.Machine.{first_place}
use Rattle.ea_machine.specs.Owners.{Employed, employed_if}
use Rattle.ea_machine.specs.Setup.{setup_of}
use Rattle.ea_shared.specs.Carriers.{is_first_upto, main_upto}
use Rattle.ea_table.specs.Start.{AreFirst, HasOwners}
use Rattle.ea_table.specs.Words.{owner_at, place_code}

-- the main carrier of the next scheduler, and all other carriers
is-next : (k : ℕ) → is_first_upto (k + 1) (NUMBERS * k + 1) ≡ true
is-next k = grind arith

owner-next : (k : ℕ) → owner_of (NUMBERS * k + 1) ≡ k + 1
owner-next k = omega arith

next-main : (k : ℕ) → main_upto (k + 1) (NUMBERS * k + 1) ≡ Employed (k + 1)
next-main k = ap (λ b. employed_if b (owner_of (NUMBERS * k + 1))) (is-next k)
    ∙ ap Employed (owner-next k)

not-next : (k n : ℕ) → n ≢ NUMBERS * k + 1 → is_first_upto (k + 1) n ≡ is_first_upto k n
not-next k n other = elim (cases_eq (owner_of n) (k + 1)) [
  | inl same ↦
      let not : n ≢ first_number (owner_of n) = λ e. other (omega (arith, e, same)) in
      grind (arith, not)
  | inr differs ↦ grind (arith, differs)
]

other-main : (k n : ℕ) → n ≢ NUMBERS * k + 1 → main_upto (k + 1) n ≡ main_upto k n
other-main k n other = ap (λ b. employed_if b (owner_of n)) (not-next k n other)

module _ (n g : ℕ) where
  -- the owner word of the next main carrier was stored
  module _ (k : ℕ) (less : k < n) (ws us : List ℕ) (has : HasOwners n g ws (main_upto k))
      (is : us ≡ set ws (owner_at n g (NUMBERS * k + 1)) (place_code (Employed (k + 1)))) where
    abbrev at : ℕ
    at = owner_at n g (NUMBERS * k + 1)

    abbrev v : ℕ
    v = place_code (Employed (k + 1))

    other-word : (i : ℕ) → i ≢ at → slice_index us i ≡ slice_index ws i
    other-word i other = ap (λ xs. slice_index xs i) is ∙ get_or-set_other ws at i v 0 other

    this-word : slice_index us at ≡ v
    this-word = ap (λ xs. slice_index xs at) is
        ∙ get_or-set_same ws at v 0 (omega (arith, has.count, less))

    pub one-main : HasOwners n g us (main_upto (k + 1))
    one-main = record {
      count = ap length is ∙ length-set ws at v ∙ has.count;
      others = λ i low. other-word i (λ q. omega (arith, q, low)) ∙ has.others i low;
      owners = λ number low high. elim (cases_eq number (NUMBERS * k + 1)) [
        | inl same ↦ ap (λ m. slice_index us (owner_at n g m)) same ∙ this-word
            ∙ sym (ap place_code (ap (main_upto (k + 1)) same ∙ next-main k))
        | inr other ↦ other-word (owner_at n g number) (λ q. other (omega (arith, q, low)))
            ∙ has.owners number low high ∙ ap place_code (sym (other-main k number other))
      ];
    }

-- the main carriers of all schedulers are those at the start, where carriers migrate and there are
-- some

main-asked : (acul mmbcs i n : ℕ) (b : Bool) → acul ≢ 0 → mmbcs ≢ 0 → 1 ≤ i → (nat_le i n && b)
    ≡ (nat_lt 0 acul && (nat_lt 0 i && nat_le i n && (nat_lt 0 mmbcs && b)))
main-asked acul mmbcs i n b migrates some from = grind (arith, migrates, some, from)

-- where carriers migrate there is a utilization
pub some-acul : (s : Settings) (on : Bool) → on ≡ lets_migrate s → on ≡ true → s.acul ≢ 0
some-acul s on is t q = let so : nat_lt 0 s.acul ≡ true = sym is ∙ t in grind (arith, so, q)

pub all-mains : (c : Config) (t : Trace) (ws : List ℕ) → (settings_of c t.letter).acul ≢ 0
    → (settings_of c t.letter).mmbcs ≢ 0
    → HasOwners c.schedulers t.greatest ws (main_upto c.schedulers) → AreFirst c t ws
all-mains c t ws migrates some has = record {
  count = has.count;
  others = has.others;
  owners = λ number low high. has.owners number low high ∙ ap place_code (first number);
} where
  settings : Settings
  settings = settings_of c t.letter

  first : (number : ℕ) → main_upto c.schedulers number ≡ first_place (setup_of c t) number
  first number =
      let i = owner_of number in
      ap (λ b. employed_if b i)
      (main-asked settings.acul settings.mmbcs i c.schedulers (number == first_number i) migrates
      some (omega arith))
