-- An instance before its first operation.
use Rattle.std.proofs.Common.{◌≡◌, ℕ, ◌+◌, ◌-◌, ◌<◌, ◌≤◌, false, List, [], ◌∷◌, refl, sym, ap}
use Rattle.std.proofs.Common.{arith}
use Rattle.std.specs.Prelude.{Some, length, map, nat_lt}
use Rattle.std.proofs.lemmas.Bool.{cond-true, cond-false}
use Rattle.ea_model.specs.declared.settings.Settings.{Settings}
use Rattle.ea_model.specs.Content.{Content}
use Rattle.ea_model.specs.Settings.{most_count}
use Rattle.ea_model.specs.Instance.{main_carriers, main_content, main_plan, new_instance}
use Rattle.ea_model.specs.Instance.{first_number}
use Rattle.ea_model.specs.Instance.{own_of, planned_own, segments, with_own}
use Rattle.ea_model.specs.Region.{lowest_run, place_in, runs, stretch}
use Rattle.ea_model.specs.Units.{pages_for}
use Rattle.ea_model.specs.declared.carriers.CarrierPlan.{CarrierPlan}
use Rattle.ea_employed.specs.Listed.{CarrierList}
use Rattle.ea_instance.specs.Kept.{seen_as}
use Rattle.ea_instance.specs.Own.{OwnList}

-- it owns and employs its main carrier, where it has one
pub seen-new : (s : Settings) (number first pages : ℕ) (own : OwnList) (carriers : CarrierList)
    (singles : List Content) (created counted : ℕ) (mains : List Content)
    → main_carriers s number first ≡ mains
    → own ≡ record { first = first; end = first + pages; carriers = map own_of mains }
    → carriers.contents ≡ mains → singles ≡ [] → created ≡ length mains
    → counted ≡ most_count s
    → seen_as s number own carriers singles created counted ≡ new_instance s number first pages
seen-new s number first pages own carriers singles created counted mains main owns employs none
    made full =
    rw (owns, employs, none, made, full, sym main) refl

-- the settings ask for a main carrier, or they don't
pub main-there : (s : Settings) (number first : ℕ) → 0 < s.mmbcs
    → main_carriers s number first ≡ main_content s number first ∷ []
main-there s number first some =
    cond-true (nat_lt 0 s.mmbcs) (main_content s number first ∷ []) [] (grind arith)

pub main-none : (s : Settings) (number first : ℕ) → s.mmbcs ≤ 0
    → main_carriers s number first ≡ []
main-none s number first none =
    cond-false (nat_lt 0 s.mmbcs) (main_content s number first ∷ []) [] (grind arith)

-- the main carrier is the only one that it owns
pub main-own : (s : Settings) (number first pages : ℕ) (own : OwnList) (p : CarrierPlan)
    → own ≡ record { first = first; end = first + pages; carriers = [] }
    → p ≡ main_plan s number first
    → record own { carriers = with_own (planned_own p) own.carriers } ≡ record {
      first = first;
      end = first + pages;
      carriers = own_of (main_content s number first) ∷ [];
    }
main-own s number first pages own p none is = rw (none, is) (ap (λ n. record {
  first = first;
  end = first + pages;
  carriers = record { number = first_number number; base = first; pages = n } ∷ [];
}) (omega arith))

-- its pages are the first ones of the region
lowest_alone : (pages a b : ℕ) → a < b → pages ≤ b - a → lowest_run pages (stretch a b) ≡ Some a
lowest_alone pages a b some long = grind (arith, some, long)

pub main-run : (s : Settings) (number first pages : ℕ) (own : OwnList) (p : CarrierPlan)
    → own ≡ record { first = first; end = first + pages; carriers = [] }
    → p ≡ main_plan s number first → 0 < s.mmbcs → pages_for s.mmbcs ≤ pages
    → place_in false p.pages (runs own.first own.end (segments own.carriers)) ≡ Some p.base
main-run s number first pages own p none is some fits = rw (none, is)
    (lowest_alone (pages_for s.mmbcs) first (first + pages) (omega (arith, some, fits))
    (omega (arith, fits)))
