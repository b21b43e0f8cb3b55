-- The stops of lines of which none is refused.
use Rattle.std.proofs.Common.{◌≡◌, ℕ, ◌≤◌, Bool, true, false, ◌||◌, nat_lt, ◌==◌, cond}
use Rattle.std.proofs.Common.{List, [], ◌∷◌, ◌++◌, refl, sym, ap, subst, inl, inr, arith}
use Rattle.std.specs.List.{All, count_by, list_any}
use Rattle.std.proofs.lemmas.Bool.{cases_Bool}
use Rattle.std.proofs.lemmas.List.Elements.{All-nil, All-push}
use Rattle.std.proofs.lemmas.List.Sums.{sum_by-append, sum_by-cons}
use Rattle.ea_model.specs.Trace.{IsScheduler, IsStop, is_outside}
use Rattle.ea_model.specs.declared.trace.Stop.{Stop}
use Rattle.ea_trace.specs.Language.{Earlier, is_stopped, sections, stops_after}
use Rattle.ea_trace.specs.Language.{stops_badly}
use Rattle.ea_trace.specs.declared.lines.Line.TheVariants.{Skipped, Letter, Section, Operation}
use Rattle.ea_trace.specs.declared.lines.Line.TheVariants.{Threads, Schedule, Turns, Generate, End}
use Rattle.ea_trace.specs.declared.lines.Line.TheVariants.{Unreadable}
use Rattle.ea_trace.specs.declared.lines.Line.TheVariants as lines
use Rattle.ea_trace.proofs.Followed.{Followed}

neither : (p q : Bool) → (p || q) ≡ false → (p ≡ false) × (q ≡ false)
neither true q e = absurd cc
neither false q e = (refl, e)

inside : (n k : ℕ) → is_outside n k ≡ false → IsScheduler n k
inside n k e = (grind (arith, e), grind (arith, e))

all_begun : (n section : ℕ) → nat_lt section n ≡ false → n ≤ section
all_begun n section e = grind (arith, e)

-- a stop that isn't refused comes after the last section, and its scheduler is there and has none
-- yet
good_stop : (n section : ℕ) (ss : List Stop) (stop : Stop) → stops_badly n section ss stop ≡ false
    → (n ≤ section) × IsScheduler n stop.scheduler × (is_stopped stop.scheduler ss ≡ false)
good_stop n section ss stop h =
    let first = neither (nat_lt section n)
    (is_outside n stop.scheduler || is_stopped stop.scheduler ss) h in
    let both = neither (is_outside n stop.scheduler) (is_stopped stop.scheduler ss) first.1 in
    (all_begun n section first.0, inside n stop.scheduler both.0, both.1)

pub all_stops : (n : ℕ) (ls : Earlier) → Followed n ls → All (IsStop n) (stops_after ls)
all_stops n [] f = All-nil (IsStop n)
all_stops n (lines.Stop stop ∷ older) f =
    let good = good_stop n (sections older) (stops_after older) stop f.1.good in
    All-push (IsStop n) (stops_after older) stop (all_stops n older f.0) (good.1, f.2)
all_stops n (Skipped ∷ older) f = all_stops n older f.0
all_stops n (Letter l ∷ older) f = all_stops n older f.0
all_stops n (Section k ∷ older) f = all_stops n older f.0
all_stops n (Operation op ∷ older) f = all_stops n older f.0
all_stops n (Threads ∷ older) f = all_stops n older f.0
all_stops n (Schedule ∷ older) f = all_stops n older f.0
all_stops n (Turns ts ∷ older) f = all_stops n older f.0
all_stops n (Generate seed count ∷ older) f = all_stops n older f.0
all_stops n (End ∷ older) f = all_stops n older f.0
all_stops n (Unreadable ∷ older) f = all_stops n older f.0

abbrev weight : Bool → ℕ
weight b = cond b 1 0

-- where none is found none is counted
none_counted : (p : Stop → Bool) (ss : List Stop) → list_any p ss ≡ false → count_by p ss ≡ 0
none_counted p [] e = refl
none_counted p (s ∷ ss) e =
    let both = neither (p s) (list_any p ss) e in
    omega (
      arith,
      sum_by-cons (λ x. cond (p x) 1 0) s ss,
      ap weight both.0,
      none_counted p ss both.1,
    )

one_more : (ss : List Stop) (stop : Stop) (i : ℕ) → is_stopped stop.scheduler ss ≡ false
    → count_by (λ s. i == s.scheduler) ss ≤ 1
    → count_by (λ s. i == s.scheduler) (ss ++ stop ∷ []) ≤ 1
one_more ss stop i none few = elim (cases_Bool (i == stop.scheduler)) [
  | inl is ↦
      let same : i ≡ stop.scheduler = grind (arith, is) in
      omega (
        arith,
        sum_by-append (λ s. cond (i == s.scheduler) 1 0) ss (stop ∷ []),
        none_counted (λ s. i == s.scheduler) ss
            (subst (λ k. is_stopped k ss ≡ false) (sym same) none),
        sum_by-cons (λ s. cond (i == s.scheduler) 1 0) stop [],
        ap weight is,
      )
  | inr other ↦ omega (
    arith,
    sum_by-append (λ s. cond (i == s.scheduler) 1 0) ss (stop ∷ []),
    sum_by-cons (λ s. cond (i == s.scheduler) 1 0) stop [],
    ap weight other,
    few,
  )
]

pub once_stopped : (n : ℕ) (ls : Earlier) → Followed n ls → (i : ℕ)
    → count_by (λ s. i == s.scheduler) (stops_after ls) ≤ 1
once_stopped n [] f i = omega arith
once_stopped n (lines.Stop stop ∷ older) f i =
    one_more (stops_after older) stop i
    (good_stop n (sections older) (stops_after older) stop f.1.good).2 (once_stopped n older f.0 i)
once_stopped n (Skipped ∷ older) f i = once_stopped n older f.0 i
once_stopped n (Letter l ∷ older) f i = once_stopped n older f.0 i
once_stopped n (Section k ∷ older) f i = once_stopped n older f.0 i
once_stopped n (Operation op ∷ older) f i = once_stopped n older f.0 i
once_stopped n (Threads ∷ older) f i = once_stopped n older f.0 i
once_stopped n (Schedule ∷ older) f i = once_stopped n older f.0 i
once_stopped n (Turns ts ∷ older) f i = once_stopped n older f.0 i
once_stopped n (Generate seed count ∷ older) f i = once_stopped n older f.0 i
once_stopped n (End ∷ older) f i = once_stopped n older f.0 i
once_stopped n (Unreadable ∷ older) f i = once_stopped n older f.0 i

-- before the first section none stops
pub no_section_none : (n : ℕ) (ls : Earlier) → Followed n ls → sections ls ≡ 0 → stops_after ls ≡ []
no_section_none n [] f e = refl
no_section_none n (lines.Stop stop ∷ older) f e =
    let good = good_stop n (sections older) (stops_after older) stop f.1.good in
    absurd (omega (arith, good.0, good.1.0, good.1.1, e))
no_section_none n (Skipped ∷ older) f e = no_section_none n older f.0 e
no_section_none n (Letter l ∷ older) f e = no_section_none n older f.0 e
no_section_none n (Section k ∷ older) f e = absurd (omega (arith, e))
no_section_none n (Operation op ∷ older) f e = no_section_none n older f.0 e
no_section_none n (Threads ∷ older) f e = no_section_none n older f.0 e
no_section_none n (Schedule ∷ older) f e = no_section_none n older f.0 e
no_section_none n (Turns ts ∷ older) f e = no_section_none n older f.0 e
no_section_none n (Generate seed count ∷ older) f e = no_section_none n older f.0 e
no_section_none n (End ∷ older) f e = no_section_none n older f.0 e
no_section_none n (Unreadable ∷ older) f e = no_section_none n older f.0 e
