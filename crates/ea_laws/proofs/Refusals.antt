-- Why there is no choice, and why there is no plan.
use Rattle.std.proofs.Common.{◌≡◌, ◌≢◌, ℕ, zero, suc, ◌+◌, ◌<◌, ◌≤◌, ◌↔◌, true, false, List, []}
use Rattle.std.proofs.Common.{◌∷◌, filter, All, sym, ◌∙◌, ap, subst, refl, inl, inr, arith}
use Rattle.std.specs.Prelude.{Bool, Option, Some, None, IsNone, Err, option_map}
use Rattle.std.proofs.lemmas.Bool.{cases_Bool, cases_eq}
use Rattle.std.proofs.lemmas.List.Elements.{All-nil, All-cons, All-head, All-tail}
use Rattle.ea_model.specs.declared.units.TheConstants.{NUMBERS}
use Rattle.ea_model.specs.declared.carriers.Candidate.{Candidate}
use Rattle.ea_model.specs.declared.carriers.OwnCarrier.{OwnCarrier}
use Rattle.ea_model.specs.declared.carriers.Segment.{Segment}
use Rattle.ea_model.specs.declared.carriers.Spot.{Spot}
use Rattle.ea_model.specs.declared.settings.Settings.{Settings}
use Rattle.ea_model.specs.declared.entries.NoCarrier.TheVariants.{Numbers, Space}
use Rattle.ea_model.specs.Choice.{first}
use Rattle.ea_model.specs.Content.{Content, is_empty_multi}
use Rattle.ea_model.specs.Region.{runs}
use Rattle.ea_model.specs.Instance.{Instance, chosen_spot, unused_from, is_used, first_number, plan}
use Rattle.ea_model.specs.Instance.{numbered_plan, sized_plan, least_plan, free_run, wanted_pages}
use Rattle.ea_model.specs.Instance.{segments}
use Rattle.ea_model.specs.Strategies.{candidates, choice_among, choice_for, choice_empty}
use Rattle.ea_model.specs.Strategies.{large_enough, inspected_by, lower, may_miss, or_else}
use Rattle.ea_model.specs.Strategies.{takes_first, spot_of}
use Rattle.ea_model.specs.Units.{least_pages}
use Rattle.ea_model.proofs.First.{first-none, large-none, none-large}
use Rattle.ea_model.proofs.Options.{mapped, unmapped}
use Rattle.ea_laws.proofs.FreeRuns.{place-none}
use Rattle.ea_laws.specs.Spots.{AllUsed, FindsNone}
use Rattle.ea_laws.proofs.Inspected.{all_inspected}
use Rattle.ea_laws.proofs.Keeping.{wanted-enough}
use Rattle.ea_laws.proofs.Unused.{unused_from-zero, unused_from-used, unused_from-free_here}

-- none of them is chosen exactly where none is large enough
none_large-enough : (t : Candidate → Candidate → Bool) (need : ℕ) (xs : List Candidate)
    → IsNone (first t (large_enough need xs)) ↔ All (λ x. x.size < need) xs
none_large-enough t need xs = (
  λ h. none-large (λ (x : Candidate). x.size) need xs (first-none t (large_enough need xs) h),
  λ h. subst (λ ys. IsNone (first t ys)) (sym (large-none (λ (x : Candidate). x.size) need xs h))
      refl,
)

neither : (asked : Bool) (found other : Option Candidate) → IsNone (or_else asked found other)
    → IsNone found × (asked ≡ true → IsNone other)
neither asked (Some x) other h = absurd cc
neither true None other h = (refl, λ _. h)
neither false None other h = (refl, λ e. absurd cc)

none_of_both : (asked : Bool) (found other : Option Candidate) → IsNone found
    → (asked ≡ true → IsNone other) → IsNone (or_else asked found other)
none_of_both asked (Some x) other h f = h
none_of_both true None other h f = f refl
none_of_both false None other h f = refl

module _ (s : Settings) (need : ℕ) (cs : List Content) where
  abbrev inspected : List Candidate
  inspected = inspected_by s.strategy s.mbsd (candidates cs)

  abbrev among : Option Candidate
  among = choice_among s.strategy s.mbsd need cs

  -- there is no choice exactly where no gap that is inspected is large enough, nor one of a carrier
  -- without blocks
  pub choice-none : IsNone (choice_for s need cs) ↔ FindsNone s need cs
  choice-none = (
    λ h. let both = neither (may_miss s.strategy) among (choice_empty need cs) h in (
      (none_large-enough (takes_first s.strategy) need inspected).0 both.0,
      λ miss. (none_large-enough lower need (candidates (filter is_empty_multi cs))).0
          (both.1 miss),
    ),
    λ h. none_of_both (may_miss s.strategy) among (choice_empty need cs)
        ((none_large-enough (takes_first s.strategy) need inspected).1 h.0)
        (λ miss. (none_large-enough lower need (candidates (filter is_empty_multi cs))).1
        (h.1 miss)),
  )

  -- where the strategy misses no gap, exactly where none is large enough
  pub choice-none_at_all : may_miss s.strategy ≡ false
      → IsNone (choice_for s need cs) ↔ All (λ x. x.size < need) (candidates cs)
  choice-none_at_all none =
      let same = all_inspected s.strategy s.mbsd (candidates cs) none in (
        λ h. subst (All (λ (x : Candidate). x.size < need)) same (choice-none.0 h).0,
        λ h. choice-none.1 (
          subst (All (λ (x : Candidate). x.size < need)) (sym same) h,
          λ miss. let never : true ≡ false = sym miss ∙ none in absurd cc,
        ),
      )

-- the same of the chosen spot, and of what is made of it
module _ {B : Type 0} (f : Spot → B) (i : Instance) (need : ℕ) where
  chosen_spot-none : IsNone (option_map f (chosen_spot i need)) ↔ IsNone
      (choice_for i.settings need i.contents)
  chosen_spot-none = (
    λ h. unmapped spot_of (choice_for i.settings need i.contents)
        (unmapped f (chosen_spot i need) h),
    λ h. mapped f (chosen_spot i need) (mapped spot_of (choice_for i.settings need i.contents) h),
  )

  pub chosen-none : IsNone (option_map f (chosen_spot i need)) ↔ FindsNone i.settings need
      i.contents
  chosen-none = (
    λ h. (choice-none i.settings need i.contents).0 (chosen_spot-none.0 h),
    λ h. chosen_spot-none.1 ((choice-none i.settings need i.contents).1 h),
  )

  pub chosen-none_at_all : may_miss i.settings.strategy ≡ false
      → IsNone (option_map f (chosen_spot i need)) ↔ All (λ x. x.size < need)
      (candidates i.contents)
  chosen-none_at_all none = (
    λ h. (choice-none_at_all i.settings need i.contents none).0 (chosen_spot-none.0 h),
    λ h. chosen_spot-none.1 ((choice-none_at_all i.settings need i.contents none).1 h),
  )

-- all of that many numbers are in use exactly where none is found
all_used : (k low : ℕ) (os : List OwnCarrier) → unused_from k low os ≡ None → (n : ℕ) → low ≤ n
    → n < low + k → is_used n os ≡ true
all_used zero low os e n from below = absurd (omega arith)
all_used (suc k) low os e n from below =
    elim (cases_Bool (is_used low os)) [
      | inl used ↦ elim (cases_eq n low) [
        | inl same ↦ ap (λ m. is_used m os) same ∙ used
        | inr other ↦ all_used k (low + 1) os (sym (unused_from-used k low os used) ∙ e) n
            (omega arith) (omega arith)
      ]
      | inr free ↦ let never : Some low ≡ None = sym (unused_from-free_here k low os free)
          ∙ e in absurd cc
    ]

none_unused : (k low : ℕ) (os : List OwnCarrier)
    → ((n : ℕ) → low ≤ n → n < low + k → is_used n os ≡ true) → unused_from k low os ≡ None
none_unused zero low os h = unused_from-zero low os
none_unused (suc k) low os h = unused_from-used k low os (h low (omega arith) (omega arith))
    ∙ none_unused k (low + 1) os (λ n from below. h n (omega arith) (omega arith))

not_numbers_least : (i : Instance) (need number : ℕ) (o : Option ℕ)
    → least_plan i need number o ≢ Err Numbers
not_numbers_least i need number None e = absurd cc
not_numbers_least i need number (Some base) e = absurd cc

not_numbers : (i : Instance) (need number : ℕ) (o : Option ℕ)
    → sized_plan i need number o ≢ Err Numbers
not_numbers i need number None e = not_numbers_least i need number (free_run i (least_pages need)) e
not_numbers i need number (Some base) e = absurd cc

numbered : (i : Instance) (need : ℕ) (o : Option ℕ) → numbered_plan i need o ≡ Err Numbers
    → o ≡ None
numbered i need None e = refl
numbered i need (Some number) e = absurd
    (not_numbers i need number (free_run i (wanted_pages i need)) e)

-- the numbers are the cause exactly where all are in use
pub plan-numbers : (i : Instance) (need : ℕ) → (plan i need ≡ Err Numbers) ↔ AllUsed i
plan-numbers i need = (
  λ e. all_used NUMBERS (first_number i.number) i.own
      (numbered i need (unused_from NUMBERS (first_number i.number) i.own) e),
  λ h. ap (numbered_plan i need) (none_unused NUMBERS (first_number i.number) i.own h),
)

no_room : (i : Instance) (need number : ℕ) (o : Option ℕ) → least_plan i need number o ≡ Err Space
    → IsNone o
no_room i need number None e = refl
no_room i need number (Some base) e = absurd cc

no_room_at_all : (i : Instance) (need number : ℕ) (o : Option ℕ)
    → sized_plan i need number o ≡ Err Space → IsNone (free_run i (least_pages need))
no_room_at_all i need number None e = no_room i need number (free_run i (least_pages need)) e
no_room_at_all i need number (Some base) e = absurd cc

spaced : (i : Instance) (need : ℕ) (o : Option ℕ) → numbered_plan i need o ≡ Err Space → (o ≢ None)
    × IsNone (free_run i (least_pages need))
spaced i need None e = absurd cc
spaced i need (Some number) e =
    (λ never. absurd cc, no_room_at_all i need number (free_run i (wanted_pages i need)) e)

is_none : {A : Type 0} (o : Option A) → IsNone o → o ≡ None
is_none None h = refl
is_none (Some x) h = absurd cc

-- no run for the least carrier, and so none for the wanted one
All-more : (a b : ℕ) (rs : List Segment) → a ≤ b → All (λ r. r.pages < a) rs
    → All (λ r. r.pages < b) rs
All-more a b [] le h = All-nil (λ (r : Segment). r.pages < b)
All-more a b (r ∷ rs) le h =
    All-cons (λ (r : Segment). r.pages < b) r rs
    (omega (arith, All-head (λ (r : Segment). r.pages < a) r rs h))
    (All-more a b rs le (All-tail (λ (r : Segment). r.pages < a) r rs h))

unplanned : (i : Instance) (need : ℕ) (o : Option ℕ) → o ≢ None
    → free_run i (wanted_pages i need) ≡ None → free_run i (least_pages need) ≡ None
    → numbered_plan i need o ≡ Err Space
unplanned i need None some next least = absurd (some refl)
unplanned i need (Some number) some next least = ap (sized_plan i need number) next
    ∙ ap (least_plan i need number) least

-- the space is the cause exactly where a number is not in use, and no run holds the least carrier
pub plan-space : (i : Instance) (need : ℕ)
    → (plan i need ≡ Err Space) ↔ ((AllUsed i → ⊥)
    × All (λ r. r.pages < least_pages need) (runs i.first i.end (segments i.own)))
plan-space i need =
    let rs : List Segment = runs i.first i.end (segments i.own) in
    let falls : Bool = i.settings.rules.falling in (
      λ e. let both = spaced i need (unused_from NUMBERS (first_number i.number) i.own) e in (
        λ all. both.0 (none_unused NUMBERS (first_number i.number) i.own all),
        (place-none falls (least_pages need) rs).0 both.1,
      ),
      λ h. unplanned i need (unused_from NUMBERS (first_number i.number) i.own)
          (λ none. h.0 (all_used NUMBERS (first_number i.number) i.own none))
          (is_none (free_run i (wanted_pages i need))
          ((place-none falls (wanted_pages i need) rs).1
          (All-more (least_pages need) (wanted_pages i need) rs (wanted-enough i need) h.1)))
          (is_none (free_run i (least_pages need)) ((place-none falls (least_pages need) rs).1 h.1)),
    )
