-- What is known of an operation that is made, and of the names after it.
use Rattle.std.proofs.Common.{◌≡◌, ℕ, ◌+◌, ◌*◌, ◌/◌, ◌<◌, ◌≤◌, Bool, true, false, cond}
use Rattle.std.proofs.Common.{◌||◌, ◌==◌, nat_lt, List, [], ◌∷◌, ◌++◌, Option, Some, None}
use Rattle.std.proofs.Common.{refl, sym, ap, subst, ◌∙◌, arith}
use Rattle.std.specs.List.{AllByRecursion, count_by, find, list_any}
use Rattle.std.proofs.lemmas.List.Sums.{sum_by-cons, sum_by_push}
use Rattle.ea_model.specs.declared.operations.Op.{Op}
use Rattle.ea_model.specs.declared.operations.Op.TheVariants.{Alloc, Free, Realloc, Give, Take}
use Rattle.ea_model.specs.declared.operations.Op.TheVariants.{Info, Idle}
use Rattle.ea_model.specs.declared.units.TheConstants.{MAX_BYTES}
use Rattle.ea_gen.specs.Generated.{Making, allocs, draw_of, free_or, frees, front, give_or}
use Rattle.ea_gen.specs.Generated.{is_own, kind_of, modulus, of_kind, operation_of, take_or}
use Rattle.ea_gen.specs.Generated.{to_give, without}
use Rattle.ea_gen.specs.declared.kind.Kind.{Kind}
use Rattle.ea_gen.specs.declared.kind.Kind.TheVariants as kind

-- whether a name is among these
abbrev pub is_in : ℕ → List ℕ → Bool
is_in k ks = list_any (λ j. k == j) ks

-- how often a name is among these
abbrev pub times : ℕ → List ℕ → ℕ
times k ks = count_by (λ j. k == j) ks

-- an operation that is made of these names
abbrev pub IsChosen : Making → Op → Type 0
IsChosen m (Alloc name bytes) = (name ≡ m.name) × (bytes ≤ MAX_BYTES)
IsChosen m (Free name) = is_in name m.hand ≡ true
IsChosen m (Realloc old fresh bytes) = ⊥
IsChosen m (Give name to) = (is_in name m.hand ≡ true) × (is_own m.section name ≡ true)
    × (to ≡ m.section.scheduler + 1) × (to ≤ m.section.schedulers)
IsChosen m (Take name tries) = (is_in name m.waiting ≡ true) × (tries ≡ 1)
IsChosen m Info = ⊥
IsChosen m Idle = ⊥

few_bytes : (number : ℕ) → number < modulus → 4 * (number / 65536) ≤ MAX_BYTES
few_bytes number lt = omega arith

first_in : (k : ℕ) (ks : List ℕ) → is_in k (k ∷ ks) ≡ true
first_in k ks = grind arith

in_more : (k j : ℕ) (ks : List ℕ) → is_in k ks ≡ true → is_in k (j ∷ ks) ≡ true
in_more k j ks h = grind arith

allocates : (m : Making) → m.number < modulus → IsChosen m (allocs m)
allocates m lt = (refl, few_bytes m.number lt)

frees_front : (m : Making) (ks : List ℕ) → m.hand ≡ ks → IsChosen m (allocs m)
    → IsChosen m (free_or (allocs m) (front ks))
frees_front m [] e h = h
frees_front m (k ∷ ks) e h = subst (λ js. is_in k js ≡ true) (sym e) (first_in k ks)

frees_one : (m : Making) → m.number < modulus → IsChosen m (frees m)
frees_one m lt = frees_front m m.hand refl (allocates m lt)

takes_front : (m : Making) (ks : List ℕ) → m.waiting ≡ ks → IsChosen m (frees m)
    → IsChosen m (take_or (frees m) (front ks))
takes_front m [] e h = h
takes_front m (k ∷ ks) e h = (subst (λ js. is_in k js ≡ true) (sym e) (first_in k ks), refl)

found_first : (p : ℕ → Bool) (ks : List ℕ) (j k : ℕ) (b : Bool) → p j ≡ b
    → cond b (Some j) (find p ks) ≡ Some k
    → (find p ks ≡ Some k → (is_in k ks ≡ true) × (p k ≡ true))
    → (is_in k (j ∷ ks) ≡ true) × (p k ≡ true)
found_first p ks j k true t e h = let same : j ≡ k = cc in (
  subst (λ i. is_in i (j ∷ ks) ≡ true) same (first_in j ks),
  subst (λ i. p i ≡ true) same t,
)
found_first p ks j k false t e h = let f = h e in (in_more k j ks f.0, f.1)

-- a name that is found is one of them, and passes
found_in : (p : ℕ → Bool) (ks : List ℕ) (k : ℕ) → find p ks ≡ Some k
    → (is_in k ks ≡ true) × (p k ≡ true)
found_in p [] k e = absurd cc
found_in p (j ∷ ks) k e = found_first p ks j k (p j) refl e (found_in p ks k)

gives_found : (m : Making) (found : Option ℕ) (b : Bool)
    → nat_lt m.section.scheduler m.section.schedulers ≡ b
    → cond b (find (is_own m.section) m.hand) None ≡ found → IsChosen m (frees m)
    → IsChosen m (give_or (m.section.scheduler + 1) (frees m) found)
gives_found m None b t e h = h
gives_found m (Some k) false t e h = absurd cc
gives_found m (Some k) true t e h =
    let f = found_in (is_own m.section) m.hand k e in
    (f.0, f.1, refl, grind arith)

chosen_kind : (k : Kind) (m : Making) → m.number < modulus → IsChosen m (of_kind k m)
chosen_kind kind.Allocate m lt = allocates m lt
chosen_kind kind.Free m lt = frees_one m lt
chosen_kind kind.Take m lt = takes_front m m.waiting refl (frees_one m lt)
chosen_kind kind.Give m lt = gives_found m (to_give m)
    (nat_lt m.section.scheduler m.section.schedulers) refl refl (frees_one m lt)

pub chosen : (m : Making) → m.number < modulus → IsChosen m (operation_of m)
chosen m lt = chosen_kind (kind_of (draw_of m)) m lt

-- lists of names

pub same_name : (k j : ℕ) → (k == j) ≡ true → j ≡ k
same_name k j e = grind arith

pub either : (P : Type 0) (a b : Bool) → (a || b) ≡ true → (a ≡ true → P) → (b ≡ true → P) → P
either P true b h f g = f refl
either P false b h f g = g h

pub holds_one : (P : ℕ → Type 0) (ks : List ℕ) (k : ℕ) → AllByRecursion P ks → is_in k ks ≡ true
    → P k
holds_one P [] k h e = absurd cc
holds_one P (j ∷ ks) k h e = either (P k) (k == j) (is_in k ks) e
    (λ t. subst P (same_name k j t) h.0) (λ t. holds_one P ks k h.1 t)

pub all_push : (P : ℕ → Type 0) (ks : List ℕ) (k : ℕ) → AllByRecursion P ks → P k
    → AllByRecursion P (ks ++ k ∷ [])
all_push P [] k h e = (e, tt)
all_push P (j ∷ ks) k h e = (h.0, all_push P ks k h.1 e)

all_or : (P : ℕ → Type 0) (b : Bool) (ks rest : List ℕ) (j : ℕ) → AllByRecursion P (j ∷ ks)
    → AllByRecursion P rest → AllByRecursion P (cond b ks (j ∷ rest))
all_or P true ks rest j h r = h.1
all_or P false ks rest j h r = (h.0, r)

pub all_without : (P : ℕ → Type 0) (ks : List ℕ) (k : ℕ) → AllByRecursion P ks
    → AllByRecursion P (without k ks)
all_without P [] k h = tt
all_without P (j ∷ ks) k h = all_or P (j == k) ks (without k ks) j h (all_without P ks k h.1)

or_right : (a b c : Bool) → (a || b) ≡ true → (b ≡ true → c ≡ true) → (a || c) ≡ true
or_right true b c h f = refl
or_right false b c h f = f h

or_assoc : (a b c : Bool) → (a || (b || c)) ≡ ((a || b) || c)
or_assoc true b c = refl
or_assoc false b c = refl

or_none : (a : Bool) → (a || false) ≡ (false || a)
or_none true = refl
or_none false = refl

pub in_push : (ks : List ℕ) (j k : ℕ) → is_in k (ks ++ j ∷ []) ≡ (is_in k ks || (k == j))
in_push [] j k = or_none (k == j)
in_push (i ∷ ks) j k = ap (λ b. (k == i) || b) (in_push ks j k)
    ∙ or_assoc (k == i) (is_in k ks) (k == j)

in_or : (b : Bool) (ks rest : List ℕ) (i k : ℕ) → is_in k (cond b ks (i ∷ rest)) ≡ true
    → (is_in k rest ≡ true → is_in k ks ≡ true) → is_in k (i ∷ ks) ≡ true
in_or true ks rest i k h f = in_more k i ks h
in_or false ks rest i k h f = or_right (k == i) (is_in k rest) (is_in k ks) h f

pub in_without : (ks : List ℕ) (j k : ℕ) → is_in k (without j ks) ≡ true → is_in k ks ≡ true
in_without [] j k h = h
in_without (i ∷ ks) j k h = in_or (i == j) ks (without j ks) i k h (in_without ks j k)

pub times_push : (ks : List ℕ) (j k : ℕ) → times k (ks ++ j ∷ []) ≡ times k ks + cond (k == j) 1 0
times_push ks j k = sum_by_push (λ i. cond (k == i) 1 0) ks j

in_rest : (i j : ℕ) (ks : List ℕ) → (i == j) ≡ false → is_in j (i ∷ ks) ≡ true
    → is_in j ks ≡ true
in_rest i j ks e h = grind arith

without_one : (b : Bool) (ks rest : List ℕ) (i j k : ℕ) → (i == j) ≡ b
    → is_in j (i ∷ ks) ≡ true
    → (is_in j ks ≡ true → times k rest + cond (k == j) 1 0 ≡ times k ks)
    → times k (cond b ks (i ∷ rest)) + cond (k == j) 1 0 ≡ times k (i ∷ ks)
without_one true ks rest i j k e h f = omega (
  arith,
  sum_by-cons (λ x. cond (k == x) 1 0) i ks,
  ap {B = ℕ} (λ x. cond (k == x) 1 0) (same_name i j e),
)
without_one false ks rest i j k e h f = omega (
  arith,
  sum_by-cons (λ x. cond (k == x) 1 0) i ks,
  sum_by-cons (λ x. cond (k == x) 1 0) i rest,
  f (in_rest i j ks e h),
)

-- one that is among them is taken out once
pub times_without : (ks : List ℕ) (j k : ℕ) → is_in j ks ≡ true
    → times k (without j ks) + cond (k == j) 1 0 ≡ times k ks
times_without [] j k h = absurd cc
times_without (i ∷ ks) j k h = without_one (i == j) ks (without j ks) i j k refl h
    (times_without ks j k)
