-- A text makes a name once at most and gives it once at most, needs only what it holds, and takes
-- only what was given to its scheduler.
use Rattle.std.proofs.Common.{◌≡◌, ℕ, ◌+◌, ◌<◌, ◌≤◌, zero, suc, Bool, true, false, cond}
use Rattle.std.proofs.Common.{◌&&◌, ◌==◌, nat_lt, nat_le, List, [], ◌∷◌, refl}
use Rattle.std.proofs.Common.{ap, arith}
use Rattle.std.specs.List.{AllByRecursion, count_by}
use Rattle.std.proofs.lemmas.List.Sums.{sum_by-cons}
use Rattle.ea_model.specs.Trace.{gives, makes}
use Rattle.ea_model.specs.declared.operations.Op.{Op}
use Rattle.ea_model.specs.declared.operations.Op.TheVariants.{Alloc, Free, Realloc, Give, Take}
use Rattle.ea_model.specs.declared.operations.Op.TheVariants.{Info, Idle}
use Rattle.ea_gen.specs.Generated.{Making, after, base_of, given_to, hand_after, is_own}
use Rattle.ea_gen.specs.Generated.{operation_of, operations_from, waiting_after}
use Rattle.ea_gen.proofs.Chosen.{IsChosen, chosen, times}
use Rattle.ea_gen.proofs.Chosen.{times_push, times_without}
use Rattle.ea_gen.proofs.Fine.{Fine, IsBefore, next_fine}

-- 1 for one of that many names from the first on
abbrev pub inside : ℕ → ℕ → ℕ → ℕ
inside first many k = cond (nat_le first k && nat_lt k (first + many)) 1 0

inside_more : (first many k : ℕ) → cond (k == first) 1 0 + inside (first + 1) many k
    ≡ inside first (suc many) k
inside_more first many k = grind arith

-- names that are made

makes_one : (m : Making) (op : Op) (k : ℕ) → IsChosen m op
    → cond (makes k op) 1 0 ≤ cond (k == m.name) 1 0
makes_one m (Alloc name bytes) k c = omega (arith, ap {B = ℕ} (λ j. cond (k == j) 1 0) c.0)
makes_one m (Free name) k c = omega arith
makes_one m (Realloc old fresh bytes) k c = absurd c
makes_one m (Give name to) k c = omega arith
makes_one m (Take name tries) k c = omega arith
makes_one m Info k c = absurd c
makes_one m Idle k c = absurd c

pub all_made : (left : ℕ) (m : Making) (k : ℕ) → Fine left m
    → count_by (makes k) (operations_from left m) ≤ inside m.name left k
all_made zero m k f = omega arith
all_made (suc left) m k f = omega (
  arith,
  sum_by-cons (λ o. cond (makes k o) 1 0) (operation_of m)
      (operations_from left (after (operation_of m) m)),
  makes_one m (operation_of m) k (chosen m f.number),
  all_made left (after (operation_of m) m) k (next_fine left m f),
  inside_more m.name left k,
)

-- names that are given

gives_one : (m : Making) (op : Op) (k : ℕ) → IsChosen m op
    → cond (gives k op) 1 0 + times k (hand_after op m.hand) + times k (waiting_after op m.waiting)
    ≤ times k m.hand + times k m.waiting + cond (k == m.name) 1 0
gives_one m (Alloc name bytes) k c = omega (
  arith,
  times_push m.hand name k,
  ap {B = ℕ} (λ j. cond (k == j) 1 0) c.0,
)
gives_one m (Free name) k c = omega (arith, times_without m.hand name k c)
gives_one m (Realloc old fresh bytes) k c = absurd c
gives_one m (Give name to) k c = omega (arith, times_without m.hand name k c.0)
gives_one m (Take name tries) k c = omega (
  arith,
  times_push m.hand name k,
  times_without m.waiting name k c.0,
)
gives_one m Info k c = absurd c
gives_one m Idle k c = absurd c

gives_upto : (left : ℕ) (m : Making) (k : ℕ) → Fine left m
    → count_by (gives k) (operations_from left m)
    ≤ times k m.hand + times k m.waiting + inside m.name left k
gives_upto zero m k f = omega arith
gives_upto (suc left) m k f = omega (
  arith,
  sum_by-cons (λ o. cond (gives k o) 1 0) (operation_of m)
      (operations_from left (after (operation_of m) m)),
  gives_one m (operation_of m) k (chosen m f.number),
  gives_upto left (after (operation_of m) m) k (next_fine left m f),
  inside_more m.name left k,
)

keeps_one : (m : Making) (op : Op) (k : ℕ) → IsChosen m op → is_own m.section k ≡ false
    → gives k op ≡ false
keeps_one m (Alloc name bytes) k c e = refl
keeps_one m (Free name) k c e = refl
keeps_one m (Realloc old fresh bytes) k c e = absurd c
keeps_one m (Give name to) k c e = other (λ j. is_own m.section j) k name e c.1
  where
    other : (P : ℕ → Bool) (i j : ℕ) → P i ≡ false → P j ≡ true → (i == j) ≡ false
    other P i j f t = grind arith
keeps_one m (Take name tries) k c e = refl
keeps_one m Info k c e = absurd c
keeps_one m Idle k c e = absurd c

keeps_all : (left : ℕ) (m : Making) (k : ℕ) → Fine left m → is_own m.section k ≡ false
    → count_by (gives k) (operations_from left m) ≡ 0
keeps_all zero m k f e = refl
keeps_all (suc left) m k f e = omega (
  arith,
  sum_by-cons (λ o. cond (gives k o) 1 0) (operation_of m)
      (operations_from left (after (operation_of m) m)),
  ap {B = ℕ} (λ b. cond b 1 0) (keeps_one m (operation_of m) k (chosen m f.number) e),
  keeps_all left (after (operation_of m) m) k (next_fine left m f) e,
)

-- no own name is one of a scheduler before it
not_waiting : (base k : ℕ) (ks : List ℕ) → base < k → AllByRecursion (IsBefore base) ks
    → times k ks ≡ 0
not_waiting base k [] lt h = refl
not_waiting base k (j ∷ ks) lt h =
    let other : (k == j) ≡ false = different k j (omega (arith, h.0)) in
    omega (
      arith,
      sum_by-cons (λ i. cond (k == i) 1 0) j ks,
      ap {B = ℕ} (λ b. cond b 1 0) other,
      not_waiting base k ks lt h.1,
    )
  where
    different : (i j : ℕ) → j < i → (i == j) ≡ false
    different i j lt = grind arith

own_cases : (base count k given : ℕ) (own : Bool) → (nat_lt base k && nat_le k (base + count)) ≡ own
    → (own ≡ false → given ≡ 0) → (base < k → given ≤ inside (base + 1) count k)
    → given ≤ inside (base + 1) count k
own_cases base count k given true e none some = some (grind arith)
own_cases base count k given false e none some = omega (arith, none refl)

-- a scheduler that has nothing at hand yet gives its own names, each once at most
pub all_given : (left : ℕ) (m : Making) (k : ℕ) → Fine left m → m.hand ≡ [] → m.name
    ≡ base_of m.section + 1 → count_by (gives k) (operations_from left m)
    ≤ inside (base_of m.section + 1) m.section.count k
all_given left m k f none e =
    let many : left ≡ m.section.count = omega (arith, f.name) in
    own_cases (base_of m.section) m.section.count k
    (count_by (gives k) (operations_from left m)) (is_own m.section k) refl
    (keeps_all left m k f)
    (λ lt. omega (
      arith,
      gives_upto left m k f,
      ap (times k) none,
      not_waiting (base_of m.section) k m.waiting lt f.waiting,
      ap {B = ℕ} (λ j. inside j left k) e,
      ap {B = ℕ} (λ j. inside (base_of m.section + 1) j k) many,
    ))

-- the names that are given are its own

given_one : (s : _) (name : ℕ) → is_own s name ≡ true → IsBefore (base_of s + s.count) name
given_one s name e = own_range (base_of s) (base_of s + s.count) name e
  where
    own_range : (low high k : ℕ) → (nat_lt low k && nat_le k high) ≡ true → IsBefore high k
    own_range low high k t = (grind arith, grind arith)

given_more : (m : Making) (i : ℕ) (op : Op) (rest : List Op) → IsChosen m op
    → AllByRecursion (IsBefore (base_of m.section + m.section.count)) (given_to i rest)
    → AllByRecursion (IsBefore (base_of m.section + m.section.count)) (given_to i (op ∷ rest))
given_more m i (Alloc name bytes) rest c h = h
given_more m i (Free name) rest c h = h
given_more m i (Realloc old fresh bytes) rest c h = absurd c
given_more m i (Give name to) rest c h = all_if (to == i)
  where
    all_if : (b : Bool) → AllByRecursion (IsBefore (base_of m.section + m.section.count))
        (cond b (name ∷ given_to i rest) (given_to i rest))
    all_if true = (given_one m.section name c.1, h)
    all_if false = h
given_more m i (Take name tries) rest c h = h
given_more m i Info rest c h = absurd c
given_more m i Idle rest c h = absurd c

pub given_before : (left : ℕ) (m : Making) (i : ℕ) → Fine left m
    → AllByRecursion (IsBefore (base_of m.section + m.section.count))
    (given_to i (operations_from left m))
given_before zero m i f = tt
given_before (suc left) m i f = given_more m i (operation_of m)
    (operations_from left (after (operation_of m) m)) (chosen m f.number)
    (given_before left (after (operation_of m) m) i (next_fine left m f))
