-- A generated trace is valid.
use Rattle.std.proofs.Common.{◌≡◌, ℕ, ◌+◌, ◌-◌, ◌*◌, ◌%◌, ◌≤◌, inr, zero, suc, true, cond}
use Rattle.std.proofs.Common.{List, [], ◌∷◌, ◌++◌, length, map, refl, sym, ap, subst, ◌∙◌}
use Rattle.std.proofs.Common.{arith}
use Rattle.std.specs.List.{All, AllByRecursion, count_by, flat_map, list_any, sum_by}
use Rattle.std.proofs.Math.Nat.{mul-le-mul_right, suc-mul}
use Rattle.std.proofs.lemmas.List.{length-append}
use Rattle.std.proofs.lemmas.List.Elements.{All-from_recursion}
use Rattle.std.proofs.lemmas.List.Folds.{list_any-append}
use Rattle.std.proofs.lemmas.List.Sums.{sum_by-append}
use Rattle.ea_model.specs.Trace.{BringsBefore, IsOperation, IsValidTrace, gives, gives_to}
use Rattle.ea_model.specs.Trace.{greatest_of, listed, makes, operations_of, plain, takes, text_at}
use Rattle.ea_model.specs.Trace.{texts_of, tries_of}
use Rattle.ea_model.specs.declared.operations.Op.{Op}
use Rattle.ea_model.specs.declared.settings.Letter.{Letter}
use Rattle.ea_model.specs.declared.trace.Trace.{Trace}
use Rattle.ea_model.specs.declared.units.TheConstants.{MAX_OPS, MAX_SEED}
use Rattle.ea_model.proofs.Traces.{valid_from_plain}
use Rattle.ea_gen.specs.Generated.{generated, generated_trace, given_to, section_at}
use Rattle.ea_gen.specs.Generated.{modulus, start, text_of, texts_from}
use Rattle.ea_gen.proofs.Chosen.{is_in}
use Rattle.ea_gen.proofs.Fine.{Fine, IsBefore, all_count, all_good, all_tries, small}
use Rattle.ea_gen.proofs.Holding.{all_brought, all_taken, given_by, or_last, or_left}
use Rattle.ea_gen.proofs.Once.{all_given, all_made, given_before, inside}

-- the operations of texts
abbrev all_of : List (List Op) → List Op
all_of texts = flat_map (λ text. text) texts

-- a text at a place takes the name only if it is given to its scheduler: the first text's one
-- has been given it already
abbrev Addressed : ℕ → ℕ → List ℕ → List Op → ℕ → Type 0
Addressed k i given ops zero = is_in k given ≡ true
Addressed k i given ops (suc j) = list_any (gives_to k (i + suc j)) ops ≡ true

-- that many texts from scheduler i on, to which these names were given
record Good (n count left i : ℕ) (given : List ℕ) (texts : List (List Op)) : Type 0 where
  texts_made : length texts ≡ left
  good : AllByRecursion (IsOperation n) (all_of texts)
  many : length (all_of texts) ≡ left * count
  tries : sum_by tries_of (all_of texts) ≤ left * count
  made_once : (k : ℕ) → count_by (makes k) (all_of texts)
      ≤ inside ((i - 1) * count + 1) (left * count) k
  given_once : (k : ℕ) → count_by (gives k) (all_of texts)
      ≤ inside ((i - 1) * count + 1) (left * count) k
  held : (j : ℕ) → BringsBefore (text_at j texts)
  addressed : (j k : ℕ) → list_any (takes k) (text_at j texts) ≡ true
      → Addressed k i given (all_of texts) j

-- products

base_more : (i count : ℕ) → 1 ≤ i → (i + 1 - 1) * count ≡ (i - 1) * count + count
base_more i count h =
    let same : i + 1 - 1 ≡ suc (i - 1) = omega arith in
    ap (λ j. j * count) same ∙ suc-mul (i - 1) count

within : (n count i : ℕ) → 1 ≤ i → i ≤ n → (i - 1) * count + count ≤ n * count
within n count i h le =
    let same : suc (i - 1) ≡ i = omega arith in
    omega (arith, suc-mul (i - 1) count, ap (λ j. j * count) same, mul-le-mul_right count le)

pub start_fine : (seed n count i : ℕ) (given : List ℕ) → 1 ≤ i → i ≤ n → n * count ≤ MAX_OPS
    → AllByRecursion (IsBefore ((i - 1) * count)) given
    → Fine count (start seed (section_at n count i) given)
start_fine seed n count i given h le room g = record {
  number = small ((seed + i) % modulus);
  name = omega arith;
  fresh = omega arith;
  few = omega (arith, within n count i h le);
  hand = tt;
  waiting = g;
}

-- ranges that follow each other

inside_join : (first many more k : ℕ) → inside first many k + inside (first + many) more k
    ≡ inside first (many + more) k
inside_join first many more k = grind arith

inside_one : (first many k : ℕ) → inside first many k ≤ 1
inside_one first many k = grind arith

counts_more : (i count left k some rest : ℕ) → 1 ≤ i
    → some ≤ inside ((i - 1) * count + 1) count k
    → rest ≤ inside ((i + 1 - 1) * count + 1) (left * count) k
    → some + rest ≤ inside ((i - 1) * count + 1) (suc left * count) k
counts_more i count left k some rest h e f =
    let begin : (i + 1 - 1) * count + 1 ≡ (i - 1) * count + 1 + count = omega
    (arith, base_more i count h) in
    let many : suc left * count ≡ count + left * count = omega (arith, suc-mul left count) in
    omega (
      arith,
      ap {B = ℕ} (λ b. inside b (left * count) k) begin,
      ap {B = ℕ} (λ j. inside ((i - 1) * count + 1) j k) many,
      inside_join ((i - 1) * count + 1) count (left * count) k,
    )

all_append : (P : Op → Type 0) (xs ys : List Op) → AllByRecursion P xs → AllByRecursion P ys
    → AllByRecursion P (xs ++ ys)
all_append P [] ys h k = k
all_append P (x ∷ xs) ys h k = (h.0, all_append P xs ys h.1 k)

held_more : (text : List Op) (texts : List (List Op)) → BringsBefore text
    → ((j : ℕ) → BringsBefore (text_at j texts)) → (j : ℕ) → BringsBefore (text_at j (text ∷ texts))
held_more text texts h f zero = h
held_more text texts h f (suc j) = f j

given_later : (i k : ℕ) (text rest : List Op) (j : ℕ)
    → Addressed k (i + 1) (given_to (i + 1) text) rest j
    → list_any (gives_to k (i + suc j)) (text ++ rest) ≡ true
given_later i k text rest zero h = list_any-append (gives_to k (i + 1)) text rest
    ∙ or_left (list_any (gives_to k (i + 1)) text) (list_any (gives_to k (i + 1)) rest)
    (given_by (i + 1) k text h)
given_later i k text rest (suc j) h =
    let same : i + 1 + suc j ≡ i + suc (suc j) = omega arith in
    list_any-append (gives_to k (i + suc (suc j))) text rest
    ∙ or_last (list_any (gives_to k (i + suc (suc j))) text)
    (list_any (gives_to k (i + suc (suc j))) rest)
    (subst (λ to. list_any (gives_to k to) rest ≡ true) same h)

addressed_more : (seed n count i : ℕ) (given : List ℕ) (texts : List (List Op))
    → Fine count (start seed (section_at n count i) given)
    → ((j k : ℕ) → list_any (takes k) (text_at j texts) ≡ true
    → Addressed k (i + 1) (given_to (i + 1) (text_of seed (section_at n count i) given))
    (all_of texts) j)
    → (j k : ℕ)
    → list_any (takes k) (text_at j (text_of seed (section_at n count i) given ∷ texts)) ≡ true
    → Addressed k i given (text_of seed (section_at n count i) given ++ all_of texts) j
addressed_more seed n count i given texts f h zero k e =
    all_taken count (start seed (section_at n count i) given) k f e
addressed_more seed n count i given texts f h (suc j) k e =
    given_later i k (text_of seed (section_at n count i) given) (all_of texts) j (h j k e)

nothing : (before rest : List Op) (o : Op) → [] ≡ before ++ o ∷ rest → ⊥
nothing [] rest o e = cc
nothing (b ∷ before) rest o e = cc

texts_good : (seed n count left i : ℕ) (given : List ℕ) → 1 ≤ i → i + left ≡ n + 1
    → n * count ≤ MAX_OPS → AllByRecursion (IsBefore ((i - 1) * count)) given
    → Good n count left i given (texts_from seed n count left i given)
texts_good seed n count zero i given h e room g = record {
  texts_made = refl;
  good = tt;
  many = omega arith;
  tries = omega arith;
  made_once = λ k. omega arith;
  given_once = λ k. omega arith;
  held = λ j before rest o name e need. absurd (nothing before rest o e);
  addressed = λ j k t. absurd cc;
}
texts_good seed n count (suc left) i given h e room g =
    let m = start seed (section_at n count i) given in
    let text = text_of seed (section_at n count i) given in
    let gives_on = given_to (i + 1) text in
    let texts = texts_from seed n count left (i + 1) gives_on in
    let f : Fine count m = start_fine seed n count i given h (omega arith) room g in
    let rest : Good n count left (i + 1) gives_on texts =
    texts_good seed n count left (i + 1) gives_on (omega arith) (omega arith) room
    (subst (λ b. AllByRecursion (IsBefore b) gives_on) (sym (base_more i count h))
    (given_before count m (i + 1) f)) in
    record {
      texts_made = ap suc rest.texts_made;
      good = all_append (IsOperation n) text (all_of texts) (all_good count m f) rest.good;
      many = omega (
        arith,
        length-append text (all_of texts),
        all_count count m,
        rest.many,
        suc-mul left count,
      );
      tries = omega (
        arith,
        sum_by-append tries_of text (all_of texts),
        all_tries count m f,
        rest.tries,
        suc-mul left count,
      );
      made_once = λ k. subst (λ c. c ≤ inside ((i - 1) * count + 1) (suc left * count) k)
          (sym (sum_by-append (λ o. cond (makes k o) 1 0) text (all_of texts)))
          (counts_more i count left k (count_by (makes k) text)
          (count_by (makes k) (all_of texts)) h (all_made count m k f) (rest.made_once k));
      given_once = λ k. subst (λ c. c ≤ inside ((i - 1) * count + 1) (suc left * count) k)
          (sym (sum_by-append (λ o. cond (gives k o) 1 0) text (all_of texts)))
          (counts_more i count left k (count_by (gives k) text)
          (count_by (gives k) (all_of texts)) h (all_given count m k f refl refl)
          (rest.given_once k));
      held = held_more text texts (all_brought count m f refl) rest.held;
      addressed = addressed_more seed n count i given texts f rest.addressed;
    }

items-listed : (texts : List (List Op)) → map (λ text. text.items) (map (λ text. listed text) texts)
    ≡ texts
items-listed [] = refl
items-listed (text ∷ texts) = ap (λ rest. text ∷ rest) (items-listed texts)

addressed_all : (k : ℕ) (ops : List Op) (j : ℕ) → Addressed k 1 [] ops j
    → list_any (gives_to k (j + 1)) ops ≡ true
addressed_all k ops zero h = absurd cc
addressed_all k ops (suc j) h =
    let same : 1 + suc j ≡ suc j + 1 = omega arith in
    subst (λ to. list_any (gives_to k to) ops ≡ true) same h

-- a generated trace is valid
generated_valid : (letter : Letter) (seed n count : ℕ) → seed ≤ MAX_SEED → 1 ≤ count
    → n * count ≤ MAX_OPS → IsValidTrace n (generated_trace letter seed n count)
generated_valid letter seed n count s c room =
    let t = generated_trace letter seed n count in
    let texts : texts_of t ≡ generated seed n count = items-listed (generated seed n count) in
    let all : operations_of t ≡ all_of (generated seed n count) = ap all_of texts in
    let g : Good n count n 1 [] (generated seed n count) =
    texts_good seed n count n 1 [] (omega arith) (omega arith) room tt in
    record {
      texts = inr (ap length texts ∙ g.texts_made);
      mode = (s, c, room);
      stops = λ k d h. absurd (omega (arith, h));
      stopped_once = λ i. omega arith;
      may_stop = refl;
      operations = subst (All (IsOperation n)) (sym all)
          (All-from_recursion (IsOperation n) (all_of (generated seed n count)) g.good);
      few = omega (arith, ap length all, g.many);
      tries = omega (arith, ap (sum_by tries_of) all, g.tries);
      made_once = λ k. omega (
        arith,
        ap (count_by (makes k)) all,
        g.made_once k,
        inside_one ((1 - 1) * count + 1) (n * count) k,
      );
      given_once = λ k. omega (
        arith,
        ap (count_by (gives k)) all,
        g.given_once k,
        inside_one ((1 - 1) * count + 1) (n * count) k,
      );
      held = λ j. subst (λ xs. BringsBefore (text_at j xs)) (sym texts) (g.held j);
      addressed = λ j k h. subst (λ xs. list_any (gives_to k (j + 1)) xs ≡ true) (sym all)
          (addressed_all k (all_of (generated seed n count)) j (g.addressed j k
          (subst (λ xs. list_any (takes k) (text_at j xs) ≡ true) texts h)));
      greatest = sym (ap greatest_of all);
    }

-- so is a trace that says the same
pub valid_if_generated : (letter : Letter) (seed n count : ℕ) (t : Trace) → seed ≤ MAX_SEED
    → 1 ≤ count → n * count ≤ MAX_OPS → plain t ≡ generated_trace letter seed n count
    → IsValidTrace n t
valid_if_generated letter seed n count t s c room e = valid_from_plain n t
    (subst (IsValidTrace n) (sym e) (generated_valid letter seed n count s c room))
