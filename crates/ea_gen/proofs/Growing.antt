-- Texts that are made from their begin, and the names that they give.
use Rattle.std.proofs.Common.{◌≡◌, ℕ, ◌+◌, ◌-◌, ◌<◌, suc, max, Bool, true, false, cond, ◌==◌, List}
use Rattle.std.proofs.Common.{[], ◌∷◌, ◌++◌, refl, sym, ap, ◌∙◌, arith, append_assoc}
use Rattle.ea_model.specs.Trace.{greatest_of}
use Rattle.ea_model.specs.declared.operations.Op.{Op}
use Rattle.ea_model.specs.declared.operations.Op.TheVariants.{Alloc, Free, Realloc, Give, Take}
use Rattle.ea_model.specs.declared.operations.Op.TheVariants.{Info, Idle}
use Rattle.ea_gen.specs.Generated.{Making, after, given_to, operation_of, operations_from}
use Rattle.ea_gen.specs.Generated.{section_at, text_of, texts_from}

-- one more operation of a text
pub text_more : (text : List Op) (op : Op) (count k : ℕ) (m next : Making) → k < count
    → op ≡ operation_of m → next ≡ after op m
    → (text ++ op ∷ []) ++ operations_from (count - (k + 1)) next
    ≡ text ++ operations_from (count - k) m
text_more text op count k m next lt e f =
    let left : count - k ≡ suc (count - (k + 1)) = omega arith in
    let same : next ≡ after (operation_of m) m = f ∙ ap (λ o. after o m) e in
    append_assoc text (op ∷ []) (operations_from (count - (k + 1)) next)
    ∙ ap (λ n. text ++ op ∷ operations_from (count - (k + 1)) n) same
    ∙ ap (λ o. text ++ o ∷ operations_from (count - (k + 1)) (after (operation_of m) m)) e
    ∙ ap (λ j. text ++ operations_from j m) (sym left)

onto : (b : Bool) (name : ℕ) (xs ys zs : List ℕ) → zs ≡ xs ++ ys
    → cond b (name ∷ zs) zs ≡ cond b (name ∷ xs) xs ++ ys
onto true name xs ys zs e = ap (λ ks. name ∷ ks) e
onto false name xs ys zs e = e

pub given_to-append : (i : ℕ) (xs ys : List Op) → given_to i (xs ++ ys)
    ≡ given_to i xs ++ given_to i ys
given_to-append i [] ys = refl
given_to-append i (Alloc name bytes ∷ xs) ys = given_to-append i xs ys
given_to-append i (Free name ∷ xs) ys = given_to-append i xs ys
given_to-append i (Realloc old fresh bytes ∷ xs) ys = given_to-append i xs ys
given_to-append i (Give name to ∷ xs) ys = onto (to == i) name (given_to i xs) (given_to i ys)
    (given_to i (xs ++ ys)) (given_to-append i xs ys)
given_to-append i (Take name tries ∷ xs) ys = given_to-append i xs ys
given_to-append i (Info ∷ xs) ys = given_to-append i xs ys
given_to-append i (Idle ∷ xs) ys = given_to-append i xs ys

pub greatest_append : (xs ys : List Op) → greatest_of (xs ++ ys)
    ≡ max (greatest_of xs) (greatest_of ys)
greatest_append [] ys = omega arith
greatest_append (x ∷ xs) ys = omega (arith, greatest_append xs ys)

-- one more text
pub texts_more : (seed n count k : ℕ) (texts : List (List Op)) (given : List ℕ) (text : List Op)
    (gives : List ℕ) → k < n → text ≡ text_of seed (section_at n count (k + 1)) given
    → gives ≡ given_to (k + 1 + 1) text
    → (texts ++ text ∷ []) ++ texts_from seed n count (n - (k + 1)) (k + 1 + 1) gives
    ≡ texts ++ texts_from seed n count (n - k) (k + 1) given
texts_more seed n count k texts given text gives lt e f =
    let left : n - k ≡ suc (n - (k + 1)) = omega arith in
    let last : List Op → List (List Op) = λ t. texts ++ t
    ∷ texts_from seed n count (n - (k + 1)) (k + 1 + 1) (given_to (k + 1 + 1) t) in
    append_assoc texts (text ∷ []) (texts_from seed n count (n - (k + 1)) (k + 1 + 1) gives)
    ∙ ap (λ g. texts ++ text ∷ texts_from seed n count (n - (k + 1)) (k + 1 + 1) g) f
    ∙ ap last e
    ∙ ap (λ j. texts ++ texts_from seed n count j (k + 1) given) (sym left)
