-- The texts of a trace.
use Rattle.std.proofs.Common.{◌≡◌, ℕ, zero, suc, ◌+◌, ◌-◌, ◌<◌, ◌≤◌, List, [], ◌∷◌}
use Rattle.std.proofs.Common.{map, drop, length, slice_index_or, refl, ap, ◌∙◌, arith}
use Rattle.ea_model.specs.declared.operations.Op.{Op}
use Rattle.ea_model.specs.Lists.{Items}
use Rattle.ea_machine.specs.Setup.{text_for}
use Rattle.ea_machine.specs.Tasks.{later}

text_in : (texts : List (Items Op)) (i : ℕ) (text : Items Op) → i < length texts
    → text ≡ slice_index_or texts i text → text.items ≡ text_for (map (λ t. t.items) texts) (suc i)
text_in [] i text h e = absurd (omega (arith, h))
text_in (t ∷ texts) zero text h e = ap (λ (x : Items Op). x.items) e
text_in (t ∷ texts) (suc i) text h e = text_in texts i text (omega (arith, h)) e

-- the text of a scheduler
pub text-is : (texts : List (Items Op)) (number : ℕ) (text : Items Op) → 1 ≤ number
    → number ≤ length texts → text ≡ slice_index_or texts (number - 1) text
    → text.items ≡ text_for (map (λ t. t.items) texts) number
text-is texts zero text from to e = absurd (omega (arith, from))
text-is texts (suc i) text from to e =
    text_in texts i text (omega (arith, to))
    (e ∙ ap (λ k. slice_index_or texts k text) (omega arith))

-- the operations that are left after one more
pub drop-later : (k : ℕ) (ops : List Op) → drop (k + 1) ops ≡ later (drop k ops)
drop-later k ops = let e : k + 1 ≡ suc k = omega arith in ap (λ n. drop n ops) e ∙ by k ops
  where
    by : (k : ℕ) (ops : List Op) → drop (suc k) ops ≡ later (drop k ops)
    by zero [] = refl
    by zero (o ∷ ops) = refl
    by (suc k) [] = refl
    by (suc k) (o ∷ ops) = by k ops
