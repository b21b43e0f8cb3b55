-- Words that are written into a memory, one part after another.
use Rattle.std.proofs.Common.{◌≡◌, ℕ, ◌+◌, ◌-◌, ◌<◌, ◌≤◌, List, ◌++◌, drop}
use Rattle.std.proofs.Common.{length, replicate, set, take, sym, ap, ◌∙◌, arith}
use Rattle.std.specs.Prelude.{min}
use Rattle.std.proofs.Math.Seq.{paste}
use Rattle.std.proofs.lemmas.List.{length-append, length-replicate, length-take}
use Rattle.std.proofs.lemmas.List.Edits.{fill_from_more, paste-paste, paste_all}
use Rattle.ea_contents.specs.Memory.{fitted, with_words}

pasted : (m ws : List ℕ) (at n : ℕ) → n ≡ length ws → paste m at ws n ≡ with_words at ws m
pasted m ws at n e = paste_all m at ws n e ∙ ap (λ k. take at m ++ (ws ++ drop (at + k) m)) e

-- one word more is 0
pub cleared-more : (m : List ℕ) (at k : ℕ) → at + k < length m
    → set (with_words at (replicate k 0) m) (at + k) 0 ≡ with_words at (replicate (k + 1) 0) m
cleared-more m at k less =
    ap (λ l. set l (at + k) 0)
    (sym (pasted m (replicate k 0) at k (sym (length-replicate k 0))))
    ∙ fill_from_more m at k 0 less
    ∙ pasted m (replicate (k + 1) 0) at (k + 1) (sym (length-replicate (k + 1) 0))

-- some words, and zeros after them
pub brought : (m src : List ℕ) (at n k : ℕ) → k ≡ min n (length src) → at + n ≤ length m
    → with_words (at + k) (replicate (n - k) 0) (with_words at (take n src) m)
    ≡ with_words at (fitted n src) m
brought m src at n k q fits =
    let s = take n src in
    let t = replicate (n - k) 0 in
    let e : k ≡ length s = q ∙ sym (length-take n src) in
    let f : n - k ≡ length t = sym (length-replicate (n - k) 0) in
    ap (λ l. with_words (at + k) t l) (sym (pasted m s at k e))
    ∙ sym (pasted (paste m at s k) t (at + k) (n - k) f)
    ∙ paste-paste m at s t k (n - k) e f (omega (arith, fits))
    ∙ pasted m (s ++ t) at (k + (n - k)) (both k (n - k) s t e f)
    ∙ ap (λ j. with_words at (s ++ replicate j 0) m) (rest n k (length src) q)
  where
    both : (i j : ℕ) (s t : List ℕ) → i ≡ length s → j ≡ length t → i + j ≡ length (s ++ t)
    both i j s t e f = omega (arith, e, f, length-append s t)

    rest : (n k l : ℕ) → k ≡ min n l → n - k ≡ n - l
    rest n k l q = grind (arith, q)
