-- Lists of bytes that were cut.
use Rattle.std.proofs.Common.{◌≡◌, ℕ, ◌+◌, ◌-◌, ◌<◌, List, ◌++◌, length, take, drop, get_or, Bor}
use Rattle.std.proofs.Common.{[], Option, append-nil, subst, sym, ap, ◌∙◌, take-append-drop}
use Rattle.std.proofs.Common.{append_assoc}
use Rattle.std.proofs.lemmas.List.{take_rest, drop_more}
use Rattle.std.proofs.lemmas.List.Concat.{flat_map-cons}
use Rattle.std.specs.List.{flat_map}
use Rattle.std.specs.Io.KnownBytes.{Consumes}
use Rattle.std.proofs.KnownBytes.{Consumes-trans}

-- a write took n bytes of the rest
pub moves_front : (all done rest : List ℕ) (n : ℕ) → all ≡ done ++ rest
    → all ≡ (done ++ take n rest) ++ take (length rest - n) (drop n rest)
moves_front all done rest n e =
    e
    ∙ ap (λ l. done ++ l) (sym (take-append-drop n rest))
    ∙ sym (append_assoc done (take n rest) (drop n rest))
    ∙ ap (λ l. (done ++ take n rest) ++ l) (sym (take_rest rest n))

-- a piece was written
pub moves_on : (all done tail piece more : List ℕ) → all ≡ done ++ tail → tail ≡ piece ++ more
    → all ≡ (done ++ piece) ++ more
moves_on all done tail piece more e f =
    e ∙ ap (λ l. done ++ l) f ∙ sym (append_assoc done piece more)

-- a piece was written in part
pub broke_off : (all done tail piece more front rest : List ℕ) → all ≡ done ++ tail
    → tail ≡ piece ++ more → piece ≡ front ++ rest → all ≡ (done ++ front) ++ (rest ++ more)
broke_off all done tail piece more front rest e f g =
    e
    ∙ ap (λ l. done ++ l) (f ∙ ap (λ l. l ++ more) g ∙ append_assoc front rest more)
    ∙ sym (append_assoc done front (rest ++ more))

-- the next of several texts
pub next_text : (texts : List (Bor (List ℕ))) (i : ℕ) (d : Bor (List ℕ)) (piece : List ℕ)
    → i < length texts → piece ≡ (get_or texts i d).now
    → flat_map (λ t. t.now) (drop i texts) ≡ piece ++ flat_map (λ t. t.now) (drop (i + 1) texts)
next_text texts i d piece h e =
    ap (flat_map (λ t. t.now)) (drop_more texts i d h)
    ∙ flat_map-cons (λ t. t.now) (get_or texts i d) (drop (i + 1) texts)
    ∙ ap (λ l. l ++ flat_map (λ t. t.now) (drop (i + 1) texts)) (sym e)

-- a read that gave no byte took none
pub consumes_none : (a b c : Option (List ℕ)) (bytes buf : List ℕ) (n : ℕ) → n ≡ 0
    → Consumes a b bytes → Consumes b c (take n buf) → Consumes a c bytes
consumes_none a b c bytes buf n e p q = subst (Consumes a c) (append-nil bytes)
    (Consumes-trans a b c bytes [] p (subst (λ k. Consumes b c (take k buf)) e q))
