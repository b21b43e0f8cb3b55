-- Owner words, by their numbers and by whether they are told to be the same.
use Rattle.std.proofs.Common.{◌≡◌, ℕ, true, Option, Some, refl, ap, ◌∙◌, arith}
use Rattle.std.specs.Prelude.{IfSome}
use Rattle.ea_machine.specs.declared.owners.OwnerWord.{OwnerWord}
use Rattle.ea_machine.specs.declared.owners.OwnerWord.TheVariants.{Absent, Employed, Pooled}
use Rattle.ea_machine.specs.declared.owners.OwnerWord.TheVariants.{Busy, Returning}
use Rattle.ea_machine.specs.Owners.{same_word}
use Rattle.ea_word.specs.Codes.{IsShown, owner_code}

-- the number was decoded to an owner word
abbrev pub DecodesOwner : ℕ → Option OwnerWord → Type 0
DecodesOwner found result =
    ((word : OwnerWord) → IsShown word → found ≡ owner_code word → result ≡ Some word)
    × IfSome result (λ word. IsShown word × (found ≡ owner_code word))

pub owner-told : (w : OwnerWord) (found : ℕ) (result : Option OwnerWord) → IsShown w
    → found ≡ owner_code w → DecodesOwner found result → result ≡ Some w
owner-told w found result shown is d = d.0 w shown is

-- different owner words have different numbers
pub shown-same : (v w : OwnerWord) → IsShown v → IsShown w → owner_code v ≡ owner_code w → v ≡ w
shown-same Absent Absent p q e = refl
shown-same (Employed i) (Employed j) p q e =
    let is : i ≡ j = omega (arith, p.0, q.0, e) in ap Employed is
shown-same (Pooled i g) (Pooled j h) p q e =
    let is : i ≡ j = omega (arith, p.0, p.1, q.0, q.1, e) in
    let same : g ≡ h = omega (arith, p.0, p.1, p.2, q.0, q.1, q.2, e) in
    ap (λ k. Pooled k g) is ∙ ap (Pooled j) same
shown-same (Busy i) (Busy j) p q e =
    let is : i ≡ j = omega (arith, p.0, q.0, e) in ap Busy is
shown-same (Returning i) (Returning j) p q e =
    let is : i ≡ j = omega (arith, p.0, q.0, e) in ap Returning is
shown-same v w p q e = absurd (omega (arith, e))

-- two owner words are the same exactly if they are told to be
pub same-itself : (w : OwnerWord) → same_word w w ≡ true
same-itself Absent = refl
same-itself (Employed i) = grind arith
same-itself (Pooled i g) = grind arith
same-itself (Busy i) = grind arith
same-itself (Returning i) = grind arith

pub same-is : (v w : OwnerWord) → same_word v w ≡ true → v ≡ w
same-is Absent Absent q = refl
same-is (Employed i) (Employed j) q = let e : i ≡ j = grind (arith, q) in ap Employed e
same-is (Pooled i g) (Pooled j h) q =
    let e : i ≡ j = grind (arith, q) in
    let f : g ≡ h = grind (arith, q) in
    ap (λ k. Pooled k g) e ∙ ap (Pooled j) f
same-is (Busy i) (Busy j) q = let e : i ≡ j = grind (arith, q) in ap Busy e
same-is (Returning i) (Returning j) q = let e : i ≡ j = grind (arith, q) in ap Returning e
same-is v w q = absurd cc
