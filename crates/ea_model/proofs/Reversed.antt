-- What elements stand for, the newest first.
use Rattle.std.proofs.Common.{◌≡◌, List, [], ◌∷◌, ◌++◌, map, reverse, sym, ap, ◌∙◌}
use Rattle.std.proofs.lemmas.List.{map-append, reverse-append}

-- one element more
pub newest-first : {A B : Type 0} (f : A → B) (xs : List A) (x : A)
    → f x ∷ reverse (map f xs) ≡ reverse (map f (xs ++ x ∷ []))
newest-first f xs x =
    sym (ap reverse (map-append f xs (x ∷ [])) ∙ reverse-append (map f xs) (f x ∷ []))
