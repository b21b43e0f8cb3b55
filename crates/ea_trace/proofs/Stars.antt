-- A text has a part before its first star.
use Rattle.std.proofs.Common.{ℕ, Bool, true, false, cond, List, [], ◌∷◌, refl}
use Rattle.std.specs.List.{slice_split, onto_first}
use Rattle.ea_trace.specs.Lines.{is_star}
use Rattle.ea_trace.specs.TurnLines.{HasPart}

onto_part : (x : ℕ) (parts : List (List ℕ)) → HasPart (onto_first x parts)
onto_part x [] = (x ∷ [], [], refl)
onto_part x (p ∷ ps) = (x ∷ p, ps, refl)

one_of : (b : Bool) (xs ys : List (List ℕ)) → HasPart xs → HasPart ys → HasPart (cond b xs ys)
one_of true xs ys h k = h
one_of false xs ys h k = k

pub has_part : (xs : List ℕ) → HasPart (slice_split is_star xs)
has_part [] = ([], [], refl)
has_part (x ∷ xs) = one_of (is_star x) ([] ∷ slice_split is_star xs)
    (onto_first x (slice_split is_star xs)) ([], slice_split is_star xs, refl)
    (onto_part x (slice_split is_star xs))
