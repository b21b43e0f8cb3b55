-- Gaps that the bins hold.
use Rattle.std.proofs.Common.{◌≡◌, ◌<◌, true, List, [], ◌∷◌, ◌++◌, ap, ◌∙◌, arith}
use Rattle.std.specs.List.Sorted.{IsPermutation}
use Rattle.std.proofs.lemmas.List.Sorted.{list_any-IsPermutation, IsPermutation-append_right}
use Rattle.std.proofs.lemmas.List.Sorted.{IsPermutation-trans}
use Rattle.ea_goodfit.specs.declared.gaps.BinnedGap.{BinnedGap}
use Rattle.ea_goodfit.specs.Gaps.{is_held, is_same, some_gap}

some_gap-is : (g : BinnedGap) → 0 < g.size → some_gap g ≡ g ∷ []
some_gap-is g some = grind arith

first_held : (g : BinnedGap) (rest : List BinnedGap) → is_held g (g ∷ rest) ≡ true
first_held g rest = grind arith

-- a gap that is among them is held
pub held-among : (g : BinnedGap) (held rest : List BinnedGap) → 0 < g.size
    → IsPermutation held (some_gap g ++ rest) → is_held g held ≡ true
held-among g held rest some m =
    list_any-IsPermutation (is_same g) held (some_gap g ++ rest) m
    ∙ ap (λ gs. is_held g (gs ++ rest)) (some_gap-is g some) ∙ first_held g rest

-- gaps that stand before others in another order
pub before-others : (now gone made rest : List BinnedGap) → IsPermutation now (made ++ gone)
    → IsPermutation gone rest → IsPermutation now (made ++ rest)
before-others now gone made rest m r = IsPermutation-trans now (made ++ gone) (made ++ rest) m
    (IsPermutation-append_right made gone rest r)
