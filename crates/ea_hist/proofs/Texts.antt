-- The text of histograms, put together.
use Rattle.std.proofs.Common.{◌≡◌, ℕ, List, [], ◌++◌, sym, ap, ◌∙◌}
use Rattle.std.specs.Prelude.{codes, flat_map}
use Rattle.std.proofs.lemmas.List.{append-nil, append_assoc}
use Rattle.ea_instance.specs.declared.layouts.Layout.{Layout}
use Rattle.ea_hist.specs.Intervals.{counts}
use Rattle.ea_hist.specs.Text.{blocks_in, counts_text, gaps_in, histograms_text, layout_text, sums}
use Rattle.ea_hist.proofs.Counts.{counts-sums}

-- what was put together before nothing is left is all
pub whole : (f : Layout → List ℕ) (front : List ℕ) (rest ls : List Layout) → rest ≡ []
    → front ++ flat_map f rest ≡ flat_map f ls → front ≡ flat_map f ls
whole f front rest ls none is = sym (append-nil front)
    ∙ ap (λ r. front ++ flat_map f r) (sym none) ∙ is

-- the lines of the carriers, and the last line with the counts of all sizes
pub printed : (ls : List Layout) (lines begun text blocks gaps : List ℕ)
    → lines ≡ flat_map layout_text ls → blocks ≡ flat_map blocks_in ls
    → gaps ≡ flat_map gaps_in ls → begun ≡ lines ++ codes "all"
    → text ≡ begun ++ counts_text (counts blocks) (counts gaps) → text ≡ histograms_text ls
printed ls lines begun text blocks gaps lines-are blocks-are gaps-are begins is =
    let front = flat_map layout_text ls in
    is
    ∙ ap (λ x. x ++ counts_text (counts blocks) (counts gaps))
    (begins ∙ ap (λ x. x ++ codes "all") lines-are)
    ∙ ap (λ x. (front ++ codes "all") ++ counts_text x (counts gaps))
    (ap counts blocks-are ∙ counts-sums blocks_in ls)
    ∙ ap (λ x. (front ++ codes "all") ++ counts_text (sums blocks_in ls) x)
    (ap counts gaps-are ∙ counts-sums gaps_in ls)
    ∙ append_assoc front (codes "all") (counts_text (sums blocks_in ls) (sums gaps_in ls))
