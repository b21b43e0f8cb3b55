-- Lines whose words were put in front of a rest.
use Rattle.std.proofs.Common.{◌≡◌, ℕ, codes, decimal, List, [], ◌∷◌, ◌++◌, refl, ap, ◌∙◌}
use Rattle.std.proofs.Common.{append_assoc}
use Rattle.std.specs.List.{flat_map}
use Rattle.ea_model.specs.declared.entries.Report.{Report}
use Rattle.ea_report.specs.Printed.{spaced}
use Rattle.ea_report.specs.Text.{line, report_text}

spaced_is : (words : List (List ℕ)) (rest : List ℕ)
    → flat_map (λ w. 32 ∷ w) words ++ rest ≡ spaced words rest
spaced_is [] rest = refl
spaced_is (w ∷ words) rest =
    append_assoc (32 ∷ w) (flat_map (λ w. 32 ∷ w) words) rest
    ∙ ap (λ l. (32 ∷ w) ++ l) (spaced_is words rest)

-- a line before a rest
pub line_before : (first : List ℕ) (words : List (List ℕ)) (rest : List ℕ)
    → line first words ++ rest ≡ first ++ spaced words (10 ∷ rest)
line_before first words rest =
    append_assoc (first ++ flat_map (λ w. 32 ∷ w) words) (10 ∷ []) rest
    ∙ append_assoc first (flat_map (λ w. 32 ∷ w) words) (10 ∷ rest)
    ∙ ap (λ l. first ++ l) (spaced_is words (10 ∷ rest))

-- a line
pub line_alone : (first : List ℕ) (words : List (List ℕ))
    → line first words ≡ first ++ spaced words (10 ∷ [])
line_alone first words =
    append_assoc first (flat_map (λ w. 32 ∷ w) words) (10 ∷ [])
    ∙ ap (λ l. first ++ l) (spaced_is words (10 ∷ []))

-- the words of allocator information
abbrev pub report_words : List ℕ → Report → List (List ℕ)
report_words class r = class
    ∷ codes "blocks" ∷ decimal r.blocks.now ∷ decimal r.blocks.last ∷ decimal r.blocks.ever
    ∷ codes "blocks_size" ∷ decimal r.blocks_size.now ∷ decimal r.blocks_size.last
    ∷ decimal r.blocks_size.ever
    ∷ codes "carriers" ∷ decimal r.carriers.now ∷ decimal r.carriers.last ∷ decimal r.carriers.ever
    ∷ codes "carriers_size" ∷ decimal r.carriers_size.now ∷ decimal r.carriers_size.last
    ∷ decimal r.carriers_size.ever ∷ []

-- its line before a rest
pub report_before : (class : List ℕ) (r : Report) (rest : List ℕ)
    → report_text class r ++ rest ≡ codes "info" ++ spaced (report_words class r) (10 ∷ rest)
report_before class r rest = line_before (codes "info") (report_words class r) rest
