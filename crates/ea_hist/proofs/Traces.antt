-- The run of a trace as its definition answers it, and the histograms of what code answers.
use Rattle.std.proofs.Common.{◌≡◌, ℕ, List, [], ◌∷◌, ◌++◌, map, refl, sym, ap, ◌∙◌}
use Rattle.std.specs.Prelude.{codes, flat_map}
use Rattle.ea_model.specs.declared.settings.Config.{Config}
use Rattle.ea_model.specs.declared.trace.Mode.{Mode}
use Rattle.ea_model.specs.declared.trace.Mode.TheVariants.{Threads, Schedule, Generated}
use Rattle.ea_model.specs.declared.trace.Trace.{Trace}
use Rattle.ea_model.specs.Trace.{plain, plain_mode}
use Rattle.ea_machine.specs.Completion.{course_of, end_of}
use Rattle.ea_machine.specs.Machine.{run}
use Rattle.ea_machine.specs.Setup.{Setup, setup_of}
use Rattle.ea_sound.proofs.Plain.{same-setup}
use Rattle.ea_instance.specs.declared.layouts.Layout.{Layout}
use Rattle.ea_instance.specs.Layouts.{plain_layout}
use Rattle.ea_outcome.specs.Layouts.{layouts_in}
use Rattle.ea_given.specs.Layouts.{layouts_of_run}
use Rattle.ea_hist.specs.Intervals.{counts}
use Rattle.ea_hist.specs.Text.{blocks_in, counts_text, gaps_in, histograms_text, layout_text, sums}
use Rattle.ea_hist.proofs.Counts.{counts-sums}

same_course : (setup : Setup) (m : Mode) → course_of setup (plain_mode m) ≡ course_of setup m
same_course setup Threads = refl
same_course setup (Schedule turns) = refl
same_course setup (Generated seed count) = refl

-- the run of a trace as a definition answers it ends with the same carriers
pub plain-layouts : (c : Config) (t : Trace) → layouts_of_run c (plain t) ≡ layouts_of_run c t
plain-layouts c t =
    ap (λ setup. layouts_in setup (end_of setup (plain_mode t.mode))) (same-setup c t)
    ∙ ap (λ turns. layouts_in (setup_of c t) (run (setup_of c t) turns))
    (same_course (setup_of c t) t.mode)

-- what is the same of a layout as a definition answers it is so of all
same-all : (f : Layout → List ℕ) → ((l : Layout) → f (plain_layout l) ≡ f l) → (ls : List Layout)
    → flat_map f (map plain_layout ls) ≡ flat_map f ls
same-all f same [] = refl
same-all f same (l ∷ ls) = ap (λ x. x ++ flat_map f (map plain_layout ls)) (same l)
    ∙ ap (λ x. f l ++ x) (same-all f same ls)

same-sums : (f : Layout → List ℕ) → ((l : Layout) → f (plain_layout l) ≡ f l) → (ls : List Layout)
    → sums f (map plain_layout ls) ≡ sums f ls
same-sums f same ls = sym (counts-sums f (map plain_layout ls))
    ∙ ap counts (same-all f same ls) ∙ counts-sums f ls

-- so layouts have the text that they have as a definition answers them
pub plain-text : (ls : List Layout) → histograms_text (map plain_layout ls) ≡ histograms_text ls
plain-text ls =
    let plain = map plain_layout ls in
    let last = λ (blocks gaps : List ℕ). codes "all" ++ counts_text blocks gaps in
    ap (λ x. x ++ last (sums blocks_in plain) (sums gaps_in plain))
    (same-all layout_text (λ l. refl) ls)
    ∙ ap (λ x. flat_map layout_text ls ++ last x (sums gaps_in plain))
    (same-sums blocks_in (λ l. refl) ls)
    ∙ ap (λ x. flat_map layout_text ls ++ last (sums blocks_in ls) x)
    (same-sums gaps_in (λ l. refl) ls)
