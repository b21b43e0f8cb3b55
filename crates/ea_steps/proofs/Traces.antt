-- The steps of a trace as its definition answers it are told by the same text.
use Rattle.std.proofs.Common.{◌≡◌, ℕ, List, ◌++◌, refl, ap, ◌∙◌}
use Rattle.std.specs.Prelude.{flat_map}
use Rattle.ea_model.specs.declared.settings.Config.{Config}
use Rattle.ea_model.specs.declared.trace.Mode.{Mode}
use Rattle.ea_model.specs.declared.trace.Mode.TheVariants.{Threads, Schedule, Generated}
use Rattle.ea_model.specs.declared.trace.Trace.{Trace}
use Rattle.ea_model.specs.Trace.{plain, plain_mode}
use Rattle.ea_machine.specs.Completion.{course_of}
use Rattle.ea_machine.specs.Outcome.{outcome}
use Rattle.ea_machine.specs.Setup.{Setup, setup_of}
use Rattle.ea_sound.proofs.Plain.{same-setup}
use Rattle.ea_report.specs.Text.{carrier_text, totals_text}
use Rattle.ea_steps.specs.Steps.{steps_of}
use Rattle.ea_steps.specs.Text.{all_steps_text, steps_text_of}

-- the text of all steps of a setup's completed schedule
abbrev text_by : Setup → Mode → List ℕ
text_by setup m =
    let end = outcome setup (course_of setup m) in
    all_steps_text setup (steps_of setup (course_of setup m))
    ++ flat_map carrier_text end.carriers.items ++ totals_text end.totals

same-text : (setup : Setup) (m : Mode) → text_by setup (plain_mode m) ≡ text_by setup m
same-text setup Threads = refl
same-text setup (Schedule turns) = refl
same-text setup (Generated seed count) = refl

pub plain-steps : (c : Config) (t : Trace) → steps_text_of c (plain t) ≡ steps_text_of c t
plain-steps c t = ap (λ setup. text_by setup (plain_mode t.mode)) (same-setup c t)
    ∙ same-text (setup_of c t) t.mode
