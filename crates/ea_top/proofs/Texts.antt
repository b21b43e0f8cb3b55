-- What a definition answers for a trace or an outcome has the same text.
use Rattle.std.proofs.Common.{◌≡◌, ℕ, List, refl, sym, subst, ap, ◌∙◌}
use Rattle.ea_model.specs.declared.outcome.Outcome.{Outcome}
use Rattle.ea_model.specs.declared.settings.Config.{Config}
use Rattle.ea_model.specs.declared.trace.Mode.{Mode}
use Rattle.ea_model.specs.declared.trace.Mode.TheVariants.{Threads, Schedule, Generated}
use Rattle.ea_model.specs.declared.trace.Trace.{Trace}
use Rattle.ea_model.specs.Outcome.{plain_outcome}
use Rattle.ea_model.specs.Settings.{IsValidConfig}
use Rattle.ea_model.specs.Trace.{plain, plain_mode}
use Rattle.ea_model.proofs.Outcomes.{same-logs}
use Rattle.ea_machine.specs.Completion.{course_of}
use Rattle.ea_machine.specs.Courses.{IsCourse}
use Rattle.ea_machine.specs.Outcome.{outcome, outcome_of}
use Rattle.ea_machine.specs.Setup.{Setup, setup_of}
use Rattle.ea_top.specs.Output.{IsRunOutcome, IsRunText, filled_by, outcome_after, run_setup}
use Rattle.ea_top.specs.Output.{text_by}
use Rattle.ea_sound.proofs.Plain.{same-setup}
use Rattle.ea_sound.proofs.Protocols.{always-protocol}
use Rattle.ea_top.proofs.Valid.{filled-valid}

same_end : (setup : Setup) (m : Mode) → course_of setup (plain_mode m) ≡ course_of setup m
same_end setup Threads = refl
same_end setup (Schedule turns) = refl
same_end setup (Generated seed count) = refl

-- the run of a trace that was made has the outcome of the one that it answers for
pub made-outcome : (c : Config) (made t : Trace) (o : Outcome) → plain made ≡ t
    → o ≡ outcome_of c made → o ≡ outcome_of c t
made-outcome c made t o is e = e
    ∙ ap (λ setup. outcome setup (course_of setup made.mode)) (sym (same-setup c made))
    ∙ ap (outcome (setup_of c (plain made)))
    (sym (same_end (setup_of c (plain made)) made.mode))
    ∙ ap (outcome_of c) is

-- the operations that are run are the same
same_filled : (c : Config) (t : Trace) (m : Mode)
    → setup_of c (filled_by c.schedulers (plain t) (plain_mode m))
    ≡ setup_of c (filled_by c.schedulers t m)
same_filled c t Threads = same-setup c t
same_filled c t (Schedule turns) = same-setup c t
same_filled c t (Generated seed count) = refl

same_run : (c : Config) (t : Trace) → run_setup c (plain t) ≡ run_setup c t
same_run c t = same_filled c t t.mode

-- the same turns have the same outcome
same_outcome : (c : Config) (t : Trace) (turns : List ℕ)
    → outcome_after c (plain t) turns ≡ outcome_after c t turns
same_outcome c t turns = ap (λ setup. outcome setup turns) (same_run c t)

course_mode : (setup : Setup) (m : Mode) (turns : List ℕ) → IsCourse setup m turns
    → IsCourse setup (plain_mode m) turns
course_mode setup Threads turns h = h
course_mode setup (Schedule given) turns h = h
course_mode setup (Generated seed count) turns h = h

-- and are a course of both
same_course : (c : Config) (t : Trace) (turns : List ℕ) → IsCourse (run_setup c t) t.mode turns
    → IsCourse (run_setup c (plain t)) (plain_mode t.mode) turns
same_course c t turns h = subst (λ setup. IsCourse setup (plain_mode t.mode) turns)
    (sym (same_run c t)) (course_mode (run_setup c t) t.mode turns h)

-- an outcome has the text that it has as a definition answers it
same_text : (m : Mode) (o : Outcome) → text_by m o ≡ text_by (plain_mode m) (plain_outcome o)
same_text Threads o = rw (same-logs o) refl
same_text (Schedule turns) o = rw (same-logs o) refl
same_text (Generated seed count) o = rw (same-logs o) refl

-- the text of an outcome of the run of a trace is one of the trace as a definition answers it
pub run-text : (c : Config) (t : Trace) (o : Outcome) → IsValidConfig c
    → IsRunOutcome c t (plain_outcome o) → IsRunText c (plain t) (text_by t.mode o)
run-text c t o config h =
    let valid = filled-valid c.schedulers t t.mode h.3 in
    record {
      turns = h.0;
      course = same_course c t h.0 h.1;
      printed = same_text t.mode o
          ∙ ap (text_by (plain_mode t.mode)) (h.2 ∙ sym (same_outcome c t h.0));
      valid = valid;
      protocol = always-protocol c (filled_by c.schedulers (plain t) (plain_mode t.mode)) config
          valid;
    }
