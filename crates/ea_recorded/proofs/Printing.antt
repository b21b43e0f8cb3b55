-- What a definition answers for a trace or an outcome is valid and has the same text.
use Rattle.std.proofs.Common.{◌≡◌, ℕ, List, refl, sym, ap, ◌∙◌}
use Rattle.ea_model.specs.declared.outcome.Outcome.{Outcome}
use Rattle.ea_model.specs.declared.settings.Config.{Config}
use Rattle.ea_model.specs.declared.settings.Rules.{Rules}
use Rattle.ea_model.specs.declared.trace.Trace.{Trace}
use Rattle.ea_model.specs.Outcome.{plain_outcome}
use Rattle.ea_model.specs.Settings.{by_rules}
use Rattle.ea_model.specs.Trace.{IsValidTrace, plain}
use Rattle.ea_model.proofs.Outcomes.{same-logs}
use Rattle.ea_machine.specs.Outcome.{outcome}
use Rattle.ea_machine.specs.Setup.{setup_of}
use Rattle.ea_sound.proofs.Plain.{same-setup, valid-plain}
use Rattle.ea_report.specs.Text.{outcome_text}
use Rattle.ea_recorded.specs.Order.{recorded_turns}
use Rattle.ea_recorded.specs.Output.{IsRecordedText}

same-text : (o : Outcome) → outcome_text o ≡ outcome_text (plain_outcome o)
same-text o = rw (same-logs o) refl

-- the text of an outcome of the run of a trace by rules and lines is that of the trace as a
-- definition answers it
pub recorded-text : (c : Config) (r : Rules) (t : Trace) (order : List ℕ) (o : Outcome)
    (text : List ℕ) → IsValidTrace c.schedulers t
    → (let setup = setup_of (by_rules r c) t in
    plain_outcome o ≡ outcome setup (recorded_turns setup order)) → text ≡ outcome_text o
    → IsRecordedText c (record { rules = r; trace = plain t; order = order }) text
recorded-text c r t order o text valid ran printed = record {
  valid = valid-plain c.schedulers t valid;
  printed = printed ∙ same-text o ∙ ap outcome_text (ran
      ∙ ap (λ e. outcome e (recorded_turns e order)) (sym (same-setup (by_rules r c) t)));
}
