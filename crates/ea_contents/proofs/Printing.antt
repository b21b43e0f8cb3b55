-- What a definition answers for a trace with writes and reads is valid and has the same text.
use Rattle.std.proofs.Common.{◌≡◌, ℕ, zero, suc, ◌+◌, ◌++◌, List, [], ◌∷◌}
use Rattle.std.proofs.Common.{map, refl, sym, ap, ◌∙◌}
use Rattle.std.specs.Prelude.{codes, decimal}
use Rattle.std.specs.List.{flat_map, range_with_len}
use Rattle.ea_model.specs.declared.outcome.Outcome.{Outcome}
use Rattle.ea_model.specs.declared.settings.Config.{Config}
use Rattle.ea_model.specs.declared.trace.Mode.{Mode}
use Rattle.ea_model.specs.declared.trace.Mode.TheVariants.{Threads, Schedule, Generated}
use Rattle.ea_model.specs.declared.trace.Trace.{Trace}
use Rattle.ea_model.specs.Outcome.{plain_outcome}
use Rattle.ea_model.specs.Trace.{IsValidTrace, plain, plain_mode}
use Rattle.ea_model.proofs.Outcomes.{same-logs}
use Rattle.ea_machine.specs.Completion.{turns_in}
use Rattle.ea_machine.specs.Setup.{setup_of}
use Rattle.ea_sound.proofs.Plain.{same-setup, valid-plain}
use Rattle.ea_report.specs.Text.{line, outcome_text}
use Rattle.ea_contents.specs.Command.{IsContentsText}
use Rattle.ea_contents.specs.Model.{Script, complete, play}
use Rattle.ea_contents.specs.Playing.{outcome_played, shown_played}
use Rattle.ea_contents.specs.Text.{line_text, lists_text, ran_text, text_after}
use Rattle.ea_contents.specs.declared.access.AccessEntry.{AccessEntry}

same-turns : (m : Mode) → turns_in (plain_mode m) ≡ turns_in m
same-turns Threads = refl
same-turns (Schedule turns) = refl
same-turns (Generated seed count) = refl

same-text : (o : Outcome) → outcome_text o ≡ outcome_text (plain_outcome o)
same-text o = rw (same-logs o) refl

-- the lists of schedulers that follow one another
lists-by : (shown : ℕ → List AccessEntry) (first count : ℕ)
    → lists_text first (map shown (range_with_len first count))
    ≡ flat_map (λ i. line (codes "scheduler") (decimal i ∷ []) ++ flat_map line_text (shown i))
    (range_with_len first count)
lists-by shown first zero = refl
lists-by shown first (suc count) =
    ap (λ later. line (codes "scheduler") (decimal first ∷ []) ++ flat_map line_text (shown first)
    ++ later) (lists-by shown (first + 1) count)

-- the text of a run is that of what the input asks for
pub contents-text : (c : Config) (t : Trace) (script : Script) (o : Outcome)
    (shown : List (List AccessEntry)) (text : List ℕ) → IsValidTrace c.schedulers t
    → plain_outcome o ≡ outcome_played (setup_of c t) script (turns_in t.mode)
    → shown ≡ shown_played (setup_of c t) script (turns_in t.mode)
    → text ≡ ran_text o shown
    → IsContentsText c (record { trace = plain t; script = script }) text
contents-text c t script o shown text valid ran made printed =
    let setup = setup_of c t in
    let turns = complete setup script (turns_in t.mode) in
    record {
      valid = valid-plain c.schedulers t valid;
      printed = printed
          ∙ ap (λ a. a ++ (line (codes "contents") [] ++ lists_text 1 shown))
          (same-text o ∙ ap outcome_text ran)
          ∙ ap (λ b. outcome_text (outcome_played setup script (turns_in t.mode))
          ++ (line (codes "contents") [] ++ b))
          (ap (lists_text 1) made
          ∙ lists-by (λ i. (play setup script turns).shown i) 1 c.schedulers)
          ∙ ap (λ ts. text_after setup script (complete setup script ts))
          (sym (same-turns t.mode))
          ∙ ap (λ s. text_after s script (complete s script (turns_in (plain_mode t.mode))))
          (sym (same-setup c t));
    }
