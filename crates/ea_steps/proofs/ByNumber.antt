-- Carriers by rising number, as they are found of a step in a reached state: those that code finds
-- are those that went, were made or have fewer pages; and what the step adds to logs.
use Rattle.std.proofs.Common.{◌≡◌, ◌≢◌, ◌⊎◌, ℕ, List, [], ◌∷◌, ◌++◌, map, true, sym, ap, ◌∙◌}
use Rattle.std.proofs.Common.{subst, inl, inr}
use Rattle.std.specs.Prelude.{Some, drop, length}
use Rattle.std.proofs.Math.Seq.{drop-append_seam, drop-length}
use Rattle.std.proofs.lemmas.List.{append-nil}
use Rattle.ea_model.specs.declared.settings.Config.{Config}
use Rattle.ea_model.specs.declared.trace.Trace.{Trace}
use Rattle.ea_model.specs.Content.{Content}
use Rattle.ea_model.specs.Entries.{Entry}
use Rattle.ea_model.specs.Settings.{IsValidConfig}
use Rattle.ea_model.specs.Trace.{IsValidTrace}
use Rattle.ea_machine.specs.declared.stages.Stage.TheVariants.{Ended}
use Rattle.ea_machine.specs.Actor.{Actor}
use Rattle.ea_machine.specs.Machine.{IsReached, run, step}
use Rattle.ea_machine.specs.Setup.{Setup, setup_of}
use Rattle.ea_machine.specs.State.{State}
use Rattle.ea_sound.specs.Present.{Rule}
use Rattle.ea_sound.proofs.Asked.{reached-rule}
use Rattle.ea_sound.proofs.Chronicled.{enters-one}
use Rattle.ea_sound.proofs.RuleRuns.{rule-run}
use Rattle.ea_sound.proofs.TurnLists.{run-snoc, step-other}
use Rattle.ea_steps.specs.Changes.{added, gone, made, shrunk}
use Rattle.ea_steps.specs.FoundCarriers.{goes_away, made_carriers, made_number, makes}
use Rattle.ea_steps.specs.FoundCarriers.{shrunk_carriers}
use Rattle.ea_steps.specs.Steps.{Step, step_of}
use Rattle.ea_steps.specs.Touched.{may_go_in}
use Rattle.ea_steps.proofs.KnownBirths.{KnowsBirths, births-known}
use Rattle.ea_steps.proofs.Rising.{Has, IsRising}
use Rattle.ea_steps.proofs.ShrunkCarriers.{shrunk-found}
use Rattle.ea_steps.proofs.ToldCarriers.{gone-found, made-found, made-single}

-- of a step of a scheduler that hasn't ended, in a reached state
module _ (c : Config) (t : Trace) (valid : IsValidConfig c) (made_so : IsValidTrace c.schedulers t)
    (w : State) (reached : IsReached (setup_of c t) w) (me count own : ℕ)
    (works : (w.actors me).stage ≢ Ended) where
  abbrev e : Setup
  e = setup_of c t

  abbrev s : Step
  s = step_of e w count own me

  rule : Rule e w
  rule = reached-rule c t valid made_so w reached

  knows : KnowsBirths e w
  knows = subst (KnowsBirths e) (sym reached.1)
      (births-known e (rule-run c t valid made_so) reached.0)

  -- it made a carrier exactly if its scheduler's instance counts one more, and then that one
  pub step-made : made e s ≡ made_carriers e s
  step-made = made-found e w rule knows me count own works

  pub step-made_one : makes s ≡ true → (n : ℕ) × (made_number s ≡ Some n)
      × ((y : Content) × (made e s ≡ y ∷ []))
  step-made_one new =
      let (n, number, (y, there, one)) = made-single e w rule knows me count own works new in
      (n, number, (y, one))

  -- the carrier that has fewer pages
  pub step-shrunk : shrunk e s ≡ shrunk_carriers e s
  step-shrunk = shrunk-found e w rule knows me count own works

  -- those that went, by rising number
  pub sorted-gone : (ns : List ℕ) → IsRising (λ n. n) ns
      → ((n : ℕ) → Has n ns → Has n (may_go_in e s) × (goes_away e s n ≡ true))
      → ((n : ℕ) → Has n (may_go_in e s) → goes_away e s n ≡ true → Has n ns)
      → map (λ (x : Content). x.number) (gone e s) ≡ ns
  sorted-gone ns rises into back = gone-found e w rule knows me count own works ns rises into back

  -- its scheduler's log has what it added at its end
  abbrev Adds : State → Type 0
  Adds u = ((step e u me).actors me).log ≡ (u.actors me).log
      ++ drop (length (u.actors me).log) ((step e u me).actors me).log

  run-adds : (L : List ℕ) → Adds (run e L)
  run-adds L =
      let now = ap (λ (z : State). (z.actors me).log) (run-snoc e L me) in
      by ((run e L).actors me).log ((step e (run e L) me).actors me).log
      (elim (enters-one e (rule-run c t valid made_so) L me me) [
        | inl same ↦ inl (sym now ∙ same)
        | inr (mine, (x, more, tells)) ↦ inr (x, sym now ∙ more)
      ]) where
        by : (log after : List Entry)
            → ((after ≡ log) ⊎ ((x : Entry) × (after ≡ log ++ x ∷ [])))
            → after ≡ log ++ drop (length log) after
        by log after (inl same) = same
            ∙ sym (append-nil log)
            ∙ ap (λ l. log ++ l) (sym (drop-length log))
            ∙ ap (λ l. log ++ drop (length log) l) (sym same)
        by log after (inr (x, more)) = more
            ∙ ap (λ l. log ++ l) (sym (drop-append_seam log (x ∷ [])))
            ∙ ap (λ l. log ++ drop (length log) l) (sym more)

  pub step-adds : (s.after.actors me).log ≡ (s.before.actors me).log ++ added s
  step-adds = subst Adds (sym reached.1) (run-adds reached.0)

  -- the other logs stay
  pub other-logs : (i : ℕ) → i ≢ me → (s.after.actors i).log ≡ (s.before.actors i).log
  other-logs i other = ap (λ (b : Actor). b.log) (step-other e w me i other)
