-- What the table needs of the machine's reached states.
use Rattle.std.proofs.Common.{◌≡◌, ◌≢◌, ℕ, List, [], ◌∷◌, ◌++◌}
use Rattle.std.proofs.Common.{Option, refl, sym, ◌∙◌, subst, arith}
use Rattle.ea_model.specs.declared.settings.Config.{Config}
use Rattle.ea_model.specs.declared.trace.Trace.{Trace}
use Rattle.ea_model.specs.Settings.{IsValidConfig}
use Rattle.ea_model.specs.Trace.{IsValidTrace}
use Rattle.ea_machine.specs.declared.nodes.Node.{Node}
use Rattle.ea_machine.specs.declared.tasks.Gone.{Gone}
use Rattle.ea_machine.specs.declared.tasks.Why.{Why}
use Rattle.ea_machine.specs.declared.stages.Stage.TheVariants.{Ended, Routed}
use Rattle.ea_machine.specs.declared.stages.Route.TheVariants.{Linking, Pushing}
use Rattle.ea_machine.specs.Machine.{run, step, wants}
use Rattle.ea_machine.specs.Rows.{Push}
use Rattle.ea_machine.specs.Setup.{Setup, setup_of}
use Rattle.ea_sound.specs.Present.{Rule}
use Rattle.ea_sound.proofs.Calls as calls
use Rattle.ea_sound.proofs.Created.{scheduler-number}
use Rattle.ea_sound.proofs.Global.{working-scheduler}
use Rattle.ea_sound.proofs.Protocols.{protocol}
use Rattle.ea_sound.proofs.RuleRuns.{rule-run}
use Rattle.ea_sound.proofs.TurnLists.{run-snoc}
use Rattle.ea_sound.specs.Standing.{IsOlderAt}
use Rattle.ea_table.specs.Words.{IsWorded}
use Rattle.ea_sound.proofs.Olders.{came, older-step}
use Rattle.ea_sound.proofs.Wanting.{pushes}
use Rattle.ea_table.proofs.Worded.{is-worded}

module _ (c : Config) (t : Trace) (valid : IsValidConfig c) (made : IsValidTrace c.schedulers t)
    (L : List ℕ) where
  abbrev e : Setup
  e = setup_of c t

  rule : Rule e (run e L)
  rule = rule-run c t valid made L

  -- nodes that stand have room in words, and no two are alike
  pub worded : IsWorded c.schedulers t.greatest (run e L).shared
  worded = is-worded c t valid made (run e L) (L, refl)

  -- the next older node of one that isn't linked stays, whatever others do
  pub older-stays : (me j : ℕ) → j ≢ me → (node : Node) (to : ℕ) (why : Why) (gone : Gone)
      → ((run e L).actors j).stage ≡ Routed (Linking node to) why gone → (older : Option Node)
      → IsOlderAt node to older (run e L).shared
      → IsOlderAt node to older (step e (run e L) me).shared
  older-stays me j other node to why gone now older is = older-step e (run e L) rule me j other
      (((protocol c t valid made).guarded L).guard me) node to why gone now older is

  -- who is about to link a node has pushed it in this step
  pub linking-came : (me : ℕ) (node : Node) (to : ℕ) (why : Why) (gone : Gone)
      → ((step e (run e L) me).actors me).stage ≡ Routed (Linking node to) why gone
      → wants ((run e L).actors me) ≡ Push node to
  linking-came me node to why gone now = came e (run e L) rule me
      (((protocol c t valid made).guarded L).guard me)
      (λ n i wanted.
      let p = pushes ((run e L).actors me) n i wanted in
      let mine = scheduler-number e me (working-scheduler e (run e L) rule.kept me
      (λ q. let never : Routed (Pushing n i) p.0 p.1 ≡ Ended = sym p.2 ∙ q in cc)) in
      let to = calls.push-target c t valid made (run e L) (L, refl) me mine n i p.0 p.1 p.2 in
      omega (arith, to.0))
      node to why gone
      (subst (Rule e) (run-snoc e L me) (rule-run c t valid made (L ++ me ∷ []))) now
