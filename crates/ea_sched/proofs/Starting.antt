-- A scheduler before its first step.
use Rattle.std.proofs.Common.{◌≡◌, ℕ, true, List, [], ap, ◌∙◌, sym}
use Rattle.std.specs.Prelude.{None}
use Rattle.ea_model.specs.Entries.{Entry}
use Rattle.ea_model.specs.declared.operations.Op.{Op}
use Rattle.ea_model.specs.Instance.{Instance, figures}
use Rattle.ea_machine.specs.Lists.{Lists, no_lists}
use Rattle.ea_machine.specs.declared.nodes.Named.{Named}
use Rattle.ea_machine.specs.declared.nodes.Node.{Node}
use Rattle.ea_machine.specs.declared.stages.Stage.TheVariants.{Begin}
use Rattle.ea_machine.specs.Actor.{Actor, Stat}
use Rattle.ea_machine.specs.Machine.{first_actor, first_stage, full_instance, instance_by}
use Rattle.ea_machine.specs.Setup.{Setup, is_scheduler}
use Rattle.ea_machine.specs.Statistics.{observed, seen, unseen}

module _ (setup : Setup) (me : ℕ) where
  -- an actor without names, nodes and entries
  abbrev bare : Instance → Lists → List Named → List Op → List Node → Stat → Stat → List Entry
      → Actor
  bare i lists held todo passed mbcs sbcs log =
      record {
        instance = i;
        lists = lists;
        held = held;
        todo = todo;
        stage = Begin;
        passed = passed;
        next = None;
        mbcs = mbcs;
        sbcs = sbcs;
        log = log;
      }

  pub starts : (i : Instance) (lists : Lists) (held : List Named) (todo : List Op)
      (passed : List Node)
      (mbcs sbcs : Stat) (log : List Entry) → is_scheduler setup me ≡ true
      → i ≡ full_instance setup me → lists ≡ no_lists → held ≡ [] → todo ≡ setup.texts me → passed
      ≡ []
      → mbcs ≡ seen (figures i.contents) unseen → sbcs ≡ seen (figures i.singles) unseen
      → log ≡ [] → bare i lists held todo passed mbcs sbcs log
      ≡ first_actor setup me
  starts i lists held todo passed mbcs sbcs log is whole unlisted none text fresh multis singles
      empty =
      ap (λ l. bare i l held todo passed mbcs sbcs log) unlisted
      ∙ ap (λ x. bare i no_lists x todo passed mbcs sbcs log) none
      ∙ ap (λ x. bare i no_lists [] x passed mbcs sbcs log) text
      ∙ ap (λ x. bare i no_lists [] (setup.texts me) x mbcs sbcs log) fresh
      ∙ ap (λ x. bare i no_lists [] (setup.texts me) [] x sbcs log) multis
      ∙ ap (λ x. bare i no_lists [] (setup.texts me) [] (seen (figures i.contents) unseen) x log)
      singles
      ∙ ap (λ x. bare i no_lists [] (setup.texts me) [] (seen (figures i.contents) unseen)
      (seen (figures i.singles) unseen) x) empty
      ∙ ap (λ j. observed (bare j no_lists [] (setup.texts me) [] unseen unseen [])) whole
      ∙ ap (λ b. observed (record
      (bare (instance_by setup b me) no_lists [] (setup.texts me) [] unseen
      unseen []) { stage = first_stage setup b })) (sym is)
