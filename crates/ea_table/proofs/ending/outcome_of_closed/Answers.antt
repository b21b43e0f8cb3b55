use Rattle.std.proofs.Common.{◌≡◌, ℕ, List}
use Rattle.std.proofs.lemmas.Grind.{merely}
use Rattle.std.proofs.lemmas.Result.{IfOk-weaker}
use Rattle.std.specs.Mem.Slots.{slots_items}
use Rattle.ea_model.specs.declared.outcome.Outcome.{Outcome}
use Rattle.ea_model.specs.Outcome.{plain_outcome}
use Rattle.ea_machine.specs.Machine.{run}
use Rattle.ea_machine.specs.Outcome as machine
use Rattle.ea_machine.specs.Setup.{setup_of}
use Rattle.ea_outcome.specs.Resting.{IsOutcome}
use Rattle.ea_table.specs.Ending.{IsClosedIn, places_in}
use Rattle.ea_table.proofs.Closing.{owners-read, shown-read, stand-in}
use Rattle.ea_table.proofs.ending.outcome_of_closed.Goals as goal

pub invariant_of-still : goal.invariant_of-still
invariant_of-still c =
    let n = c.args.config.schedulers in
    let g = c.args.trace.now.greatest in
    let ws = slots_items c.args.closed.now.words in
    let xs = slots_items c.args.closed.now.slots in
    let places = (run (setup_of c.args.config c.args.trace.now) c.requires.stand.0).shared.places in
    let has = c.requires.stand.1.places in
    record {
      full = c.requires.full;
      slots_full = c.requires.slots_full;
      words = c.requires.words;
      slots = c.requires.slots;
      greatest_is = c.in_ok-given.ensures.greatest;
      owners = owners-read n g ws xs places has;
      shown = λ number. merely (shown-read n g ws xs places has number);
    }

pub outcome_of-requires-clause-stand : goal.outcome_of-requires-clause-stand
outcome_of-requires-clause-stand c =
    let w = c.requires.stand.0 in (
      w,
      stand-in c.args.config c.args.trace.now c.args.schedulers.items
          (slots_items c.args.closed.now.words) (slots_items c.args.closed.now.slots) w
          c.requires.stand.1 c.in_ok-given.given.held c.in_ok-given.ensures.named,
    )

pub returns : goal.returns
returns c =
    let d = c.args.config in
    let t = c.args.trace.now in
    let ss = c.args.schedulers.items in
    let ws = slots_items c.args.closed.now.words in
    let xs = slots_items c.args.closed.now.slots in
    let names = c.in_ok-given.given.held in
    IfOk-weaker c.outcome_of.result
    (IsOutcome d t ss (places_in d.schedulers t.greatest ws xs) names)
    (λ (o : Outcome). (turns : List ℕ) → IsClosedIn d t ss ws xs turns
    → plain_outcome o ≡ machine.outcome (setup_of d t) turns)
    (λ o is w closed.
    is w (stand-in d t ss ws xs w closed names c.in_ok-given.ensures.named))
    c.outcome_of.ensures
