use Rattle.std.proofs.Common.{◌≡◌, subst}
use Rattle.std.proofs.lemmas.Result.{IfOk-weaker}
use Rattle.ea_model.specs.Outcome.{plain_outcome}
use Rattle.ea_model.specs.Trace.{IsValidMode, IsValidTrace}
use Rattle.ea_gen.specs.Generated.{generated_trace}
use Rattle.ea_machine.specs.Outcome.{outcome_of}
use Rattle.ea_table.specs.Threads.{IsOfRun}
use Rattle.ea_top.specs.Output.{IsRunOutcome}
use Rattle.ea_top.proofs.Running.{generated-ran, given-ran, texts-given, threads-ran}
use Rattle.ea_top.proofs.part.run_trace.Goals as goal

pub run_given-requires-clause-texts : goal.run_given-requires-clause-texts
run_given-requires-clause-texts g c =
    texts-given c.args.config.schedulers c.args.trace.now c.in-Schedule.turns c.in-Schedule.is
    c.requires.trace

pub run_generated-requires-clause-mode : goal.run_generated-requires-clause-mode
run_generated-requires-clause-mode g c =
    let d = c.args.config in
    subst (IsValidMode d.schedulers) c.in-Generated.is c.requires.trace.mode

pub returns-in-Threads : goal.returns-in-Threads
returns-in-Threads g c =
    let d = c.args.config in
    let t = c.args.trace.now in
    IfOk-weaker c.run_threads.result (IsOfRun d t)
    (λ o. IsRunOutcome d t (plain_outcome o))
    (λ o ran. threads-ran d t (plain_outcome o) c.in-Threads.is
    (ran.turns, (ran.steps, ran.within, ran.rest), ran.printed, c.requires.trace))
    c.run_threads.ensures.outcome

pub returns-in-Schedule : goal.returns-in-Schedule
returns-in-Schedule g c =
    let d = c.args.config in
    let t = c.args.trace.now in
    IfOk-weaker c.run_given.result (λ o. plain_outcome o ≡ outcome_of d t)
    (λ o. IsRunOutcome d t (plain_outcome o))
    (λ o ran. given-ran d t (plain_outcome o) c.in-Schedule.turns c.in-Schedule.is ran
    c.requires.trace)
    c.run_given.ensures.outcome

pub returns-in-Generated : goal.returns-in-Generated
returns-in-Generated g c =
    let d = c.args.config in
    let t = c.args.trace.now in
    let seed = c.in-Generated.seed in
    let count = c.in-Generated.count in
    IfOk-weaker c.run_generated.result
    (λ o. let made = generated_trace t.letter seed d.schedulers count in
    (plain_outcome o ≡ outcome_of d made) × IsValidTrace d.schedulers made)
    (λ o. IsRunOutcome d t (plain_outcome o))
    (λ o ran. generated-ran d t (plain_outcome o) seed count c.in-Generated.is ran.0 ran.1)
    c.run_generated.ensures
