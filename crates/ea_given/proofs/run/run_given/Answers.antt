use Rattle.std.proofs.Common.{ap, ◌∙◌}
use Rattle.std.proofs.lemmas.Result.{IfOk-weaker}
use Rattle.ea_machine.specs.Completion.{course_of, turns_in}
use Rattle.ea_machine.specs.Outcome.{outcome}
use Rattle.ea_machine.specs.Setup.{setup_of}
use Rattle.ea_sound.proofs.Protocols.{always-protocol}
use Rattle.ea_given.proofs.run.run_given.Goals as goal

pub returns-clause-outcome : goal.returns-clause-outcome
returns-clause-outcome c =
    let d = c.args.config in
    let t = c.args.trace.now in
    let e = setup_of d t in
    let protocol = always-protocol d t c.requires.config c.requires.trace in
    IfOk-weaker c.outcome.result _ _
    (λ o tells. tells d t (course_of e t.mode) c.in_ok-run_to_end.ensures
    ∙ ap (outcome e) (protocol.within (turns_in t.mode))) c.outcome.ensures

pub returns-clause-protocol : goal.returns-clause-protocol
returns-clause-protocol c = always-protocol c.args.config c.args.trace.now c.requires.config
    c.requires.trace

pub returns-in_err-run_to_end-clause-protocol : goal.returns-in_err-run_to_end-clause-protocol
returns-in_err-run_to_end-clause-protocol c = always-protocol c.args.config c.args.trace.now
    c.requires.config c.requires.trace
