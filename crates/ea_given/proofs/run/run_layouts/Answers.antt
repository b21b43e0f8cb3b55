use Rattle.std.proofs.Common.{ap, ◌∙◌}
use Rattle.std.proofs.lemmas.Result.{IfOk-weaker}
use Rattle.ea_machine.specs.Completion.{course_of, turns_in}
use Rattle.ea_machine.specs.Machine.{run}
use Rattle.ea_machine.specs.Setup.{setup_of}
use Rattle.ea_sound.proofs.Protocols.{always-protocol}
use Rattle.ea_sound.proofs.Schedules.{scheduled-texts}
use Rattle.ea_outcome.specs.Layouts.{layouts_in}
use Rattle.ea_given.proofs.run.run_layouts.Goals as goal

pub run_to_end-requires-clause-texts : goal.run_to_end-requires-clause-texts
run_to_end-requires-clause-texts c =
    scheduled-texts c.args.config.schedulers c.args.trace.now c.requires.schedule c.requires.trace

pub returns : goal.returns
returns c =
    let d = c.args.config in
    let t = c.args.trace.now in
    let e = setup_of d t in
    let protocol = always-protocol d t c.requires.config c.requires.trace in
    IfOk-weaker c.layouts.result _ _
    (λ ls tells. tells d t (course_of e t.mode) c.in_ok-run_to_end.ensures
    ∙ ap (λ ts. layouts_in e (run e ts)) (protocol.within (turns_in t.mode))) c.layouts.ensures
