use Rattle.std.proofs.Common.{◌++◌, ap, ◌∙◌, List, ℕ}
use Rattle.ea_machine.specs.Setup.{setup_of}
use Rattle.ea_sched.specs.Acting.{stop_line}
use Rattle.ea_steps.specs.Taking.{step_after}
use Rattle.ea_steps.specs.Text.{changes_text, log_text}
use Rattle.ea_steps.proofs.ToldLines.{looks-told, one-step, only-step}
use Rattle.ea_steps.proofs.telling.lines_of.Goals as goal

pub put_changes-requires-clause-stepped : goal.put_changes-requires-clause-stepped
put_changes-requires-clause-stepped c =
    let (d, t, turns, at, noted) = c.requires.noted in
    one-step c.args.me c.args.steps c.args.touched.now c.args.run.now c.if-steps-eq1.true
    (d, t, turns, at, noted)

pub returns-then-steps-eq1 : goal.returns-then-steps-eq1
returns-then-steps-eq1 c = only-step c.args.me c.args.steps c.args.touched.now c.args.run.now
    c.if-steps-eq1.true c.put_changes.new.text.items
    (λ d t turns at takes touched. c.in_ok-put_changes.ensures d t turns at takes touched
    ∙ ap (λ (xs : List ℕ). xs ++ changes_text (setup_of d t)
    (step_after (setup_of d t) turns c.args.me)) c.new-lines.ensures)

pub returns : goal.returns
returns c = looks-told c.args.me c.args.steps c.args.touched.now c.args.run.now
    c.requires.some c.if-steps-eq1.false c.at.result.now c.at.ensures c.put_stop.new.text.items
    (c.in_ok-put_stop.ensures ∙ ap (λ (xs : List ℕ). xs ++ log_text c.args.me
    (stop_line c.at.result.now)) c.new-lines.ensures)
