use Rattle.std.proofs.Common.{◌∙◌, ap, sym}
use Rattle.std.specs.Prelude.{flat_map}
use Rattle.ea_machine.specs.Actor.{Actor}
use Rattle.ea_machine.specs.Setup.{setup_of}
use Rattle.ea_sched.specs.Wants.{moving_at}
use Rattle.ea_steps.specs.Entered.{carriers_in}
use Rattle.ea_steps.specs.FoundCarriers.{first_number}
use Rattle.ea_steps.specs.Taking.{step_after}
use Rattle.ea_steps.proofs.MadeNumbers.{actor-taken, created-taken, made-logged, made-moved}
use Rattle.ea_steps.proofs.MadeNumbers.{made-none, made-row, more-created, none-is}
use Rattle.ea_steps.proofs.made.made.Goals as goal

pub returns-then-created-touched : goal.returns-then-created-touched
returns-then-created-touched c = λ config trace turns stands takes touches.
    let e = setup_of config trace in
    made-none (step_after e turns c.args.me)
    (sym (created-taken e turns c.args.me takes c.at-scheduler.result.now
    (c.at-scheduler.ensures config trace _ stands) c.created.result c.args.touched.now.created
    (c.created.ensures ∙ ap (λ i. i.created) c.instance.ensures))
    ∙ c.if-created-touched.true ∙ touches.created)

pub returns-then-is_some : goal.returns-then-is_some
returns-then-is_some c = λ config trace turns stands takes touches.
    let e = setup_of config trace in
    made-row (step_after e turns c.args.me)
    (more-created e turns c.args.me takes c.at-scheduler.result.now
    (c.at-scheduler.ensures config trace _ stands) c.created.result c.args.touched.now.created
    (c.created.ensures ∙ ap (λ i. i.created) c.instance.ensures)
    touches.created c.if-created-touched.false)
    c.args.touched.now.creates c.if-is_some.ensures touches.creates

pub returns-in-Some : goal.returns-in-Some
returns-in-Some c = λ config trace turns stands takes touches.
    let e = setup_of config trace in
    let at = c.at-scheduler.ensures config trace _ stands in
    made-moved (step_after e turns c.args.me)
    (more-created e turns c.args.me takes c.at-scheduler.result.now at c.created.result
    c.args.touched.now.created (c.created.ensures ∙ ap (λ i. i.created) c.instance.ensures)
    touches.created c.if-created-touched.false)
    (none-is c.args.touched.now.creates c.if-is_some.ensures ∙ touches.creates) c.in-Some.place
    (c.in-Some.ensures ∙ ap (λ (b : Actor). moving_at b.stage)
    (actor-taken e turns c.args.me takes c.at-scheduler.result.now at))

pub returns : goal.returns
returns c = λ config trace turns stands takes touches.
    let e = setup_of config trace in
    let at = c.at-scheduler.ensures config trace _ stands in
    let (reports, are) = c.added.ensures config trace turns stands takes touches in
    c.first_placed.ensures reports
    ∙ ap (λ l. first_number (flat_map carriers_in l)) are
    ∙ made-logged (step_after e turns c.args.me)
    (more-created e turns c.args.me takes c.at-scheduler.result.now at c.created.result
    c.args.touched.now.created (c.created.ensures ∙ ap (λ i. i.created) c.instance.ensures)
    touches.created c.if-created-touched.false)
    (none-is c.args.touched.now.creates c.if-is_some.ensures ∙ touches.creates)
    (c.in_default.ensures ∙ ap (λ (b : Actor). moving_at b.stage)
    (actor-taken e turns c.args.me takes c.at-scheduler.result.now at))
