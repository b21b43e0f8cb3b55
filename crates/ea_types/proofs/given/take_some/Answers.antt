use Rattle.std.proofs.Common.{◌++◌, ap, ◌∙◌, arith}
use Rattle.std.specs.Prelude.{nat_lt, replicate}
use Rattle.ea_model.specs.declared.settings.Config.{Config}
use Rattle.ea_machine.specs.Setup.{setup_of}
use Rattle.ea_given.specs.Runs.{done_after}
use Rattle.ea_types.proofs.given.take_some.Goals as goal

pub done-requires-clause-stands : goal.done-requires-clause-stands
done-requires-clause-stands c =
    let (d, t, turns, at) = c.requires.stands in
    let js = replicate c.in_ok-count.count c.args.me in
    (d, t, turns ++ js, c.in_ok-count.ensures.taken d t turns at)

pub done-requires-clause-scheduler : goal.done-requires-clause-scheduler
done-requires-clause-scheduler c =
    let (d, t, turns, at) = c.requires.stands in
    let gone = c.in_ok-count.ensures.taken d t turns at in
    let has = c.requires.scheduler in (
      has.0,
      omega (
        arith,
        has.1,
        ap (λ (x : Config). x.schedulers) at.config,
        ap (λ (x : Config). x.schedulers) gone.config,
      ),
    )

pub returns-clause-grown : goal.returns-clause-grown
returns-clause-grown c = λ d t turns at.
    let js = replicate c.in_ok-count.count c.args.me in
    ap (λ k. nat_lt k c.done.result) (c.done-done.ensures d t turns at)
    ∙ ap (nat_lt (done_after (setup_of d t) turns c.args.me))
    (c.done.ensures d t (turns ++ js) (c.in_ok-count.ensures.taken d t turns at))
