use Rattle.std.proofs.Common.{◌+◌, ◌++◌, ap, arith, replicate}
use Rattle.ea_model.specs.declared.settings.Config.{Config}
use Rattle.ea_machine.specs.Setup.{setup_of}
use Rattle.ea_steps.proofs.StepLists.{completes-first, completes-last}
use Rattle.ea_steps.proofs.ToldRuns.{completes-one}
use Rattle.ea_steps.proofs.telling.Told.complete.Goals as goal

pub loop-before-init : goal.loop-before-init
loop-before-init c = (
  λ d t turns at. (turns, at, λ was. was, completes-first (setup_of d t) turns),
  c.requires.counts,
)

pub take_all-requires-clause-stands : goal.take_all-requires-clause-stands
take_all-requires-clause-stands c =
    let (d, t, turns, at) = c.requires.stands in
    let (taken, stands, tells, completes) = c.loop-before.invariant.0 d t turns at in
    (d, t, taken, stands)

pub take_all-requires-clause-scheduler : goal.take_all-requires-clause-scheduler
take_all-requires-clause-scheduler c =
    let (d, t, turns, at) = c.requires.stands in
    let (taken, stands, tells, completes) = c.loop-before.invariant.0 d t turns at in (
      omega arith,
      omega (
        arith,
        c.loop-before-test.true,
        c.requires.all,
        ap (λ (x : Config). x.schedulers) at.config,
        ap (λ (x : Config). x.schedulers) stands.config,
      ),
    )

pub loop-before-preserved : goal.loop-before-preserved
loop-before-preserved c = (
  λ d t turns at.
      let (taken, stands, tells, completes) = c.loop-before.invariant.0 d t turns at in
      let me = c.loop-before.before + 1 in
      let (count, after, more, finishes) = c.in_ok-take_all.ensures.told d t taken stands in (
        taken ++ replicate count me,
        after,
        λ was. more (tells was),
        completes-one (setup_of d t) turns taken c.loop-before.before count
            (omega (
              arith,
              c.loop-before-test.true,
              c.requires.all,
              ap (λ (x : Config). x.schedulers) at.config,
            )) finishes completes,
      ),
  c.in_ok-take_all.ensures.counts,
)

pub returns : goal.returns
returns c = λ d t turns at was.
    let (taken, stands, tells, completes) = c.loop-before.invariant.0 d t turns at in (
      taken,
      stands,
      tells was,
      completes-last (setup_of d t) turns c.loop-before.before taken
          (omega (
            arith,
            c.loop-before-test.false,
            c.requires.all,
            ap (λ (x : Config). x.schedulers) at.config,
          )) completes,
    )
