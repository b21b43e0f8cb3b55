use Rattle.std.proofs.Common.{◌+◌, ◌++◌, sym, subst, refl, ◌∙◌, arith}
use Rattle.std.proofs.lemmas.List.{append-nil}
use Rattle.std.specs.Prelude.{replicate}
use Rattle.ea_machine.specs.Setup.{setup_of}
use Rattle.ea_given.specs.Runs.{StandsAfter}
use Rattle.ea_steps.specs.Told.{IsTold}
use Rattle.ea_steps.proofs.ToldRuns.{leading-first, leading-last, leading-more, more-turns}
use Rattle.ea_steps.proofs.ToldRuns.{rests-then, same-scheduler, scheduler-of, takes-step}
use Rattle.ea_steps.proofs.ToldRuns.{work-less}
use Rattle.ea_steps.proofs.telling.Told.take_all.Goals as goal

pub loop-alloc-init : goal.loop-alloc-init
loop-alloc-init c = (
  λ d t turns at. (
    0,
    subst (λ ts. StandsAfter d t ts c.args.run.now) (sym (append-nil turns)) at,
    λ was. subst (λ ts. IsTold (setup_of d t) ts c.args.self.now) (sym (append-nil turns)) was,
    leading-first (setup_of d t) turns c.args.me,
  ),
  c.requires.counts,
)

pub at-requires-clause-stands : goal.at-requires-clause-stands
at-requires-clause-stands c =
    let (d, t, turns, at) = c.requires.stands in
    let (n, stands, tells, leads) = c.loop-alloc.invariant.0 d t turns at in
    (d, t, turns ++ replicate n c.args.me, stands)

pub at-requires-clause-scheduler : goal.at-requires-clause-scheduler
at-requires-clause-scheduler c =
    let (d, t, turns, at) = c.requires.stands in
    let (n, stands, tells, leads) = c.loop-alloc.invariant.0 d t turns at in
    same-scheduler c.args.run.now c.loop-alloc.run c.args.me d t turns
    (turns ++ replicate n c.args.me) at stands c.requires.scheduler

pub take_some-requires-clause-stands : goal.take_some-requires-clause-stands
take_some-requires-clause-stands c =
    let (d, t, turns, at) = c.requires.stands in
    let (n, stands, tells, leads) = c.loop-alloc.invariant.0 d t turns at in
    (d, t, turns ++ replicate n c.args.me, stands)

pub take_some-requires-clause-scheduler : goal.take_some-requires-clause-scheduler
take_some-requires-clause-scheduler c =
    let (d, t, turns, at) = c.requires.stands in
    let (n, stands, tells, leads) = c.loop-alloc.invariant.0 d t turns at in
    same-scheduler c.args.run.now c.loop-alloc.run c.args.me d t turns
    (turns ++ replicate n c.args.me) at stands c.requires.scheduler

pub take_some-requires-clause-takes : goal.take_some-requires-clause-takes
take_some-requires-clause-takes c = takes-step c.loop-alloc.run c.args.me c.at.result.now
    c.at.ensures (sym c.rests.ensures ∙ c.loop-alloc-test.true)

pub loop-alloc-smaller : goal.loop-alloc-smaller
loop-alloc-smaller c =
    let (d, t, turns, at) = c.requires.stands in
    let (n, stands, tells, leads) = c.loop-alloc.invariant.0 d t turns at in
    let me = c.args.me in
    let m = c.in_ok-take_some.field-0 in
    let then = turns ++ replicate n me in
    let after = c.in_ok-take_some.ensures.taken d t then stands in
    let mine = scheduler-of c.args.run.now me d t turns at c.requires.scheduler in
    omega (
      arith,
      stands.left me mine,
      after.left me mine,
      work-less d t stands.shared.config stands.shared.trace me then m stands.shared.reached
          c.in_ok-take_some.ensures.few.0 (c.in_ok-take_some.ensures.steps d t then stands),
    )

pub loop-alloc-preserved : goal.loop-alloc-preserved
loop-alloc-preserved c = (
  λ d t turns at.
      let (n, stands, tells, leads) = c.loop-alloc.invariant.0 d t turns at in
      let me = c.args.me in
      let m = c.in_ok-take_some.field-0 in
      let then = turns ++ replicate n me in
      let same = more-turns me n m (n + m) refl turns in (
        n + m,
        subst (λ ts. StandsAfter d t ts c.take_some.new.run) same
            (c.in_ok-take_some.ensures.taken d t then stands),
        λ was. subst (λ ts. IsTold (setup_of d t) ts c.take_some.new.self) same
            (c.in_ok-take_some.ensures.told d t then stands (tells was)),
        leading-more d t stands.shared.config stands.shared.trace me turns n m
            stands.shared.reached leads (c.in_ok-take_some.ensures.steps d t then stands),
      ),
  c.in_ok-take_some.ensures.counts,
)

pub returns-clause-told : goal.returns-clause-told
returns-clause-told c = λ d t turns at.
    let (n, stands, tells, leads) = c.loop-alloc.invariant.0 d t turns at in (
      n,
      stands,
      tells,
      leading-last (setup_of d t) turns c.args.me n
          (rests-then c.loop-alloc.run c.args.me c.at.result.now c.at.ensures
          (sym c.rests.ensures ∙ c.loop-alloc-test.false) d t (turns ++ replicate n c.args.me)
          stands) leads,
    )
