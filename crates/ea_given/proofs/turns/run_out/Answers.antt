use Rattle.std.proofs.Common.{replicate, arith, subst, sym, ◌∙◌}
use Rattle.std.specs.Prelude.{Some}
use Rattle.ea_machine.specs.Completion.{finishing}
use Rattle.ea_machine.specs.Machine.{run_on}
use Rattle.ea_machine.specs.Setup.{setup_of}
use Rattle.ea_machine.specs.Stops.{less, up_to}
use Rattle.ea_given.specs.Running.{SharesAt, StandsAt}
use Rattle.ea_given.proofs.Running.{all-lead, goes-is, leads-first, leads-last, rests-over}
use Rattle.ea_given.proofs.Running.{some-less, stands-going, stands-rests, work-is}
use Rattle.ea_given.proofs.turns.run_out.Goals as goal

pub loop-alloc-init : goal.loop-alloc-init
loop-alloc-init c = λ d t me steps w shares at.
    (w, steps, shares, at, leads-first (setup_of d t) me steps w)

pub step_some-requires-clause-stands : goal.step_some-requires-clause-stands
step_some-requires-clause-stands c =
    let (d, t, me, steps, w, shares, at) = c.requires in
    let (now, left, shared_now, at_now, leads) = c.loop-alloc.invariant d t me steps w shares at in
    (d, t, me, left, now, shared_now, at_now)

pub loop-alloc-smaller : goal.loop-alloc-smaller
loop-alloc-smaller c =
    let s = c.loop-alloc.scheduler in
    let m = c.loop-alloc.shared in
    let k = c.in_ok-step_some.field-0 in
    let did = c.in_ok-step_some.ensures in
    let (d, t, me, steps, w, shares, at) = c.requires in
    let (now, left, shared_now, at_now, leads) = c.loop-alloc.invariant d t me steps w shares at in
    let next = run_on (setup_of d t) now (up_to left (replicate k me)) in
    let then = did.took d t me left now shared_now at_now in
    let goes = goes-is s (sym c.rests.ensures ∙ c.loop-alloc-test.true) in
    omega (
      arith,
      some-less d t shared_now.config shared_now.trace me k left now shared_now.reached
          (stands-going d t me left s now at_now goes.0)
          (λ over. goes.1 (at_now.left goes.0 ∙ over)) did.few.0,
      work-is d t me left s now at_now m shared_now,
      work-is d t me (less left k) c.step_some.new.scheduler next then.1 c.step_some.new.shared
          then.0,
    )

pub loop-alloc-preserved : goal.loop-alloc-preserved
loop-alloc-preserved c = λ d t me steps w shares at.
    let e = setup_of d t in
    let k = c.in_ok-step_some.field-0 in
    let (now, left, shared_now, at_now, leads) = c.loop-alloc.invariant d t me steps w shares at in
    let then = c.in_ok-step_some.ensures.took d t me left now shared_now at_now in (
      run_on e now (up_to left (replicate k me)),
      less left k,
      then.0,
      then.1,
      all-lead d t shared_now.config shared_now.trace me k left
          (run_on e w (finishing e w steps me)) now shared_now.reached leads,
    )

pub returns : goal.returns
returns c = λ d t me steps w shares at.
    let e = setup_of d t in
    let s = c.loop-alloc.scheduler in
    let m = c.loop-alloc.shared in
    let (now, left, shared_now, at_now, leads) = c.loop-alloc.invariant d t me steps w shares at in
    let is = sym c.rests.ensures ∙ c.loop-alloc-test.false in
    subst (λ v. SharesAt d t m v × StandsAt d t me (Some 0) s v)
    (sym (leads-last e me left (run_on e w (finishing e w steps me)) now
    (stands-rests d t me left s now at_now is) leads))
    (shared_now, rests-over d t me left s now at_now is)
