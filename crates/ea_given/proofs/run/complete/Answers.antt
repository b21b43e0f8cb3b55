use Rattle.std.proofs.Common.{◌≡◌, ◌+◌, ◌<◌, arith, length, refl, subst, sym}
use Rattle.std.specs.Prelude.{Some}
use Rattle.ea_machine.specs.Completion.{completing, finishing}
use Rattle.ea_machine.specs.Machine.{run_on}
use Rattle.ea_machine.specs.Setup.{setup_of}
use Rattle.ea_machine.specs.Shared.{put}
use Rattle.ea_sound.proofs.Totals.{put-here, put-other}
use Rattle.ea_given.specs.Running.{AllStandAt, SharesAt, StandsAt}
use Rattle.ea_given.proofs.Ends.{after-none, after-one, all-after, all-over, completes-first}
use Rattle.ea_given.proofs.Ends.{completes-last, completes-next, finishing-others, one-stands}
use Rattle.ea_given.proofs.Ends.{other-left}
use Rattle.ea_given.proofs.run.complete.Goals as goal

pub loop-scheduler-init : goal.loop-scheduler-init
loop-scheduler-init c = λ d t steps w shares stand. (
  w,
  put steps 0 (Some 0),
  after-none steps,
  shares,
  other-left d t steps c.args.schedulers.now w stand (put steps 0 (Some 0))
      (λ k. put-other steps 0 (Some 0) (k + 1) (λ q. absurd (omega (arith, q)))),
  completes-first (setup_of d t) steps w,
)

pub run_out-requires : goal.run_out-requires
run_out-requires c =
    let ss = c.loop-scheduler.schedulers in
    let k = c.loop-scheduler.scheduler-index in
    let (d, t, steps, w, shares, stand) = c.requires in
    let (now, left, after, shared_now, stand_now, comes) =
    c.loop-scheduler.invariant d t steps w shares stand in
    let within : k < length ss = omega (arith, c.loop-scheduler.auto.schedulers) in (
      d,
      t,
      k + 1,
      left (k + 1),
      now,
      shared_now,
      one-stands d t left ss now stand_now k within c.scheduler-item.result,
    )

pub loop-scheduler-preserved : goal.loop-scheduler-preserved
loop-scheduler-preserved c = λ d t steps w shares stand.
    let e = setup_of d t in
    let ss = c.loop-scheduler.schedulers in
    let k = c.loop-scheduler.scheduler-index in
    let (now, left, after, shared_now, stand_now, comes) =
    c.loop-scheduler.invariant d t steps w shares stand in
    let within : k < length ss = omega (arith, c.loop-scheduler.auto.schedulers) in
    let still : left (k + 1) ≡ steps (k + 1) = after.still (k + 1) (omega arith) in
    let then = subst (λ o. SharesAt d t c.run_out.new.shared
    (run_on e now (finishing e now o (k + 1)))
    × StandsAt d t (k + 1) (Some 0) c.run_out.new.scheduler
    (run_on e now (finishing e now o (k + 1))))
    still (c.in_ok-run_out.ensures d t (k + 1) (left (k + 1)) now shared_now
    (one-stands d t left ss now stand_now k within c.scheduler-item.result)) in
    let v = run_on e now (finishing e now (steps (k + 1)) (k + 1)) in
    let more = put left (k + 1) (Some 0) in (
      v,
      more,
      after-one steps k left after,
      then.0,
      all-after d t left ss now stand_now k within more c.run_out.new.scheduler v
          (subst (λ o. StandsAt d t (k + 1) o c.run_out.new.scheduler v)
          (sym (put-here left (k + 1) (Some 0) (k + 1) refl)) then.1)
          (λ j other. finishing-others e (k + 1) j (steps (k + 1)) now other)
          (λ j other. put-other left (k + 1) (Some 0) j other),
      completes-next e steps k (run_on e w (completing e steps e.schedulers 1 w)) now
          (omega (arith, within, stand_now.all)) comes,
    )

pub returns : goal.returns
returns c = λ d t steps w shares stand.
    let e = setup_of d t in
    let ss = c.loop-scheduler.schedulers in
    let k = c.loop-scheduler.scheduler-index in
    let (now, left, after, shared_now, stand_now, comes) =
    c.loop-scheduler.invariant d t steps w shares stand in
    subst (λ v. SharesAt d t c.loop-scheduler.shared v × AllStandAt d t (λ _. Some 0) ss v)
    (sym (completes-last e steps k (run_on e w (completing e steps e.schedulers 1 w)) now
    (omega (arith, c.loop-scheduler-test.false, c.loop-scheduler.auto.schedulers, stand_now.all))
    comes)) (
      shared_now,
      all-over d t left ss now stand_now (λ j below. after.over (j + 1)
          (omega (arith, below, c.loop-scheduler-test.false))),
    )
