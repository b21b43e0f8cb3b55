use Rattle.std.proofs.Common.{◌+◌, ◌-◌, refl, arith}
use Rattle.std.specs.Prelude.{replicate}
use Rattle.ea_types.proofs.Completions.{idle-taken, taken-count, taken-has, taken-none, taken-run}
use Rattle.ea_types.proofs.Completions.{taken-sum}
use Rattle.ea_types.proofs.given.TypedRun.take.Goals as goal

pub loop-left-init : goal.loop-left-init
loop-left-init c = (
  omega arith,
  taken-count c.args.self.now c.args.self.now 0 (c.args.count - c.args.count) c.args.me
      (omega arith) (taken-none c.args.self.now),
)

pub next-requires-clause-stands : goal.next-requires-clause-stands
next-requires-clause-stands c = taken-run c.args.self.now c.loop-left.self
    (replicate (c.args.count - c.loop-left.left) c.args.me) c.requires.stands
    c.loop-left.invariant.1

pub next-requires-clause-scheduler : goal.next-requires-clause-scheduler
next-requires-clause-scheduler c = taken-has c.args.self.now c.loop-left.self
    (replicate (c.args.count - c.loop-left.left) c.args.me) c.args.me c.requires.stands
    c.loop-left.invariant.1 c.requires.scheduler

pub returns-in_default : goal.returns-in_default
returns-in_default c =
    let r = c.args.self.now in
    let q = c.loop-left.self in
    let left = c.loop-left.left in
    let before = c.args.count - left in
    taken-count r q (before + left) c.args.count c.args.me
    (omega (arith, c.loop-left.invariant.0))
    (taken-sum r q q before left c.args.me c.loop-left.invariant.1
    (idle-taken q c.args.me left (c.in_default.ensures.none refl)))

pub go-requires-clause-stands : goal.go-requires-clause-stands
go-requires-clause-stands c = taken-run c.args.self.now c.loop-left.self
    (replicate (c.args.count - c.loop-left.left) c.args.me) c.requires.stands
    c.loop-left.invariant.1

pub go-requires-clause-scheduler : goal.go-requires-clause-scheduler
go-requires-clause-scheduler c = taken-has c.args.self.now c.loop-left.self
    (replicate (c.args.count - c.loop-left.left) c.args.me) c.args.me c.requires.stands
    c.loop-left.invariant.1 c.requires.scheduler

pub loop-left-preserved : goal.loop-left-preserved
loop-left-preserved c =
    let r = c.args.self.now in
    let left = c.loop-left.left in
    let before = c.args.count - left in
    let now = c.in_ok-left.field-0 in
    let few = c.in_ok-left.ensures.few in (
      omega (arith, c.loop-left.invariant.0),
      taken-count r c.go.new.self (before + now) (c.args.count - (left - now)) c.args.me
          (omega (arith, c.loop-left.invariant.0, few.1))
          (taken-sum r c.loop-left.self c.go.new.self before now c.args.me
          c.loop-left.invariant.1 c.in_ok-left.ensures.taken),
    )

pub returns : goal.returns
returns c = taken-count c.args.self.now c.loop-left.self (c.args.count - c.loop-left.left)
    c.args.count c.args.me (omega (arith, c.loop-left-test.false)) c.loop-left.invariant.1
