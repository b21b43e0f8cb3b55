use Rattle.std.proofs.Common.{◌≡◌, arith, subst}
use Rattle.std.proofs.lemmas.Int.{clamps}
use Rattle.ea_mem_shared.specs.Memory.{told_of}
use Rattle.ea_sched.specs.Looks.{PassesLooks}
use Rattle.ea_given.proofs.Running.{stands-moves, stands-ready, turns-taken}
use Rattle.ea_given.proofs.turns.step_some.Goals as goal

pub step_upto-requires-clause-ready : goal.step_upto-requires-clause-ready
step_upto-requires-clause-ready c =
    let (d, t, me, steps, w, shares, at) = c.requires.stands in
    λ going. stands-ready d t me steps c.args.scheduler.now w at c.args.shared.now shares

pub step_upto-requires-clause-migrates : goal.step_upto-requires-clause-migrates
step_upto-requires-clause-migrates c =
    let (d, t, me, steps, w, shares, at) = c.requires.stands in
    stands-moves d t me steps c.args.scheduler.now w at c.args.shared.now shares

pub returns-clause-took : goal.returns-clause-took
returns-clause-took c = λ d t me steps w shares at.
    let e = c.in_ok-taken.ensures in
    turns-taken d t me steps c.args.scheduler.now w at c.args.shared.now shares c.in_ok-taken.taken
    c.step_upto.new.self c.step_upto.new.shared e.run.0 e.run.1 e.run.2 e.stays.0 e.stays.1
    e.stays.2 e.goes.1 (λ some. (e.went some).0) e.left e.step e.rests c.max.result c.max.ensures

pub returns-clause-quiet : goal.returns-clause-quiet
returns-clause-quiet c = λ many.
    c.in_ok-taken.ensures.looks (omega (arith, clamps, many, c.max.ensures))

pub returns-clause-uncounted : goal.returns-clause-uncounted
returns-clause-uncounted c = λ many.
    let same : c.in_ok-taken.taken ≡ c.max.result =
    omega (arith, clamps, many, c.max.ensures) in
    subst (λ n. PassesLooks n c.args.scheduler.now (told_of c.args.shared.now)) same
    (c.in_ok-taken.ensures.uncounted (omega (arith, clamps, many, c.max.ensures)))
