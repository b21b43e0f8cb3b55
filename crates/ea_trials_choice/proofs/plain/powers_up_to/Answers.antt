use Rattle.std.proofs.Common.{◌+◌, sym, subst, arith}
use Rattle.ea_model.proofs.Powers.{Counts, counted_on, passed_on, all_counted}
use Rattle.ea_trials_choice.proofs.plain.powers_up_to.Goals as goal
use Rattle.ea_trials_choice.proofs.plain.powers_up_to.Goals.{then-pow-size, else-pow-size}

pub loop-exponent-init : goal.loop-exponent-init
loop-exponent-init c = (26, omega arith, omega arith, omega arith)

pub loop-exponent-preserved : goal.loop-exponent-preserved
loop-exponent-preserved c =
    let size = c.args.size in
    let at = c.loop-exponent.exponent in
    let count = c.loop-exponent.count in
    let so_far = c.loop-exponent.invariant in
    let more = c.loop-exponent-test.true in
    let on = Counts size (at + 1) in
    elim c.if-pow-size.branch [
      | then-pow-size w ↦ subst on (sym w.count-is)
          (counted_on size at count more (omega (arith, w.if-pow-size.true, c.pow.ensures)) so_far)
      | else-pow-size w ↦ subst on (sym w.count-is)
          (passed_on size at count more (omega (arith, w.if-pow-size.false, c.pow.ensures)) so_far)
    ]

pub returns-clause-count : goal.returns-clause-count
returns-clause-count c =
    let loop = c.loop-exponent in
    all_counted c.args.size loop.exponent loop.count c.loop-exponent-test.false loop.invariant
