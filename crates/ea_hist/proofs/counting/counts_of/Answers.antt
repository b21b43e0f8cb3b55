use Rattle.std.proofs.Common.{◌+◌, ◌<◌, arith, ap, get_or, refl, set, sym, take, ◌∙◌}
use Rattle.std.proofs.lemmas.List.{length-take, take_more}
use Rattle.ea_hist.specs.Intervals.{counts}
use Rattle.ea_hist.proofs.Counts.{count-most, counts-at, one-more}
use Rattle.ea_hist.proofs.counting.counts_of.Goals as goal

pub loop-size-init : goal.loop-size-init
unfolding counts
loop-size-init c = refl

pub overflow_add-counts : goal.overflow_add-counts
overflow_add-counts c =
    let k = c.place_of.result in
    let i = c.loop-size.size-index in
    let before = take i c.args.sizes.now in
    omega (
      arith,
      ap (λ cs. get_or cs k 0) c.loop-size.invariant,
      counts-at before k 0 (omega (arith, c.place_of.ensures.within)),
      count-most (k + 1) before,
      length-take i c.args.sizes.now,
      c.loop-size-test.true,
      c.type_inv.sizes,
    )

pub loop-size-preserved : goal.loop-size-preserved
loop-size-preserved c =
    let k = c.place_of.result in
    let i = c.loop-size.size-index in
    let sizes = c.args.sizes.now in
    let before = take i sizes in
    let less : k < 18 = omega (arith, c.place_of.ensures.within) in
    ap (λ cs. set cs k (get_or cs k 0 + 1)) c.loop-size.invariant
    ∙ ap (λ n. set (counts before) k (n + 1)) (counts-at before k 0 less)
    ∙ one-more before _ k c.place_of.ensures.place less
    ∙ ap counts (sym (take_more sizes i 0 c.loop-size-test.true))
