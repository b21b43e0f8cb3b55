use Rattle.std.proofs.Common.{arith}
use Rattle.std.proofs.lemmas.Grind.{div_ceil_times}
use Rattle.ea_tags.proofs.Pages.{numbers-new, pages-new}
use Rattle.ea_tags.proofs.paged.PagedArray.new.Goals as goal

pub invariant_of-result : goal.invariant_of-result
invariant_of-result c =
    pages-new c.args.len c.div_ceil-pages.result _ _ _
    (c.in_ok-ends.ensures.items_if_clones_equal (λ y e. cc)) c.in_ok-used.ensures.items
    (omega (
      arith,
      c.div_ceil-pages.ensures,
      (div_ceil_times c.args.len 512 (omega arith)).0,
    )) (omega (arith, c.in_ok-used.ensures.capacity))

pub returns : goal.returns
returns c =
    numbers-new c.args.len c.div_ceil-pages.result _ _
    (c.in_ok-ends.ensures.items_if_clones_equal (λ y e. cc))
