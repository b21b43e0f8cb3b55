use Rattle.std.proofs.Common.{arith}
use Rattle.ea_trials_carriers.proofs.TagsRead.{gap-tags}
use Rattle.ea_trials_carriers.proofs.carrier_tags.gap_tags.Goals as goal

pub overflow_add-last : goal.overflow_add-last
overflow_add-last c =
    let read = gap-tags c.tags-tags.result.now c.args.carrier.now c.args.gap.offset c.args.gap.size
    c.laid_out.ensures.tiled
    c.tags-tags.ensures.as_many c.requires.gap c.requires.some in
    omega (
      arith,
      c.units-units.ensures,
      c.units-units.type_inv,
      c.tags-tags.ensures.as_many,
      read,
    )

pub header-requires : goal.header-requires
header-requires c =
    let read = gap-tags c.tags-tags.result.now c.args.carrier.now c.args.gap.offset c.args.gap.size
    c.laid_out.ensures.tiled
    c.tags-tags.ensures.as_many c.requires.gap c.requires.some in
    omega (arith, c.requires.some, read)

pub footer-requires : goal.footer-requires
footer-requires c =
    let read = gap-tags c.tags-tags.result.now c.args.carrier.now c.args.gap.offset c.args.gap.size
    c.laid_out.ensures.tiled
    c.tags-tags.ensures.as_many c.requires.gap c.requires.some in
    omega (arith, c.requires.some, read)
