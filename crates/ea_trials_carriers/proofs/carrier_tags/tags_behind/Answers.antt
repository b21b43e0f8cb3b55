use Rattle.std.proofs.Common.{sym, ◌∙◌, arith}
use Rattle.ea_trials_carriers.proofs.TagsRead.{gap-after}
use Rattle.ea_trials_carriers.proofs.carrier_tags.tags_behind.Goals as goal

pub overflow_add-offset : goal.overflow_add-offset
overflow_add-offset c =
    let after = gap-after c.args.carrier.now c.args.offset c.in_ok-block.block
    c.laid_out.ensures.tiled (sym c.block_at.ensures ∙ c.in_ok-block.was) in
    omega (arith, after.0, c.units-units.ensures, c.units-units.type_inv)

pub gap_tags-requires-clause-gap : goal.gap_tags-requires-clause-gap
gap_tags-requires-clause-gap c =
    let after = gap-after c.args.carrier.now c.args.offset c.in_ok-block.block
    c.laid_out.ensures.tiled (sym c.block_at.ensures ∙ c.in_ok-block.was) in
    after.1 ∙ sym c.gap_behind-size.ensures
