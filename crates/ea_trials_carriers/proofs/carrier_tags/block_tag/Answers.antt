use Rattle.std.proofs.Common.{sym, ◌∙◌, arith}
use Rattle.ea_model.specs.Content.{block_at}
use Rattle.ea_trials_carriers.proofs.TagsRead.{block-tag, block-there}
use Rattle.ea_trials_carriers.proofs.carrier_tags.block_tag.Goals as goal

pub header-requires : goal.header-requires
header-requires c =
    let (b, found, e) = block-there (block_at c.args.carrier.now.blocks c.args.offset)
    c.in_ok-block_at.field-0 (sym c.block_at.ensures ∙ c.in_ok-block_at.was) in
    block-tag c.tags.result.now c.args.carrier.now c.args.offset b c.laid_out.ensures.tiled
    c.tags.ensures.as_many found
