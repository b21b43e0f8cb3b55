use Rattle.ea_mbc.proofs.Writing.{written-Laid}
use Rattle.ea_mbc.proofs.coding.lay.Goals as goal

pub returns : goal.returns
returns c =
    written-Laid c.args.tags.now c.set_header.new.self c.put_gap.new.tags c.tell.new.tags
    c.args.names.now _ c.args.end c.args.block.offset c.args.block.size c.args.stop
    c.args.block.name c.args.prev_free c.requires.some c.requires.order c.requires.within
    c.requires.long c.requires.half c.set_header.ensures c.put_gap.ensures.as_many
    c.put_gap.ensures.gap c.put_gap.ensures.others c.tell.ensures.as_many c.tell.ensures.told
    c.tell.ensures.others c.set.ensures
