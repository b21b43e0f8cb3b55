use Rattle.ea_mbc.proofs.Writing.{written-Cleared}
use Rattle.ea_mbc.proofs.coding.clear.Goals as goal

pub returns : goal.returns
returns c =
    written-Cleared c.args.tags.now c.put_gap.new.tags c.tell.new.tags c.args.names.now _
    c.args.end c.args.start c.args.offset c.args.stop c.requires.order c.requires.within
    c.requires.half c.put_gap.ensures.as_many c.put_gap.ensures.gap c.put_gap.ensures.others
    c.tell.ensures.as_many c.tell.ensures.told c.tell.ensures.others c.set.ensures
