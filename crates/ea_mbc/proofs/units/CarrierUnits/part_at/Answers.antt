use Rattle.ea_mbc.proofs.PartRead.{part-free, part-taken, part-inside}
use Rattle.ea_mbc.proofs.Seen.{seen}
use Rattle.ea_mbc.proofs.units.CarrierUnits.part_at.Goals as goal

pub header-header-requires : goal.header-header-requires
header-header-requires c =
    let s = seen _ _ _ c.args.self.now c.self.view_is c.self.invariant.coded in
    part-inside _ _ _ _ c.args.offset s c.requires

pub returns-then-header : goal.returns-then-header
returns-then-header c =
    let s = seen _ _ _ c.args.self.now c.self.view_is c.self.invariant.coded in
    part-free _ _ _ _ c.args.offset s c.header-header.result c.header-header.ensures.word c.requires
    c.if-header.true

pub returns-else-header : goal.returns-else-header
returns-else-header c =
    let s = seen _ _ _ c.args.self.now c.self.view_is c.self.invariant.coded in
    part-taken _ _ _ _ c.args.offset s c.header-header.result c.header-header.ensures.word c.requires
    c.if-header.false
