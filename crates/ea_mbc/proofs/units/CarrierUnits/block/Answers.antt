use Rattle.std.proofs.Common.{arith}
use Rattle.ea_mbc.proofs.Seen.{seen, block-read, header-read, block-is}
use Rattle.ea_mbc.proofs.units.CarrierUnits.block.Goals as goal

pub get-requires : goal.get-requires
get-requires c =
    let s = seen _ _ _ c.args.self.now c.self.view_is c.self.invariant.coded in
    omega (arith, (block-read _ _ _ _ c.args.offset s c.requires).half)

pub header-requires : goal.header-requires
header-requires c =
    let s = seen _ _ _ c.args.self.now c.self.view_is c.self.invariant.coded in
    (block-read _ _ _ _ c.args.offset s c.requires).inside

pub returns : goal.returns
returns c =
    let s = seen _ _ _ c.args.self.now c.self.view_is c.self.invariant.coded in
    let r = block-read _ _ _ _ c.args.offset s c.requires in
    block-is _ _ _ c.args.offset c.get.result c.header.result.size r
    c.get.ensures
    (header-read _ _ _ _ c.args.offset c.header.result s r c.header.ensures.word).0
