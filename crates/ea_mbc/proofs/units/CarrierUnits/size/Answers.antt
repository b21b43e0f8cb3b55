use Rattle.std.proofs.Common.{sym, ◌∙◌}
use Rattle.ea_mbc.proofs.Seen.{seen, block-read, header-read}
use Rattle.ea_mbc.proofs.units.CarrierUnits.size.Goals as goal

pub header-requires : goal.header-requires
header-requires c =
    let s = seen _ _ _ c.args.self.now c.self.view_is c.self.invariant.coded in
    (block-read _ _ _ _ c.args.offset s c.requires).inside

pub returns : goal.returns
returns c =
    let s = seen _ _ _ c.args.self.now c.self.view_is c.self.invariant.coded in
    let r = block-read _ _ _ _ c.args.offset s c.requires in
    (header-read _ _ _ _ c.args.offset c.header.result s r c.header.ensures.word).0 ∙ sym r.size
