use Rattle.std.proofs.Common.{sym, ◌∙◌}
use Rattle.ea_mbc.proofs.Seen.{seen, block-read, before-read}
use Rattle.ea_mbc.proofs.units.CarrierUnits.gap_before.Goals as goal

pub header-requires : goal.header-requires
header-requires c =
    let s = seen _ _ _ c.args.self.now c.self.view_is c.self.invariant.coded in
    (block-read _ _ _ _ c.args.offset s c.requires).inside

pub overflow_sub-offset : goal.overflow_sub-offset
overflow_sub-offset c =
    let s = seen _ _ _ c.args.self.now c.self.view_is c.self.invariant.coded in
    let r = block-read _ _ _ _ c.args.offset s c.requires in
    (before-read _ _ _ _ c.args.offset c.header.result s r c.header.ensures.word).first

pub returns-then-header : goal.returns-then-header
returns-then-header c =
    let s = seen _ _ _ c.args.self.now c.self.view_is c.self.invariant.coded in
    let r = block-read _ _ _ _ c.args.offset s c.requires in
    c.footer.ensures
    ∙ (before-read _ _ _ _ c.args.offset c.header.result s r c.header.ensures.word).word
    c.if-header.true

pub returns-else-header : goal.returns-else-header
returns-else-header c =
    let s = seen _ _ _ c.args.self.now c.self.view_is c.self.invariant.coded in
    let r = block-read _ _ _ _ c.args.offset s c.requires in
    sym ((before-read _ _ _ _ c.args.offset c.header.result s r c.header.ensures.word).none
    c.if-header.false)
