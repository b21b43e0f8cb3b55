use Rattle.std.proofs.Common.{ap, ◌+◌, ◌∙◌, arith}
use Rattle.ea_mbc.proofs.Seen.{seen, block-read, header-read, behind-read, free-read}
use Rattle.ea_mbc.proofs.units.CarrierUnits.gap_behind.Goals as goal

pub header-requires : goal.header-requires
header-requires c =
    let s = seen _ _ _ c.args.self.now c.self.view_is c.self.invariant.coded in
    (block-read _ _ _ _ c.args.offset s c.requires).inside

pub overflow_add-stop : goal.overflow_add-stop
overflow_add-stop c =
    let s = seen _ _ _ c.args.self.now c.self.view_is c.self.invariant.coded in
    let r = block-read _ _ _ _ c.args.offset s c.requires in
    let h = header-read _ _ _ _ c.args.offset c.header.result s r c.header.ensures.word in
    omega (arith, h.0, r.there.within, s.few)

pub returns-then-stop-self : goal.returns-then-stop-self
returns-then-stop-self c =
    let s = seen _ _ _ c.args.self.now c.self.view_is c.self.invariant.coded in
    let r = block-read _ _ _ _ c.args.offset s c.requires in
    let h = header-read _ _ _ _ c.args.offset c.header.result s r c.header.ensures.word in
    let stop = ap (λ n. c.args.offset + n) h.0 in
    let behind = behind-read _ _ _ _ c.args.offset _ s r stop in
    omega (arith, behind.within, s.same, c.if-stop-self.true)

pub header-next-requires : goal.header-next-requires
header-next-requires c =
    let s = seen _ _ _ c.args.self.now c.self.view_is c.self.invariant.coded in
    let r = block-read _ _ _ _ c.args.offset s c.requires in
    let h = header-read _ _ _ _ c.args.offset c.header.result s r c.header.ensures.word in
    omega (arith, h.0, r.there.within, s.same, s.coded.long, c.if-stop-self.false)

pub returns : goal.returns
returns c =
    let s = seen _ _ _ c.args.self.now c.self.view_is c.self.invariant.coded in
    let r = block-read _ _ _ _ c.args.offset s c.requires in
    let h = header-read _ _ _ _ c.args.offset c.header.result s r c.header.ensures.word in
    let stop = ap (λ n. c.args.offset + n) h.0 in
    c.free_units.ensures
    ∙ free-read _ _ _ _ c.header-next.result (behind-read _ _ _ _ c.args.offset _ s r stop)
    (omega (arith, h.0, r.there.within, s.same, c.if-stop-self.false)) c.header-next.ensures.word
