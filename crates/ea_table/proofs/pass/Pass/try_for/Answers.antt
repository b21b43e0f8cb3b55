use Rattle.std.proofs.Common.{◌∙◌, sym, subst, arith}
use mathlib.Core.Option.{none}
use Rattle.atomic_table.specs.Table.{step}
use Rattle.ea_table.proofs.OwnerCodes.{DecodesOwner}
use Rattle.ea_table.proofs.OwnerSteps.{exchanges}
use Rattle.ea_table.proofs.OwnerTold.{idle-of, lost-idle, lost-row, seen-shown, won-slot}
use Rattle.ea_table.proofs.pass.Pass.try_for.Goals as goal

pub compare_exchange-found-requires : goal.compare_exchange-found-requires
compare_exchange-found-requires c =
    let b = c.args.board.now in
    let p = c.args.self.now in
    let s = p.seat in
    let place = c.owner_place-place in (
      c.requires.seated.table,
      omega (arith, b.words, place.ensures, c.requires.carrier),
      exchanges b s.table_id s.id s.me.0 s.me.1 c.requires.seated c.args.carrier
          c.requires.carrier place.result place.ensures c.args.seen c.args.word
          c.encode-old.result c.encode.result c.encode-old.ensures c.encode.ensures
          c.requires.seen (seen-shown b.schedulers c.args.seen b.few c.requires.seen)
          c.requires.wanted p.single p.unclaimed
          (step b.table.shared.table_id.slots place.result c.encode-old.result c.encode.result
          none),
    )

pub take_out-content-requires-clause-slot : goal.take_out-content-requires-clause-slot
take_out-content-requires-clause-slot c =
    let b = c.args.board.now in
    let p = c.args.self.now in
    won-slot p.seat.me c.compare_exchange-found.new.seat.me c.compare_exchange-found.result
    c.compare_exchange-found.ensures.2 c.args.carrier c.args.seen c.args.word b.schedulers b.few
    c.requires.seen c.requires.wanted (c.if-found-old.true ∙ c.encode-old.ensures) p.older
    (idle-of p)

pub invariant_of-self-else-found-old : goal.invariant_of-self-else-found-old
invariant_of-self-else-found-old c =
    let b = c.args.board.now in
    let p = c.args.self.now in
    let i = lost-idle p.seat.me c.compare_exchange-found.new.seat.me c.compare_exchange-found.result
    c.compare_exchange-found.ensures.2 c.args.carrier c.args.seen c.args.word b.schedulers b.few
    c.requires.seen c.requires.wanted
    (λ q. c.if-found-old.false (q ∙ sym c.encode-old.ensures)) p.older (idle-of p) in
    record { bare = i.bare; unclaimed = i.unclaimed; single = i.single; older_is = i.older_is }

pub returns-clause-row : goal.returns-clause-row
returns-clause-row c =
    let b = c.args.board.now in
    let p = c.args.self.now in
    lost-row p.seat.me c.compare_exchange-found.new.seat.me c.compare_exchange-found.result
    c.compare_exchange-found.ensures.2 c.args.carrier c.args.seen c.args.word b.schedulers b.few
    c.requires.seen c.requires.wanted
    (λ q. c.if-found-old.false (q ∙ sym c.encode-old.ensures)) c.in-Some.word
    (subst (DecodesOwner c.compare_exchange-found.result) c.in-Some.is
    (c.decode.ensures.coded, c.decode.ensures.only))
