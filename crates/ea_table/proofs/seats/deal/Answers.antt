use Rattle.std.proofs.Common.{◌≡◌, suc, ◌+◌, ◌-◌, refl, sym, ap, ◌∙◌, subst, arith}
use Rattle.ea_table.specs.Ruling.{waiting_from}
use Rattle.ea_table.proofs.Dealing.{ArePasses, claim-is, deals, last-is, left-is, none-dealt}
use Rattle.ea_table.proofs.Dealing.{older-is, one-dealt, right-is, single-is}
use Rattle.ea_table.proofs.seats.deal.Goals as goal

pub loop-init : goal.loop-init
loop-init c =
    let k = c.args.table.now.shared.key in
    let more : c.args.schedulers ≡ suc (c.args.schedulers - 1) = omega (arith, c.requires.some) in (
      0,
      c.args.schedulers - 1,
      refl,
      omega (arith, more),
      c.requires.seated,
      c.requires.bare,
      c.requires.all ∙ ap (waiting_from k.config k.trace.now 1) more,
      subst (ArePasses k.config k.trace.now c.args.table.now.shared.table_id 0)
          (sym c.new-passes.ensures)
          (none-dealt k.config k.trace.now c.args.table.now.shared.table_id),
    )

pub split_seat-seat-requires : goal.split_seat-seat-requires
split_seat-seat-requires c =
    let (dealt, rest, count, all, seated, bare, view, are) = c.loop.invariant in (
      seated,
      c.requires.words,
      deals c.args.table.now.shared.key c.loop.first.id (dealt + 1) rest c.loop.first.me.0 view,
    )

pub invariant_of-push : goal.invariant_of-push
invariant_of-push c =
    let k = c.args.table.now.shared.key in
    let (dealt, rest, count, all, seated, bare, view, are) = c.loop.invariant in
    let right = right-is k.config k.trace.now (dealt + 1) rest c.loop.first.me.0
    c.split_seat-seat.result.me.0 view (ap (λ m. m.0) c.split_seat-seat.ensures.4) in
    record {
      bare = ap (λ m. m.1) c.split_seat-seat.ensures.4;
      single = single-is k.config k.trace.now (dealt + 1) c.split_seat-seat.result.me.0 right;
      unclaimed = claim-is k.config k.trace.now (dealt + 1) c.split_seat-seat.result.me.0 right;
      older_is = older-is k.config k.trace.now (dealt + 1) c.split_seat-seat.result.me.0 right;
    }

pub loop-preserved : goal.loop-preserved
loop-preserved c =
    let k = c.args.table.now.shared.key in
    let (dealt, rest, count, all, seated, bare, view, are) = c.loop.invariant in
    let right = right-is k.config k.trace.now (dealt + 1) rest c.loop.first.me.0
    c.split_seat-seat.result.me.0 view (ap (λ m. m.0) c.split_seat-seat.ensures.4) in (
      dealt + 1,
      rest - 1,
      omega (arith, count),
      omega (arith, all, count, c.loop-test.true),
      c.split_seat-seat.ensures.0 ∙ seated,
      ap (λ m. m.1) c.split_seat-seat.ensures.2 ∙ bare,
      left-is k.config k.trace.now (dealt + 1) rest c.loop.first.me.0
          c.split_seat-seat.new.seat.me.0 view (omega (arith, all, count, c.loop-test.true))
          (ap (λ m. m.0) c.split_seat-seat.ensures.2),
      subst (ArePasses k.config k.trace.now c.args.table.now.shared.table_id (dealt + 1))
          (sym c.in_ok-push.ensures.ok)
          (one-dealt k.config k.trace.now c.args.table.now.shared.table_id dealt c.loop.passes.items
          _ are
          (record { seated = c.split_seat-seat.ensures.3 ∙ seated; view = right })),
    )

pub invariant_of-push-2 : goal.invariant_of-push-2
invariant_of-push-2 c =
    let k = c.args.table.now.shared.key in
    let (dealt, rest, count, all, seated, bare, view, are) = c.loop.invariant in
    let last = last-is k.config k.trace.now (dealt + 1) rest c.loop.first.me.0 view
    (omega (arith, all, count, c.loop-test.false)) in
    record {
      bare = bare;
      single = single-is k.config k.trace.now (dealt + 1) c.loop.first.me.0 last;
      unclaimed = claim-is k.config k.trace.now (dealt + 1) c.loop.first.me.0 last;
      older_is = older-is k.config k.trace.now (dealt + 1) c.loop.first.me.0 last;
    }

all-dealt : (c : goal.In_ok-push-2) → ArePasses c.args.table.now.shared.key.config
    c.args.table.now.shared.key.trace.now c.args.table.now.shared.table_id c.args.schedulers
    c.push-2.new.self.items
all-dealt c =
    let k = c.args.table.now.shared.key in
    let id = c.args.table.now.shared.table_id in
    let (dealt, rest, count, all, seated, bare, view, are) = c.loop.invariant in
    let last = last-is k.config k.trace.now (dealt + 1) rest c.loop.first.me.0 view
    (omega (arith, all, count, c.loop-test.false)) in
    subst (λ n. ArePasses k.config k.trace.now id n c.push-2.new.self.items)
    (let e : dealt + 1 ≡ c.args.schedulers = omega (arith, all, count, c.loop-test.false) in e)
    (subst (ArePasses k.config k.trace.now id (dealt + 1)) (sym c.in_ok-push-2.ensures.ok)
    (one-dealt k.config k.trace.now id dealt c.loop.passes.items _ are
    (record { seated = seated; view = last })))

pub returns-clause-all : goal.returns-clause-all
returns-clause-all c = (all-dealt c).count

pub returns-clause-each : goal.returns-clause-each
returns-clause-each c = λ k d less. (all-dealt c).each k d less
