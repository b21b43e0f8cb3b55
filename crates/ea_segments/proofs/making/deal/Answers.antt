use Rattle.std.proofs.Common.{◌≡◌, ◌+◌, drop, get_or, sym, ap, ◌∙◌, subst, arith}
use Rattle.ea_segments.proofs.Passing.{ArePasses, deals, fresh-is, idle-is, last-left, left-is}
use Rattle.ea_segments.proofs.Passing.{next-left, one-dealt, right-is, single-is, waiting}
use Rattle.ea_segments.proofs.making.deal.Goals as goal

pub split_seat-seat-requires : goal.split_seat-seat-requires
split_seat-seat-requires c =
    let a = c.args.table.now.shared.key in
    let (dealt, at, most, seated, bare, view, are) = c.loop-number.invariant in
    let ns = a.calls.items in
    let more = next-left ns dealt (omega (
      arith,
      c.requires.count,
      most,
      at,
      c.loop-number-test.true,
    )) in (
      seated,
      c.requires.words,
      deals a (dealt + 1) (get_or ns dealt 0) (drop (dealt + 1) ns) c.loop-number.first.me.0
          (view ∙ ap (waiting a (dealt + 1)) more) c.loop-number.first.id,
    )

pub invariant_of-push : goal.invariant_of-push
invariant_of-push c =
    let a = c.args.table.now.shared.key in
    let (dealt, at, most, seated, bare, view, are) = c.loop-number.invariant in
    let ns = a.calls.items in
    let more = next-left ns dealt (omega (
      arith,
      c.requires.count,
      most,
      at,
      c.loop-number-test.true,
    )) in
    let v = c.split_seat-seat.result.me.0 in
    let right = right-is a (dealt + 1) (get_or ns dealt 0) (drop (dealt + 1) ns)
    c.loop-number.first.me.0 (view ∙ ap (waiting a (dealt + 1)) more) v
    (ap (λ m. m.0) c.split_seat-seat.ensures.4) in
    record {
      bare = ap (λ m. m.1) c.split_seat-seat.ensures.4;
      idle = idle-is a (dealt + 1) (get_or ns dealt 0) v right;
      single = single-is a (dealt + 1) (get_or ns dealt 0) v right;
      number_is = at
          ∙ sym (ap (λ s. s.number) (fresh-is a (dealt + 1) (get_or ns dealt 0) v right));
    }

pub loop-number-preserved : goal.loop-number-preserved
loop-number-preserved c =
    let a = c.args.table.now.shared.key in
    let id = c.args.table.now.shared.table_id in
    let (dealt, at, most, seated, bare, view, are) = c.loop-number.invariant in
    let ns = a.calls.items in
    let more = next-left ns dealt (omega (
      arith,
      c.requires.count,
      most,
      at,
      c.loop-number-test.true,
    )) in
    let v = c.split_seat-seat.result.me.0 in
    let whole = view ∙ ap (waiting a (dealt + 1)) more in
    let right = right-is a (dealt + 1) (get_or ns dealt 0) (drop (dealt + 1) ns)
    c.loop-number.first.me.0 whole v (ap (λ m. m.0) c.split_seat-seat.ensures.4) in (
      dealt + 1,
      omega (arith, at),
      omega (arith, at, c.loop-number-test.true),
      c.split_seat-seat.ensures.0 ∙ seated,
      ap (λ m. m.1) c.split_seat-seat.ensures.2 ∙ bare,
      left-is a (dealt + 1) (get_or ns dealt 0) (drop (dealt + 1) ns) c.loop-number.first.me.0 whole
          c.split_seat-seat.new.seat.me.0 (ap (λ m. m.0) c.split_seat-seat.ensures.2),
      subst (ArePasses a id (dealt + 1)) (sym c.in_ok-push.ensures.ok)
          (one-dealt a id dealt c.loop-number.passes.items _ are (record {
            seated = c.split_seat-seat.ensures.3 ∙ seated;
            known = fresh-is a (dealt + 1) (get_or ns dealt 0) v right;
          })),
    )

pub invariant_of-push-2 : goal.invariant_of-push-2
invariant_of-push-2 c =
    let a = c.args.table.now.shared.key in
    let (dealt, at, most, seated, bare, view, are) = c.loop-number.invariant in
    let ns = a.calls.items in
    let end : dealt + 1 ≡ c.args.schedulers = omega (arith, at, most, c.loop-number-test.false) in
    let last = last-left ns dealt (c.requires.count ∙ sym end) in
    let v = c.loop-number.first.me.0 in
    let whole = view ∙ ap (waiting a (dealt + 1)) last in
    record {
      bare = bare;
      idle = idle-is a (dealt + 1) (get_or ns dealt 0) v whole;
      single = single-is a (dealt + 1) (get_or ns dealt 0) v whole;
      number_is = sym end
          ∙ sym (ap (λ s. s.number) (fresh-is a (dealt + 1) (get_or ns dealt 0) v whole));
    }

all-dealt : (c : goal.In_ok-push-2) → ArePasses c.args.table.now.shared.key
    c.args.table.now.shared.table_id c.args.schedulers c.push-2.new.self.items
all-dealt c =
    let a = c.args.table.now.shared.key in
    let id = c.args.table.now.shared.table_id in
    let (dealt, at, most, seated, bare, view, are) = c.loop-number.invariant in
    let ns = a.calls.items in
    let end : dealt + 1 ≡ c.args.schedulers = omega (arith, at, most, c.loop-number-test.false) in
    let last = last-left ns dealt (c.requires.count ∙ sym end) in
    let v = c.loop-number.first.me.0 in
    let whole = view ∙ ap (waiting a (dealt + 1)) last in
    subst (λ n. ArePasses a id n c.push-2.new.self.items) end
    (subst (ArePasses a id (dealt + 1)) (sym c.in_ok-push-2.ensures.ok)
    (one-dealt a id dealt c.loop-number.passes.items _ are
    (record { seated = seated; known = fresh-is a (dealt + 1) (get_or ns dealt 0) v whole })))

pub returns-clause-all : goal.returns-clause-all
returns-clause-all c = (all-dealt c).count

pub returns-clause-each : goal.returns-clause-each
returns-clause-each c = λ k d less. (all-dealt c).each k d less
