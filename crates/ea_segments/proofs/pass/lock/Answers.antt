use Rattle.std.proofs.Common.{ℕ, List, sym, ◌∙◌, subst, arith, ◌==◌}
use mathlib.Core.Option.{none}
use prog.Atomic.{either}
use Rattle.atomic_table.specs.Table.{Allows, Me, step}
use Rattle.ea_segments.specs.declared.views.View.{View}
use Rattle.ea_segments.specs.Accounts.{Account}
use Rattle.ea_segments.specs.Ruling.{holds, tries}
use Rattle.ea_segments.proofs.Locking.{may-try}
use Rattle.ea_segments.proofs.pass.lock.Goals as goal

pub compare_exchange-found-requires : goal.compare_exchange-found-requires
compare_exchange-found-requires g c =
    let t = c.args.desk.now.table.shared in
    let m : Me Account View = c.args.seat.now.me in
    let s = c.loop.seat in
    let (next, finite, seated, same) = c.loop.invariant in (
      seated ∙ c.requires.seated,
      omega (arith, c.args.desk.now.words),
      subst (λ (me : Me Account View).
          Allows (holds t.key) t.table_id.slots s.id me 0 (λ n. either (n == 0) c.from.result n)
          (tries (step t.table_id.slots 0 0 c.from.result none) me)) (sym same)
          (subst (λ (xs : List (ℕ × Account)).
          Allows (holds t.key) t.table_id.slots s.id (m.0, xs) 0
          (λ n. either (n == 0) c.from.result n)
          (tries (step t.table_id.slots 0 0 c.from.result none) (m.0, xs))) (sym c.requires.bare)
          (may-try t.key m.0 c.requires.single s.id t.table_id.slots
          (step t.table_id.slots 0 0 c.from.result none) c.from.result
          (c.from.ensures ∙ c.requires.number))),
    )
