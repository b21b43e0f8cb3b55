use Rattle.std.proofs.Common.{ℕ, ◌∙◌, subst, arith}
use mathlib.Core.Option.{none}
use Rattle.atomic_table.specs.Table.{step}
use Rattle.ea_segments.specs.declared.calls.Call.{Call}
use Rattle.ea_segments.specs.Requests.{call_of}
use Rattle.ea_segments.specs.Ruling.{acting}
use Rattle.ea_segments.specs.Seating.{Called}
use Rattle.ea_segments.proofs.Calling.{call-scheduler, called, may-give-back}
use Rattle.ea_segments.proofs.pass.Pass.ask.Goals as goal

pub store-requires : goal.store-requires
store-requires g c =
    let t = c.args.desk.now.table.shared in
    let p = c.args.self.now in
    let made : Call = call_of p.number c.args.request c.answer-reply.result in (
      c.lock.ensures.seated ∙ c.requires.seated,
      omega (arith, c.args.desk.now.words),
      may-give-back p.seat.me c.lock.new.seat.me p.bare c.lock.ensures.won c.slot_mut.result.now
          c.answer-reply.new.self c.slot_mut.ensures.value made c.answer-reply.ensures.added
          (call-scheduler p.number c.args.request c.answer-reply.result ∙ p.number_is)
          c.requires.left t.key c.lock.new.seat.id t.table_id.slots
          (step t.table_id.slots 0 0 0 none),
    )

pub returns-clause-called : goal.returns-clause-called
returns-clause-called g c =
    let p = c.args.self.now in
    let q = c.args.request in
    let r = c.answer-reply.result in
    subst (λ (i : ℕ). Called (acting p.seat.me.0) (acting c.store.new.seat.me.0) (call_of i q r))
    p.number_is
    (called p.seat.me c.lock.new.seat.me p.bare c.lock.ensures.won c.slot_mut.result.now
    c.answer-reply.new.self c.slot_mut.ensures.value (call_of p.number q r)
    c.answer-reply.ensures.added (call-scheduler p.number q r ∙ p.number_is) c.requires.left
    c.store.new.seat.me c.store.ensures.2 c.answer-reply.ensures.legal)
