use Rattle.std.proofs.Common.{◌≡◌, ℕ, List, ◌<◌, [], ◌∷◌, length, get_or, sym, ap, ◌∙◌, arith}
use Rattle.std.proofs.lemmas.List.{get_or_append_left, length-append}
use Rattle.std.proofs.lemmas.Result.{IfOk-weaker}
use Rattle.std.specs.Mem.Slots.{slots_items}
use Rattle.ea_model.specs.declared.outcome.Outcome.{Outcome}
use Rattle.ea_model.specs.Outcome.{plain_outcome}
use Rattle.ea_machine.specs.Outcome as machine
use Rattle.ea_machine.specs.Setup.{setup_of}
use Rattle.ea_table.specs.declared.worker.Finished.{Finished}
use Rattle.ea_table.specs.Ending.{IsClosedIn, IsEnd}
use Rattle.ea_table.proofs.Gathered.{gathered}
use Rattle.ea_table.proofs.ending.gather.Goals as goal

pub take_in-requires-clause-others : goal.take_in-requires-clause-others
take_in-requires-clause-others c = λ k d less.
    let items = sym c.into_vec-finished.ensures ∙ c.in-Some.ensures.items in
    let size : k < c.args.config.schedulers = omega (
      arith,
      less,
      sym c.requires.all,
      ap length items,
      length-append c.pop.new.self.items (c.in-Some.last ∷ []),
    ) in
    ap (λ (f : Finished). f.pass.seat.table_id)
    (sym (get_or_append_left c.pop.new.self.items (c.in-Some.last ∷ []) d k less)
    ∙ ap (λ xs. get_or xs k d) (sym items))
    ∙ (c.requires.each k d size).seated

pub outcome_of_closed-outcome-requires-clause-stand :
    goal.outcome_of_closed-outcome-requires-clause-stand
outcome_of_closed-outcome-requires-clause-stand c =
    let b = c.args.board in
    let (turns, steps, within, closed, actors, left, knew) = gathered c.args.config c.args.trace.now
    c.requires.config c.requires.trace b.table.shared.key c.requires.key_config
    c.requires.key_trace b.table.shared.table_id
    c.args.finished.items c.requires.all c.requires.each c.pop.new.self.items c.in-Some.last
    (sym c.into_vec-finished.ensures ∙ c.in-Some.ensures.items) c.in_ok-seat.field-0.seat.id
    c.in_ok-seat.field-0.seat.me.0 c.in_ok-seat.ensures.view
    (slots_items c.close_with-closed.result.words) (slots_items c.close_with-closed.result.slots)
    c.close_with-closed.ensures.values.2
    c.in_ok-seat.field-0.schedulers.items c.push.new.self.items
    c.in_ok-push.ensures.ok c.in_ok-seat.ensures.schedulers in
    (turns, closed)

pub returns : goal.returns
returns c =
    let b = c.args.board in
    let ws = slots_items c.close_with-closed.result.words in
    let xs = slots_items c.close_with-closed.result.slots in
    let e = setup_of c.args.config c.args.trace.now in
    let (turns, steps, within, closed, actors, left, knew) = gathered c.args.config c.args.trace.now
    c.requires.config c.requires.trace b.table.shared.key c.requires.key_config
    c.requires.key_trace b.table.shared.table_id
    c.args.finished.items c.requires.all c.requires.each c.pop.new.self.items c.in-Some.last
    (sym c.into_vec-finished.ensures ∙ c.in-Some.ensures.items) c.in_ok-seat.field-0.seat.id
    c.in_ok-seat.field-0.seat.me.0 c.in_ok-seat.ensures.view ws xs
    c.close_with-closed.ensures.values.2
    c.in_ok-seat.field-0.schedulers.items c.push.new.self.items
    c.in_ok-push.ensures.ok c.in_ok-seat.ensures.schedulers in
    IfOk-weaker c.outcome_of_closed-outcome.result
    (λ (o : Outcome). (turns : List ℕ)
    → IsClosedIn c.args.config c.args.trace.now c.push.new.self.items ws xs turns
    → plain_outcome o ≡ machine.outcome e turns)
    (IsEnd c.args.config c.args.trace.now c.args.finished.items)
    (λ o is. record {
      turns = turns;
      steps = steps;
      within = within;
      actors = actors;
      left = left;
      knew = knew;
      printed = is turns closed;
    }) c.outcome_of_closed-outcome.ensures
