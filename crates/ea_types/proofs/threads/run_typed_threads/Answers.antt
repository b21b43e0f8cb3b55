use Rattle.std.proofs.Common.{◌<◌, length, get_or, sym, ◌∙◌, subst}
use Rattle.std.specs.Prelude.{All}
use Rattle.ea_types.specs.Tables.{IsOfValid, RestAt}
use Rattle.ea_types.proofs.Seats.{are-valid, texts-many}
use Rattle.ea_types.proofs.threads.run_typed_threads.Goals as goal

pub seat_all-requires-clause-texts : goal.seat_all-requires-clause-texts
seat_all-requires-clause-texts g c = λ k d less.
    texts-many c.args.config.schedulers (get_or c.args.traces.now k d) (c.requires.given k d less)
    (c.requires.traces k d less)

pub run_all-requires-clause-valid : goal.run_all-requires-clause-valid
run_all-requires-clause-valid g c κs within =
    subst (All IsOfValid) (sym c.deref.ensures.value)
    (are-valid c.args.config c.args.traces.now c.in_ok-boards.field-0.boards.items
    c.requires.config c.requires.traces c.in_ok-boards.ensures.boards)

pub gather_all-requires-clause-rest : goal.gather_all-requires-clause-rest
gather_all-requires-clause-rest g c = λ k b d less.
    let bs = c.in_ok-boards.field-0.boards.items in
    let fs = (get_or c.in_ok-finished.finished.items k d).items in
    subst (λ n. RestAt (get_or bs k b) n fs)
    (c.in_ok-rows.ensures.count ∙ c.in_ok-boards.ensures.count)
    (subst (λ xs. (k < length xs) → RestAt (get_or xs k b) (length c.in_ok-rows.rows.items) fs)
    c.deref-2.ensures.value (λ here. c.in_ok-finished.ensures.rest k b d here) less)
