use Rattle.std.proofs.Common.{◌≡◌, ℕ, List, drop, length, take, sym, ap, ◌∙◌, subst, ◌++◌}
use Rattle.std.specs.Prelude.{All}
use Rattle.std.proofs.lemmas.Result.{IfOk-weaker}
use Rattle.ea_table.specs.declared.board.Board.{Board}
use Rattle.ea_table.specs.Working.{IsAtWork, IsThrough}
use Rattle.ea_types.specs.Tables.{AreAtRest, AreAtWork, AreFresh}
use Rattle.ea_types.proofs.Growing.{written}
use Rattle.ea_types.proofs.Tabled.{at-work, at-work-on, still-at_work}
use Rattle.ea_types.proofs.at_work.run_scheduler.Goals as goal

pub step_all-requires : goal.step_all-requires
step_all-requires g c =
    let (i, fresh) = c.requires.fresh in
    let ws = c.in_ok-working.working.items in
    record {
      works = subst (All IsAtWork) (sym c.deref_mut.ensures.value)
          (at-work c.args.boards.now i ws (c.in_ok-working.ensures i fresh));
    }

pub finish_all-requires-clause-works : goal.finish_all-requires-clause-works
finish_all-requires-clause-works g c =
    let (i, fresh) = c.requires.fresh in
    let w = c.in_ok-working.working in
    let vs = c.step_all.new.working in
    let on = c.step_all.ensures.works in
    let same : length vs ≡ w.len =
    on.count ∙ ap length c.deref_mut.ensures.value ∙ sym w.ok.0 in
    subst (All IsAtWork) (sym (written w.len vs w.items same))
    (still-at_work c.deref_mut.result.now vs on (subst (All IsAtWork)
    (sym c.deref_mut.ensures.value)
    (at-work c.args.boards.now i w.items (c.in_ok-working.ensures i fresh))))

pub finish_all-requires-clause-through : goal.finish_all-requires-clause-through
finish_all-requires-clause-through g c =
    let w = c.in_ok-working.working in
    let vs = c.step_all.new.working in
    let same : length vs ≡ w.len =
    c.step_all.ensures.works.count ∙ ap length c.deref_mut.ensures.value ∙ sym w.ok.0 in
    subst (All IsThrough) (sym (written w.len vs w.items same)) c.in_ok-step_all.ensures.through

pub returns : goal.returns
returns g c =
    let w = c.in_ok-working.working in
    let vs = c.step_all.new.working in
    let on = c.step_all.ensures.works in
    let bs = c.args.boards.now in
    let same : length vs ≡ w.len =
    on.count ∙ ap length c.deref_mut.ensures.value ∙ sym w.ok.0 in
    IfOk-weaker c.finish_all.result
    (λ fs. (cs : List Board) (j : ℕ)
    → AreAtWork cs j (take w.len (vs ++ drop (length vs) w.items)) → AreAtRest cs j fs.items)
    (λ fs. (j : ℕ) → AreFresh bs j c.args.workers.items → AreAtRest bs j fs.items)
    (λ fs rest j fresh. rest bs j (subst (AreAtWork bs j) (sym (written w.len vs w.items same))
    (at-work-on bs j c.deref_mut.result.now vs (subst (AreAtWork bs j)
    (sym c.deref_mut.ensures.value) (c.in_ok-working.ensures j fresh)) on)))
    c.finish_all.ensures
