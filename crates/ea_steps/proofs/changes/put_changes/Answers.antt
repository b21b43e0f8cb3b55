use Rattle.std.proofs.Common.{[], ◌∷◌, ◌++◌, true, false, ap, sym}
use Rattle.std.proofs.lemmas.List.{append-nil}
use Rattle.ea_model.specs.declared.logs.Log.{Log}
use Rattle.ea_sched.specs.Acting.{stop_entries}
use Rattle.ea_steps.proofs.ToldChanges.{log-within, told-step}
use Rattle.ea_steps.proofs.changes.put_changes.Goals as goal

pub put_log-requires : goal.put_log-requires
put_log-requires c =
    let (d, t, turns, at, takes, noted) = c.requires.stepped in
    log-within c.args.me c.args.touched.now c.args.run.now d t turns at takes noted
    c.put_all_released.new.touched c.in_ok-put_all_released.ensures.others
    c.at-scheduler.result.now (c.at-scheduler.ensures d t (turns ++ c.args.me ∷ []) at)
    c.log.result.now.items (ap (λ (l : Log). l.items) c.log.ensures)

pub returns-in_ok-put_ended : goal.returns-in_ok-put_ended
returns-in_ok-put_ended c = λ d t turns at takes noted.
    let then = turns ++ c.args.me ∷ [] in
    told-step c.args.me c.args.touched.now c.args.run.now d t turns at takes noted
    c.put_all_released.new.touched c.in_ok-put_all_released.ensures.others
    c.at-scheduler.result.now (c.at-scheduler.ensures d t then at)
    c.log.result.now.items (ap (λ (l : Log). l.items) c.log.ensures)
    c.made-made.result (c.made-made.ensures d t turns at takes noted)
    c.deref.result.now c.sort_unstable.new.self.items c.deref.ensures.value
    c.sort_unstable.ensures.permutation c.sort_unstable.ensures.sorted
    (stop_entries c.stopped_after-stopped.result) c.stopped_after-stopped.ensures
    true c.if-ended.ensures
    c.args.text.now.items c.put_all_released.new.text.items c.put_all_gone.new.text.items
    c.put_shrunk_if.new.text.items c.put_made_if.new.text.items c.put_log.new.text.items
    c.put_ended.new.text.items
    (c.in_ok-put_all_released.ensures.lines d t turns at takes noted)
    (c.in_ok-put_all_gone.ensures d t then at)
    (c.in_ok-put_shrunk_if.ensures d t then at)
    (c.in_ok-put_made_if.ensures d t then at)
    c.in_ok-put_log.ensures c.in_ok-put_ended.ensures

pub returns-else-ended : goal.returns-else-ended
returns-else-ended c = λ d t turns at takes noted.
    let then = turns ++ c.args.me ∷ [] in
    told-step c.args.me c.args.touched.now c.args.run.now d t turns at takes noted
    c.put_all_released.new.touched c.in_ok-put_all_released.ensures.others
    c.at-scheduler.result.now (c.at-scheduler.ensures d t then at)
    c.log.result.now.items (ap (λ (l : Log). l.items) c.log.ensures)
    c.made-made.result (c.made-made.ensures d t turns at takes noted)
    c.deref.result.now c.sort_unstable.new.self.items c.deref.ensures.value
    c.sort_unstable.ensures.permutation c.sort_unstable.ensures.sorted
    (stop_entries c.stopped_after-stopped.result) c.stopped_after-stopped.ensures
    false c.if-ended.ensures
    c.args.text.now.items c.put_all_released.new.text.items c.put_all_gone.new.text.items
    c.put_shrunk_if.new.text.items c.put_made_if.new.text.items c.put_log.new.text.items
    c.put_log.new.text.items
    (c.in_ok-put_all_released.ensures.lines d t turns at takes noted)
    (c.in_ok-put_all_gone.ensures d t then at)
    (c.in_ok-put_shrunk_if.ensures d t then at)
    (c.in_ok-put_made_if.ensures d t then at)
    c.in_ok-put_log.ensures (sym (append-nil c.put_log.new.text.items))
