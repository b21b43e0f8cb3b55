use Rattle.std.proofs.Common.{refl, subst, sym, ◌∙◌}
use Rattle.std.proofs.lemmas.Result.{on_ok_weaker}
use Rattle.ea_sound.proofs.Schedules.{turns_from}
use Rattle.ea_given.specs.Running.{AllTook}
use Rattle.ea_given.proofs.Ends.{written}
use Rattle.ea_given.proofs.GivenRuns.{has-taken}
use Rattle.ea_given.proofs.run.GivenRun.take.Goals as goal

pub returns : goal.returns
returns c =
    let r = c.args.self.now in
    let us = c.run_schedule.new.schedulers in
    let p = c.run_schedule.new.shared in
    let turns = turns_from c.args.schedule.now in
    on_ok_weaker c.run_schedule.result (λ took. has-taken r _ refl refl turns
    (subst (λ xs. AllTook turns r.schedulers.items r.shared xs p)
    (sym (written _ us _ (c.run_schedule.auto.schedulers ∙ c.deref_mut.ensures.len)))
    (subst (λ xs. AllTook turns xs r.shared us p) c.deref_mut.ensures.value took)))
    c.run_schedule.ensures
