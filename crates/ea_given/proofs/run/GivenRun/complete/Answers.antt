use Rattle.std.proofs.Common.{refl, subst, sym, ◌∙◌}
use Rattle.std.proofs.lemmas.Result.{on_ok_weaker}
use Rattle.ea_given.specs.Running.{AllRanOut}
use Rattle.ea_given.proofs.Ends.{written}
use Rattle.ea_given.proofs.GivenRuns.{has-completed}
use Rattle.ea_given.proofs.run.GivenRun.complete.Goals as goal

pub returns : goal.returns
returns c =
    let r = c.args.self.now in
    let us = c.complete.new.schedulers in
    let p = c.complete.new.shared in
    on_ok_weaker c.complete.result (λ ran. has-completed r _ refl refl
    (subst (λ xs. AllRanOut r.schedulers.items r.shared xs p)
    (sym (written _ us _ (c.complete.auto.schedulers ∙ c.deref_mut.ensures.len)))
    (subst (λ xs. AllRanOut xs r.shared us p) c.deref_mut.ensures.value ran)))
    c.complete.ensures
