use Rattle.std.proofs.Common.{refl, subst}
use Rattle.std.proofs.lemmas.Result.{IfOk-weaker}
use Rattle.ea_mem_shared.specs.Memory.{told_of}
use Rattle.ea_sched.specs.Looks.{IsQuiet, PassesLooks}
use Rattle.ea_given.specs.Running.{Took}
use Rattle.ea_given.proofs.GivenRuns.{both-ok, one-has_taken, stays-in_operation}
use Rattle.ea_given.proofs.LooksTold.{looks-told}
use Rattle.ea_given.proofs.run.GivenRun.turns.Goals as goal

pub returns-clause-taken : goal.returns-clause-taken
returns-clause-taken c = IfOk-weaker c.step_some.result _ _
    (λ count took. one-has_taken c.args.self.now _ refl refl c.requires.stands c.args.me
    c.requires.scheduler count c.index_mut.result.now c.step_some.new.scheduler refl
    (subst (λ s. Took count s c.args.self.now.shared c.step_some.new.scheduler
    c.step_some.new.shared) c.index_mut.ensures.value took)) c.step_some.ensures.took

pub returns-clause-looks : goal.returns-clause-looks
returns-clause-looks c = both-ok _ _ _ c.step_some.result
    (λ count taken quiet. λ many. stays-in_operation c.args.self.now _ refl refl
    c.requires.stands c.args.me c.requires.scheduler count c.index_mut.result.now
    c.step_some.new.scheduler refl taken
    (subst (λ s. IsQuiet s c.step_some.new.scheduler) c.index_mut.ensures.value (quiet many)))
    (returns-clause-taken c) c.step_some.ensures.quiet

pub returns-clause-passed : goal.returns-clause-passed
returns-clause-passed c = IfOk-weaker c.step_some.result _ _
    (λ count uncounted. λ many. looks-told c.args.self.now c.args.me count c.requires.scheduler
    c.index_mut.result.now
    (subst (λ s. PassesLooks count s (told_of c.args.self.now.shared)) c.index_mut.ensures.value
    (uncounted many))) c.step_some.ensures.uncounted
