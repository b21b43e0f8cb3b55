use Rattle.std.proofs.Common.{refl, subst}
use Rattle.std.proofs.lemmas.Result.{on_ok_weaker}
use Rattle.ea_given.specs.Running.{Took}
use Rattle.ea_given.proofs.GivenRuns.{one-has_taken}
use Rattle.ea_given.proofs.run.GivenRun.take_turns.Goals as goal

pub returns : goal.returns
returns c = on_ok_weaker c.take_turns.result
    (λ took. one-has_taken c.args.self.now _ refl refl c.requires.stands c.args.me
    c.requires.scheduler c.args.count c.index_mut.result.now c.take_turns.new.scheduler refl
    (subst (λ s. Took c.args.count s c.args.self.now.shared c.take_turns.new.scheduler
    c.take_turns.new.shared) c.index_mut.ensures.value took)) c.take_turns.ensures
