use Rattle.std.proofs.Common.{refl, subst, arith}
use Rattle.ea_given.specs.Running.{Took}
use Rattle.ea_given.proofs.GivenRuns.{one-has_taken}
use Rattle.ea_given.proofs.Running.{took-count}
use Rattle.ea_given.proofs.run.GivenRun.turn.Goals as goal

pub returns : goal.returns
returns c =
    let count = c.in_ok-step_some.field-0 in
    let did = c.in_ok-step_some.ensures in
    one-has_taken c.args.self.now _ refl refl c.requires.stands c.args.me c.requires.scheduler 1
    c.index_mut.result.now c.step_some.new.scheduler refl
    (subst (λ s. Took 1 s c.args.self.now.shared c.step_some.new.scheduler c.step_some.new.shared)
    c.index_mut.ensures.value (took-count _ _ _ _ count 1 (omega (arith, did.few)) did.took))
