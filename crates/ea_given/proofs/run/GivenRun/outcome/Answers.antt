use Rattle.std.proofs.Common.{subst, sym, ap, ◌∙◌}
use Rattle.std.proofs.lemmas.Result.{IfOk-weaker}
use Rattle.ea_machine.specs.Outcome as machine
use Rattle.ea_machine.specs.Setup.{setup_of}
use Rattle.ea_machine.specs.Stops.{cut}
use Rattle.ea_mem_shared.specs.Places.{place_at}
use Rattle.ea_outcome.specs.Resting.{StandIn}
use Rattle.ea_given.proofs.GivenRuns.{run-stands}
use Rattle.ea_given.proofs.run.GivenRun.outcome.Goals as goal

pub outcome_of-requires-clause-stand : goal.outcome_of-requires-clause-stand
outcome_of-requires-clause-stand c =
    let r = c.args.self in
    let (d, t, turns, at) = c.requires in
    let taken = cut (setup_of d t).stops turns in (
      taken,
      subst (λ xs. StandIn r.config r.trace.now xs (place_at r.shared.places) r.shared.given taken)
          (sym c.from_vec-schedulers.ensures) (run-stands r d t turns at),
    )

pub returns : goal.returns
returns c = IfOk-weaker c.outcome_of.result _ _ (λ o is. λ d t turns at.
    let r = c.args.self in
    let taken = cut (setup_of d t).stops turns in
    is taken (subst
    (λ xs. StandIn r.config r.trace.now xs (place_at r.shared.places) r.shared.given taken)
    (sym c.from_vec-schedulers.ensures) (run-stands r d t turns at))
    ∙ ap (λ x. machine.outcome (setup_of x r.trace.now) taken) at.config
    ∙ ap (λ x. machine.outcome (setup_of d x) taken) at.trace) c.outcome_of.ensures
