use Rattle.std.proofs.Common.{subst, sym, ap, ◌∙◌}
use Rattle.std.proofs.lemmas.Result.{IfOk-weaker}
use Rattle.ea_machine.specs.Setup.{setup_of}
use Rattle.ea_machine.specs.Machine.{run}
use Rattle.ea_machine.specs.Stops.{cut}
use Rattle.ea_mem_shared.specs.Places.{place_at}
use Rattle.ea_outcome.specs.Layouts.{layouts_in}
use Rattle.ea_outcome.specs.Resting.{StandIn}
use Rattle.ea_given.proofs.GivenRuns.{run-stands}
use Rattle.ea_given.proofs.run.GivenRun.layouts.Goals as goal

pub layouts_of-requires-clause-stand : goal.layouts_of-requires-clause-stand
layouts_of-requires-clause-stand c =
    let r = c.args.self.now in
    let (d, t, turns, at) = c.requires in
    let taken = cut (setup_of d t).stops turns in (
      taken,
      subst (λ xs. StandIn r.config r.trace.now xs (place_at r.shared.places) r.shared.given taken)
          (sym c.deref.ensures.value) (run-stands r d t turns at),
    )

pub returns : goal.returns
returns c = IfOk-weaker c.layouts_of.result _ _ (λ ls are. λ d t turns at.
    let r = c.args.self.now in
    let taken = cut (setup_of d t).stops turns in
    are taken (subst
    (λ xs. StandIn r.config r.trace.now xs (place_at r.shared.places) r.shared.given taken)
    (sym c.deref.ensures.value) (run-stands r d t turns at))
    ∙ ap (λ x. layouts_in (setup_of x r.trace.now) (run (setup_of x r.trace.now) taken)) at.config
    ∙ ap (λ x. layouts_in (setup_of d x) (run (setup_of d x) taken)) at.trace) c.layouts_of.ensures
