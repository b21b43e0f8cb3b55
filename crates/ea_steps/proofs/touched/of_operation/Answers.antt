use Rattle.std.proofs.Common.{sym, ap, ◌∙◌}
use Rattle.ea_machine.specs.Setup.{setup_of}
use Rattle.ea_machine.specs.Stops.{run_with_stops}
use Rattle.ea_steps.proofs.NotedNames.{operation-held}
use Rattle.ea_steps.specs.Touched.{as_list}
use Rattle.ea_steps.proofs.touched.of_operation.Goals as goal

pub returns : goal.returns
returns c = λ config trace turns stands.
    operation-held ((run_with_stops (setup_of config trace) turns).actors c.args.me)
    c.in_ok-name.name c.in_ok-spot.spot
    (sym (ap (λ o. as_list o) c.in_ok-name.was) ∙ c.freed_name.ensures config trace turns stands)
    (sym c.in_ok-spot.was ∙ c.spot_of.ensures config trace turns stands)
