use Rattle.std.proofs.Common.{sym, ap, ◌∙◌, List}
use Rattle.std.specs.Prelude.{option_map}
use Rattle.std.specs.Option.{option_and_then}
use Rattle.ea_machine.specs.declared.nodes.Named.{Named}
use Rattle.ea_machine.specs.Outcome.{line_of}
use Rattle.ea_machine.specs.Setup.{setup_of}
use Rattle.ea_machine.specs.Stops.{run_with_stops}
use Rattle.ea_steps.specs.FoundCarriers.{carrier_there, first_number}
use Rattle.ea_steps.specs.Touched.{as_list, carriers_of}
use Rattle.ea_steps.proofs.touched.resized_by.Goals as goal

pub returns-in-Some : goal.returns-in-Some
returns-in-Some c = λ config trace turns stands.
    let setup = setup_of config trace in
    c.line_of.ensures config trace turns stands
    ∙ ap (λ (ns : List Named). option_map line_of
    (option_and_then (carrier_there setup (run_with_stops setup turns))
    (first_number (carriers_of ns))))
    (sym (ap (λ o. as_list o) c.in-Some.is) ∙ c.of_operation.ensures config trace turns stands)
