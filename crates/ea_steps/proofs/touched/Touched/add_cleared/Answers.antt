use Rattle.std.proofs.Common.{sym, ap, subst, []}
use Rattle.std.proofs.lemmas.Result.{on_ok_weaker}
use Rattle.ea_machine.specs.Setup.{setup_of}
use Rattle.ea_machine.specs.Stops.{run_with_stops}
use Rattle.ea_steps.specs.Noting.{Adds, clears_told}
use Rattle.ea_steps.proofs.touched.Touched.add_cleared.Goals as goal

pub returns-in-Clear : goal.returns-in-Clear
returns-in-Clear c = on_ok_weaker c.add_carrier.result (λ then config trace turns stands.
    let setup = setup_of config trace in
    let w = run_with_stops setup turns in
    subst (λ ns. Adds setup w [] ns c.args.self.now c.add_carrier.new.self)
    (sym (ap (λ x. clears_told x) c.in-Clear.is)) (then config trace turns stands))
    c.add_carrier.ensures
