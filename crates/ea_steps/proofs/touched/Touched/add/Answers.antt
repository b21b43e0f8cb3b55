use Rattle.std.proofs.Common.{[], ◌∷◌}
use Rattle.std.proofs.lemmas.Result.{on_ok_weaker}
use Rattle.ea_machine.specs.Setup.{setup_of}
use Rattle.ea_machine.specs.Stops.{run_with_stops}
use Rattle.ea_steps.proofs.NotedNames.{adds-more}
use Rattle.ea_steps.proofs.touched.Touched.add.Goals as goal

pub returns : goal.returns
returns c = on_ok_weaker c.add_carrier.result (λ then config trace turns stands.
    let setup = setup_of config trace in
    let named = c.args.named in
    adds-more setup (run_with_stops setup turns) (named ∷ []) [] [] (named.spot.carrier ∷ [])
    c.args.self.now c.add_block.new.self c.add_carrier.new.self
    (c.in_ok-add_block.ensures config trace turns stands) (then config trace turns stands))
    c.add_carrier.ensures
