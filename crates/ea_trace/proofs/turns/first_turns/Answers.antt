use Rattle.ea_trace.proofs.Spaced.{one_turn}
use Rattle.ea_trace.proofs.turns.first_turns.Goals as goal

pub returns-in-Some-clause-turns : goal.returns-in-Some-clause-turns
returns-in-Some-clause-turns c = one_turn c.in-Some.scheduler c.args.line.now
    c.in-Some.rest.now c.in-Some.ensures.begins
