use Rattle.ea_model.proofs.Powers.{Counts}
use Rattle.ea_trials_choice.proofs.plain.powers_up_to.Given as goal

abbrev pub invariant-loop-exponent : goal.invariant-loop-exponent
invariant-loop-exponent l = Counts l.size l.exponent l.count
