use Rattle.std.proofs.Common.{ℕ, List}
use Rattle.ea_model.specs.declared.settings.Config.{Config}
use Rattle.ea_model.specs.declared.trace.Trace.{Trace}
use Rattle.ea_machine.specs.Setup.{setup_of}
use Rattle.ea_given.specs.Runs.{StandsAfter}
use Rattle.ea_steps.specs.Told.{CountsAll, IsTold}
use Rattle.ea_steps.proofs.StepLists.{Completes}
use Rattle.ea_steps.proofs.telling.Told.complete.Given as goal

abbrev pub invariant-loop-before : goal.invariant-loop-before
invariant-loop-before l = ((c : Config) (t : Trace) (turns : List ℕ)
    → StandsAfter c t turns l.initial.run
    → (taken : List ℕ) × StandsAfter c t taken l.run
    × (IsTold (setup_of c t) turns l.initial.self → IsTold (setup_of c t) taken l.self)
    × Completes (setup_of c t) turns l.before taken)
    × CountsAll l.self l.run
