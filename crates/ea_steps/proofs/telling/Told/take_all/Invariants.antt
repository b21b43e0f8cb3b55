use Rattle.std.proofs.Common.{ℕ, List, ◌++◌}
use Rattle.std.specs.Prelude.{replicate}
use Rattle.ea_model.specs.declared.settings.Config.{Config}
use Rattle.ea_model.specs.declared.trace.Trace.{Trace}
use Rattle.ea_machine.specs.Setup.{setup_of}
use Rattle.ea_given.specs.Runs.{StandsAfter, left_in}
use Rattle.ea_steps.specs.Told.{CountsAll, IsTold}
use Rattle.ea_steps.proofs.ToldRuns.{Leading}
use Rattle.ea_steps.proofs.telling.Told.take_all.Given as goal

abbrev pub invariant-loop-alloc : goal.invariant-loop-alloc
invariant-loop-alloc l = ((c : Config) (t : Trace) (turns : List ℕ)
    → StandsAfter c t turns l.initial.run
    → (n : ℕ) × StandsAfter c t (turns ++ replicate n l.me) l.run
    × (IsTold (setup_of c t) turns l.initial.self
    → IsTold (setup_of c t) (turns ++ replicate n l.me) l.self)
    × Leading (setup_of c t) turns l.me n)
    × CountsAll l.self l.run

abbrev pub decreases-loop-alloc : goal.decreases-loop-alloc
decreases-loop-alloc l = left_in l.me l.run
