use Rattle.std.proofs.Common.{ℕ, List}
use Rattle.ea_model.specs.declared.settings.Config.{Config}
use Rattle.ea_model.specs.declared.trace.Trace.{Trace}
use Rattle.ea_types.specs.Courses.{types_of}
use Rattle.ea_types.specs.Given.{StandsAfter}
use Rattle.ea_types.specs.Turning.{complete}
use Rattle.ea_types.proofs.Completions.{CompletesTo}
use Rattle.ea_types.proofs.given.TypedRun.complete.Given as goal

abbrev pub invariant-loop-before : goal.invariant-loop-before
invariant-loop-before l = (c : Config) (other : Trace) (traces : List Trace)
    (parts : List (List ℕ)) (turns : List ℕ)
    → StandsAfter c other traces parts turns l.initial.self
    → (let t = types_of c other traces parts in (now : List ℕ)
    × StandsAfter c other traces parts now l.self × CompletesTo t (complete t turns) now l.before)
