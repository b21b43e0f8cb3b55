use Rattle.std.proofs.Common.{ℕ, List, ◌++◌}
use Rattle.ea_model.specs.declared.settings.Config.{Config}
use Rattle.ea_model.specs.declared.trace.Trace.{Trace}
use Rattle.ea_types.specs.Courses.{types_of}
use Rattle.ea_types.specs.Given.{StandsAfter}
use Rattle.ea_types.specs.Given.{all_left}
use Rattle.ea_types.specs.Turning.{finishing, stands_after}
use Rattle.ea_types.proofs.Completions.{LeadsTo}
use Rattle.ea_types.proofs.given.TypedRun.finish.Given as goal

abbrev pub invariant-loop-next : goal.invariant-loop-next
invariant-loop-next l = (c : Config) (other : Trace) (traces : List Trace) (parts : List (List ℕ))
    (turns : List ℕ) → StandsAfter c other traces parts turns l.initial.self
    → (let t = types_of c other traces parts in (now : List ℕ)
    × StandsAfter c other traces parts now l.self
    × LeadsTo t l.me (turns ++ finishing t (stands_after t turns) l.me) now)

abbrev pub decreases-loop-next : goal.decreases-loop-next
decreases-loop-next l = all_left l.me l.self
