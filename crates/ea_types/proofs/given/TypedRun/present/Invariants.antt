use Rattle.std.proofs.Common.{ℕ, List, ◌-◌}
use Rattle.ea_model.specs.declared.settings.Config.{Config}
use Rattle.ea_model.specs.declared.trace.Trace.{Trace}
use Rattle.ea_types.specs.Courses.{types_of}
use Rattle.ea_types.specs.Given.{StandsAfter}
use Rattle.std.proofs.Common.{[], get_or}
use Rattle.ea_types.specs.Turning.{stands_after}
use Rattle.ea_types.proofs.Nexts.{ArePassed}
use Rattle.ea_types.proofs.given.TypedRun.present.Given as goal

abbrev pub invariant-loop-place : goal.invariant-loop-place
invariant-loop-place l = (c : Config) (other : Trace) (traces : List Trace)
    (parts : List (List ℕ)) (turns : List ℕ) → StandsAfter c other traces parts turns l.self
    → (let p = stands_after (types_of c other traces parts) turns in
    ArePassed p.states l.me (p.lines l.me) (get_or parts (l.me - 1) []) l.place)
