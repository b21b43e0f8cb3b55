use Rattle.std.proofs.Common.{◌≡◌, ◌==◌, get_or, drop}
use Rattle.std.specs.Prelude.{not}
use Rattle.std.specs.List.{find}
use Rattle.ea_trace.proofs.gathering.first_unaddressed.Given as goal

abbrev pub invariant-loop-take : goal.invariant-loop-take
invariant-loop-take l =
    find (λ t. not (t.scheduler == get_or l.names.addressee.items t.name 0))
    (drop l.take-index l.takes)
    ≡ find (λ t. not (t.scheduler == get_or l.names.addressee.items t.name 0)) l.takes
