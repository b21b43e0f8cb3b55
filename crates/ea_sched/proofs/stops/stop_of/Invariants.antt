use Rattle.std.proofs.Common.{◌≡◌, drop}
use Rattle.ea_model.specs.Trace.{stop_in}
use Rattle.ea_sched.proofs.stops.stop_of.Given as goal

abbrev pub invariant-loop-stop : goal.invariant-loop-stop
invariant-loop-stop l = stop_in (drop l.stop-index l.stops) l.number ≡ stop_in l.stops l.number
