use Rattle.std.proofs.Common.{sym, subst}
use Rattle.ea_types.specs.Input.{AreGiven}
use Rattle.ea_trials_schedulers.proofs.threads.schedulers_of_two_types_meet.Goals as goal

pub run_typed_threads-requires-clause-given : goal.run_typed_threads-requires-clause-given
run_typed_threads-requires-clause-given g c κs =
    subst AreGiven (sym c.as_slice-traces.ensures) c.in_ok-input.ensures.not_generated
