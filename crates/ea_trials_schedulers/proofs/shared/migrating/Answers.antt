use Rattle.std.proofs.Common.{◌≡◌, ap, ◌∙◌}
use Rattle.std.proofs.lemmas.Result.{IfOk-weaker}
use Rattle.ea_machine.specs.Machine.{start}
use Rattle.ea_machine.specs.Owners.{Absent}
use Rattle.ea_machine.specs.Setup.{setup_of}
use Rattle.ea_machine.specs.Shared.{Shared}
use Rattle.ea_trials_schedulers.proofs.Following.{first-absent}
use Rattle.ea_mem_shared.specs.Memory.{shared_of}
use Rattle.ea_mem_shared.specs.Places.{place_at}
use Rattle.ea_trials_schedulers.specs.declared.shared.TheConstants.{MIGRATING}
use Rattle.ea_trials_schedulers.proofs.shared.migrating.Goals as goal

pub returns-clause-absent : goal.returns-clause-absent
returns-clause-absent c =
    let e = setup_of MIGRATING c.trace_of.result in
    IfOk-weaker c.new.result (λ m. shared_of m ≡ (start e).shared)
    (λ m. place_at m.places 2 ≡ Absent)
    (λ m is. ap (λ (s : Shared). s.places 2) is ∙ first-absent MIGRATING c.trace_of.result)
    c.new.ensures.start
