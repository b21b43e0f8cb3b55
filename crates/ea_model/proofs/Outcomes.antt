-- An outcome as a definition answers it has the same logs.
use Rattle.std.proofs.Common.{◌≡◌, ◌∙◌}
use Rattle.std.proofs.lemmas.List.{map-id}
use Rattle.std.proofs.lemmas.Simd.{map-map}
use Rattle.ea_model.specs.declared.outcome.Outcome.{Outcome}
use Rattle.ea_model.specs.Outcome.{logs_of, plain_outcome}
use Rattle.ea_model.specs.Trace.{listed}

pub same-logs : (o : Outcome) → logs_of (plain_outcome o) ≡ logs_of o
same-logs o = map-map (λ log. log.items) listed (logs_of o) ∙ map-id (logs_of o)
