use Rattle.std.proofs.Common.{subst}
use Rattle.std.specs.Prelude.{IfOk}
use Rattle.ea_model.specs.Trace.{IsValidTrace}
use Rattle.ea_recorded.specs.Language.{words_of}
use Rattle.ea_recorded.proofs.sections.TraceLines.finish.Goals as goal

pub returns-in-Ok-clause-valid : goal.returns-in-Ok-clause-valid
returns-in-Ok-clause-valid c = λ n ls h.
    subst (λ r. IfOk r (IsValidTrace n)) c.in-Ok.is (c.finish.ensures.valid n (words_of ls) h.taken)
