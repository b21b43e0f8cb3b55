use Rattle.std.proofs.lemmas.Result.{IfOk-weaker}
use Rattle.std.proofs.Common.{◌≡◌, subst}
use Rattle.ea_model.specs.Outcome.{plain_outcome}
use Rattle.ea_model.specs.Trace.{IsValidTrace}
use Rattle.ea_gen.specs.Generated.{generated_trace}
use Rattle.ea_machine.specs.Outcome.{outcome_of}
use Rattle.ea_sound.proofs.Plain.{valid-plain}
use Rattle.ea_top.proofs.Texts.{made-outcome}
use Rattle.ea_top.proofs.part.run_generated.Goals as goal

pub returns : goal.returns
returns c =
    let d = c.args.config in
    let t = generated_trace c.args.letter c.args.seed d.schedulers c.args.count in
    let made = c.in_ok-trace.trace in
    let valid = subst (IsValidTrace d.schedulers) c.in_ok-trace.ensures.trace
    (valid-plain d.schedulers made c.in_ok-trace.ensures.valid) in
    IfOk-weaker c.run_given.result (λ o. plain_outcome o ≡ outcome_of d made)
    (λ o. (plain_outcome o ≡ outcome_of d t) × IsValidTrace d.schedulers t)
    (λ o ran. (made-outcome d made t (plain_outcome o) c.in_ok-trace.ensures.trace ran, valid))
    c.run_given.ensures.outcome
