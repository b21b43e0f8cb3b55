use Rattle.std.proofs.Common.{ap, ◌∙◌}
use Rattle.std.proofs.lemmas.Result.{IfOk-weaker}
use Rattle.ea_machine.specs.Outcome.{outcome}
use Rattle.ea_machine.specs.Setup.{setup_of}
use Rattle.ea_contents.proofs.Standing.{uncut}
use Rattle.ea_contents.proofs.session.Session.outcome.Goals as goal

pub returns : goal.returns
returns c = IfOk-weaker c.outcome.result _ _ (λ o tells d t turns lists at.
    tells d t turns at.run ∙ ap (outcome (setup_of d t)) (uncut d t at.stops turns))
    c.outcome.ensures
