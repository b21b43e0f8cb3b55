use Rattle.std.proofs.Common.{ap, ◌∙◌}
use Rattle.ea_machine.specs.State.{State}
use Rattle.ea_contents.specs.Model.{done}
use Rattle.ea_contents.proofs.Standing.{unstopped}
use Rattle.ea_contents.proofs.session.Session.done.Goals as goal

pub returns : goal.returns
returns c = λ d t turns lists at. c.done.ensures d t turns at.run
    ∙ ap (λ (w : State). done w c.args.me) (unstopped d t at.stops turns)
