use Rattle.std.proofs.Common.{◌∙◌}
use Rattle.ea_steps.proofs.Showing.{closed-shows}
use Rattle.ea_steps.proofs.front.Front.finish.Goals as goal

pub returns : goal.returns
returns c = λ setup f shows. c.in_ok-close.ensures
    ∙ closed-shows setup f c.args.self.text.items c.args.self.last shows
