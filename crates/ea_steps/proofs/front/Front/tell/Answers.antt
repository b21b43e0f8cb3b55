use Rattle.ea_steps.proofs.Showing.{on-both, told-shows}
use Rattle.ea_steps.proofs.front.Front.tell.Goals as goal

pub returns : goal.returns
returns c = λ setup f g shows one coded changes. on-both c.add.result _ _ _
    (told-shows setup f g c.args.self.now.text.items c.add.new.self.text.items c.args.lines.now
    c.args.self.now.last c.add.new.self.last c.args.group shows one coded changes)
    c.add.ensures.text c.add.ensures.last
