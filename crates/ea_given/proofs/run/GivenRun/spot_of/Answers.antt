use Rattle.ea_given.proofs.NamesHeld.{other-name}
use Rattle.ea_given.proofs.run.GivenRun.spot_of.Goals as goal

pub returns-then-name-self : goal.returns-then-name-self
returns-then-name-self c = other-name c.args.self.now c.args.me c.requires.scheduler c.args.name
    c.if-name-self.true
