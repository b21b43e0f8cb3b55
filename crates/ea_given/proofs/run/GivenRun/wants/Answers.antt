use Rattle.ea_given.proofs.Standing.{wanted-told}
use Rattle.ea_given.proofs.run.GivenRun.wants.Goals as goal

pub returns : goal.returns
returns c = wanted-told c.args.self.now c.args.me c.requires.scheduler c.scheduler.result.now
    c.scheduler.ensures c.wants.result c.wants.ensures
