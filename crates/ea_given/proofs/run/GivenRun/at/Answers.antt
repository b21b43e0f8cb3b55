use Rattle.ea_given.proofs.Standing.{is-at}
use Rattle.ea_given.proofs.run.GivenRun.at.Goals as goal

pub returns : goal.returns
returns c = is-at c.args.self.now c.args.me c.requires.scheduler c.scheduler.result.now
    c.scheduler.ensures
