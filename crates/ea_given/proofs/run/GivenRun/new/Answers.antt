use Rattle.std.proofs.Common.{refl}
use Rattle.ea_given.proofs.Ends.{start-shares}
use Rattle.ea_given.proofs.GivenRuns.{new-stands}
use Rattle.ea_given.proofs.run.GivenRun.new.Goals as goal

pub returns : goal.returns
returns c =
    let d = c.args.config in
    let t = c.args.trace.now in
    let new = c.in_ok-shared.ensures in
    new-stands d t _ refl refl
    (start-shares d t c.in_ok-shared.shared c.requires.config c.requires.trace new.schedulers
    new.greatest new.migrates new.start) c.in_ok-schedulers.ensures
