use Rattle.std.proofs.Common.{◌+◌, drop}
use Rattle.ea_sound.proofs.Texts.{drop-later}
use Rattle.ea_sched.specs.Acting.{ready_of}
use Rattle.ea_sched.proofs.Acts.{finished}
use Rattle.ea_sched.proofs.state.Scheduler.finish.Goals as goal

pub returns-clause-actor : goal.returns-clause-actor
returns-clause-actor c =
    finished (ready_of c.args.self.now) c.args.entry
    (drop (c.args.self.now.done + 1) c.args.self.now.text.now) c.push_within.new.self.items
    (drop-later c.args.self.now.done c.args.self.now.text.now) c.push_within.ensures.items
