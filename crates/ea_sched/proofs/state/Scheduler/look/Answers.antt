use Rattle.ea_machine.specs.Rows.{Saw}
use Rattle.ea_sched.proofs.CarrierCalling.{look-carrier, own-settings, saw-block}
use Rattle.ea_sched.proofs.StandsOn.{moves-on, stands-on}
use Rattle.ea_sched.proofs.state.Scheduler.look.Goals as goal

pub look-seen-requires-clause-migrates : goal.look-seen-requires-clause-migrates
look-seen-requires-clause-migrates g c =
    moves-on c.args.self.now c.requires.starts.row (λ off. off)

pub look-seen-requires-clause-carrier : goal.look-seen-requires-clause-carrier
look-seen-requires-clause-carrier g c = look-carrier c.args.self.now c.requires.starts.row

pub looked-requires-clause-block : goal.looked-requires-clause-block
looked-requires-clause-block g c =
    saw-block c.args.self.now c.requires.starts.row c.look-seen.result c.look-seen.ensures.row

pub looked-requires-clause-settings : goal.looked-requires-clause-settings
looked-requires-clause-settings g c = own-settings c.args.self.now c.requires.starts.row.ready

pub looked-requires-clause-on : goal.looked-requires-clause-on
looked-requires-clause-on g c =
    stands-on c.args.self.now c.requires.starts.row.ready (λ off. off)

pub returns-clause-row : goal.returns-clause-row
returns-clause-row g c = record {
  got = Saw c.look-seen.result;
  did = c.look-seen.ensures.row;
  is = c.looked.ensures.turned;
}
