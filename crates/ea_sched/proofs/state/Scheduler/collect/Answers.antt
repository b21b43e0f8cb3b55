use Rattle.std.proofs.Common.{ap, ◌∙◌}
use Rattle.std.specs.Prelude.{Some}
use Rattle.ea_model.specs.Employment.{disowning}
use Rattle.ea_machine.specs.Rows.{Home}
use Rattle.ea_search.specs.Rooms.{RoomyLists}
use Rattle.ea_sched.specs.Acting.{standing_at}
use Rattle.ea_sched.proofs.CarrierCalling.{collect-carrier, collect-mine, collect-none, collect-own}
use Rattle.ea_sched.proofs.CarrierCalling.{collect-returned, collects, listed-once}
use Rattle.ea_sched.proofs.StandsOn.{moves-on}
use Rattle.ea_sched.proofs.state.Scheduler.collect.Goals as goal

pub clear_returned-requires-clause-migrates : goal.clear_returned-requires-clause-migrates
clear_returned-requires-clause-migrates g c =
    moves-on c.args.self.now c.requires.starts (λ off. off)

pub clear_returned-requires-clause-carrier : goal.clear_returned-requires-clause-carrier
clear_returned-requires-clause-carrier g c = collect-carrier c.args.self.now c.requires.starts

pub clear_returned-requires-clause-own : goal.clear_returned-requires-clause-own
clear_returned-requires-clause-own g c = collect-mine c.args.self.now c.requires.starts

pub clear_returned-requires-clause-returned : goal.clear_returned-requires-clause-returned
clear_returned-requires-clause-returned g c = collect-returned c.args.self.now c.requires.starts

pub clear_returned-requires-clause-collects : goal.clear_returned-requires-clause-collects
clear_returned-requires-clause-collects g c = collects c.args.self.now c.requires.starts

pub disown-requires-clause-own : goal.disown-requires-clause-own
disown-requires-clause-own g c = collect-own c.args.self.now c.requires.starts

pub disown-requires-clause-not_here : goal.disown-requires-clause-not_here
disown-requires-clause-not_here g c = collect-none c.args.self.now c.requires.starts

pub remove-requires : goal.remove-requires
remove-requires g c = record {
  once = listed-once c.args.self.now c.requires.starts.ready c.args.number;
}

pub returns-clause-row : goal.returns-clause-row
returns-clause-row g c = record {
  got = Home (Some c.clear_returned.result);
  did = c.clear_returned.ensures.row;
  is = λ at. ap (λ i. record (standing_at at c.args.self.now) {
    instance = i;
    lists = c.remove.new.self.lists;
  }) (c.discard.ensures ∙ c.disown.ensures)
      ∙ ap (λ (l : RoomyLists). record (standing_at at c.args.self.now) {
        instance = disowning c.args.self.now.instance c.args.number;
        lists = l.lists;
      }) c.remove.ensures.lists;
}
