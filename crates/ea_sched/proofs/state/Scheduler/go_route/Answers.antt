use Rattle.std.proofs.lemmas.Result.{on_err_weaker, on_ok_weaker}
use Rattle.ea_sched.proofs.Carrying.{task-more, turned-counts, turned-done, turned-plans}
use Rattle.ea_sched.proofs.Carrying.{works-over}
use Rattle.ea_sched.proofs.state.Scheduler.go_route.Goals as goal

pub route_row-turned-requires : goal.route_row-turned-requires
route_row-turned-requires g c = record {
  starts = record { why = c.args.why; row = c.requires.starts };
}

pub carry-requires-clause-walk : goal.carry-requires-clause-walk
carry-requires-clause-walk g c = works-over c.args.self.now c.route_row-turned.new.self
    c.route_row-turned.ensures.same c.args.route c.args.why c.args.gone c.requires.starts.ready
    c.route_row-turned.result c.route_row-turned.ensures.row

pub carry-requires-clause-more : goal.carry-requires-clause-more
carry-requires-clause-more g c = task-more c.args.self.now c.route_row-turned.new.self
    c.route_row-turned.ensures.same c.args.route c.args.why c.args.gone c.requires.starts.ready
    c.route_row-turned.result c.route_row-turned.ensures.row

pub carry-requires-clause-counts : goal.carry-requires-clause-counts
carry-requires-clause-counts g c = turned-counts c.args.self.now c.route_row-turned.new.self
    c.route_row-turned.ensures.same c.args.route c.args.why c.args.gone c.requires.starts.ready
    c.route_row-turned.result c.route_row-turned.ensures.row

pub returns-clause-row : goal.returns-clause-row
returns-clause-row g c = on_ok_weaker c.carry.result
    (turned-done c.args.self.now c.route_row-turned.new.self
    c.route_row-turned.ensures.same c.args.route c.args.why c.args.gone c.requires.starts.ready
    c.route_row-turned.result c.route_row-turned.ensures.row c.carry.new.self)
    c.carry.ensures.actor

pub returns-clause-memory : goal.returns-clause-memory
returns-clause-memory g c = on_err_weaker c.carry.result
    (turned-plans c.args.self.now c.route_row-turned.new.self
    c.route_row-turned.ensures.same c.args.route c.args.why c.args.gone c.requires.starts.ready
    c.route_row-turned.result c.route_row-turned.ensures.row)
    c.carry.ensures.memory
