use Rattle.std.proofs.Common.{◌≡◌, true, false, sym, ap, ◌∙◌}
use Rattle.ea_model.specs.Content.{is_nil}
use Rattle.ea_machine.specs.Releases.{leaving, settled, struck}
use Rattle.ea_search.specs.Rooms.{RoomyLists}
use Rattle.ea_machine.specs.Rows.{Done}
use Rattle.ea_sched.specs.Acting.{setup_for, standing_at}
use Rattle.ea_sched.proofs.CarrierCalling.{listed-once, settle-busy, settle-carrier, settle-for}
use Rattle.ea_sched.proofs.CarrierCalling.{settle-many, settle-wanted}
use Rattle.ea_sched.proofs.StandsOn.{moves-on, stands-on}
use Rattle.ea_sched.proofs.state.Scheduler.settle.Goals as goal

pub settle_employed-requires-clause-migrates : goal.settle_employed-requires-clause-migrates
settle_employed-requires-clause-migrates g c =
    moves-on c.args.self.now c.requires.starts.row (λ off. off)

pub settle_employed-requires-clause-carrier : goal.settle_employed-requires-clause-carrier
settle_employed-requires-clause-carrier g c =
    settle-carrier c.args.self.now c.requires.starts.row c.number-number.ensures

pub settle_employed-requires-clause-busy : goal.settle_employed-requires-clause-busy
settle_employed-requires-clause-busy g c =
    settle-busy c.args.self.now c.requires.starts.row c.number-number.ensures

pub remove-requires : goal.remove-requires
remove-requires g c = record {
  once = listed-once c.args.self.now c.requires.starts.row.ready c.number-number.result;
}

pub leave-requires : goal.leave-requires
leave-requires g c = stands-on c.args.self.now c.requires.starts.row.ready (λ off. off)

pub returns-then-is_empty-clause-row : goal.returns-then-is_empty-clause-row
returns-then-is_empty-clause-row g c =
    let s = c.args.self.now in
    let x = c.args.content in
    let empty = c.is_empty.ensures.0 c.if-is_empty.true in
    record {
      got = Done;
      did = c.settle_employed.ensures.row x
          (record { number = sym c.number-number.ensures; empty = empty })
          (settle-wanted s c.requires.starts.row);
      is = λ at. c.leave.ensures (record (standing_at at s) { lists = c.remove.new.self.lists })
          ∙ ap (λ (l : RoomyLists). leaving (setup_for s) s.number x c.args.gone
          (record (standing_at at s) { lists = l.lists })) c.remove.ensures.lists
          ∙ ap (λ n. leaving (setup_for s) s.number x c.args.gone (struck n (standing_at at s)))
          c.number-number.ensures
          ∙ ap (λ b. settled (setup_for s) s.number b x c.args.gone (standing_at at s))
          (sym (ap is_nil empty));
    }

pub into_multi-carrier-requires : goal.into_multi-carrier-requires
into_multi-carrier-requires g c = settle-many c.args.self.now c.requires.starts.row

pub settle_pooled-requires-clause-migrates : goal.settle_pooled-requires-clause-migrates
settle_pooled-requires-clause-migrates g c =
    moves-on c.args.self.now c.requires.starts.row (λ off. off)

pub settle_pooled-requires-clause-carrier : goal.settle_pooled-requires-clause-carrier
settle_pooled-requires-clause-carrier g c =
    settle-carrier c.args.self.now c.requires.starts.row c.number-number.ensures

pub settle_pooled-requires-clause-busy : goal.settle_pooled-requires-clause-busy
settle_pooled-requires-clause-busy g c =
    settle-busy c.args.self.now c.requires.starts.row c.number-number.ensures

pub settle_pooled-requires-clause-content : goal.settle_pooled-requires-clause-content
settle_pooled-requires-clause-content g c = settle-for c.args.self.now c.requires.starts.row
    c.number-number.ensures c.into_multi-carrier.ensures
    (λ none. let no : false ≡ true = sym c.if-is_empty.false ∙ c.is_empty.ensures.1 none in cc)
    c.largest-largest.ensures
