use Rattle.std.proofs.Common.{ap, ◌∙◌, subst}
use Rattle.ea_machine.specs.Rows.{Abandon, Done}
use Rattle.ea_machine.specs.Releases.{abandoned, ends}
use Rattle.ea_shared.specs.Calls.{Did}
use Rattle.ea_sched.specs.Acting.{standing_at}
use Rattle.ea_sched.proofs.CarrierCalling.{abandon-carrier, abandon-employed, abandon-for}
use Rattle.ea_sched.proofs.CarrierCalling.{abandon-many, abandon-room}
use Rattle.ea_sched.proofs.StandsOn.{moves-on}
use Rattle.ea_sched.proofs.state.Scheduler.abandon.Goals as goal

pub into_multi-carrier-requires : goal.into_multi-carrier-requires
into_multi-carrier-requires g c = abandon-many c.args.self.now c.requires.starts.row

pub abandon-requires-clause-migrates : goal.abandon-requires-clause-migrates
abandon-requires-clause-migrates g c = moves-on c.args.self.now c.requires.starts.row (λ off. off)

pub abandon-requires-clause-carrier : goal.abandon-requires-clause-carrier
abandon-requires-clause-carrier g c =
    abandon-carrier c.args.self.now c.requires.starts.row c.number-number.ensures

pub abandon-requires-clause-employed : goal.abandon-requires-clause-employed
abandon-requires-clause-employed g c =
    abandon-employed c.args.self.now c.requires.starts.row c.number-number.ensures

pub abandon-requires-clause-content : goal.abandon-requires-clause-content
abandon-requires-clause-content g c = abandon-for c.args.self.now c.requires.starts.row
    c.number-number.ensures c.into_multi-carrier.ensures c.largest-largest.ensures

pub list_abandoned-requires : goal.list_abandoned-requires
list_abandoned-requires g c = record {
  room = abandon-room c.args.self.now c.requires.starts.row c.number-number.ensures;
}

pub returns-clause-row : goal.returns-clause-row
returns-clause-row g c =
    let s = c.args.self.now in
    record {
      got = Done;
      did = subst (λ y. Did s.number (Abandon y) Done (g.S.Shared.told c.args.shared.now)
          (g.S.Shared.told c.abandon.new.self)) c.into_multi-carrier.ensures
          c.abandon.ensures.row;
      is = λ at. ap (ends c.args.gone) (c.list_abandoned.ensures.listed at
          ∙ ap (λ n. abandoned s.number n (standing_at at s)) c.number-number.ensures);
    }
