use Rattle.std.proofs.Common.{sym, ap, ◌∙◌}
use Rattle.ea_model.specs.Content.{Content}
use Rattle.ea_sched.proofs.CarrierCalling.{send-carrier, send-employed, send-empty, send-many}
use Rattle.ea_sched.proofs.CarrierCalling.{send-other}
use Rattle.ea_sched.proofs.StandsOn.{moves-on}
use Rattle.ea_sched.proofs.state.Scheduler.send_home.Goals as goal

pub into_multi-requires : goal.into_multi-requires
into_multi-requires g c = send-many c.args.self.now c.requires.starts.row

pub send_home-requires-clause-migrates : goal.send_home-requires-clause-migrates
send_home-requires-clause-migrates g c = moves-on c.args.self.now c.requires.starts.row (λ off. off)

pub send_home-requires-clause-carrier : goal.send_home-requires-clause-carrier
send_home-requires-clause-carrier g c =
    send-carrier c.args.self.now c.requires.starts.row c.number-number.ensures

pub send_home-requires-clause-employed : goal.send_home-requires-clause-employed
send_home-requires-clause-employed g c =
    send-employed c.args.self.now c.requires.starts.row c.number-number.ensures

pub send_home-requires-clause-content : goal.send_home-requires-clause-content
send_home-requires-clause-content g c = record {
  number = ap (λ (y : Content). y.number) c.into_multi.ensures ∙ sym c.number-number.ensures;
  empty = ap (λ (y : Content). y.blocks) c.into_multi.ensures
      ∙ send-empty c.args.self.now c.requires.starts.row;
}

pub send_home-requires-clause-owner : goal.send_home-requires-clause-owner
send_home-requires-clause-owner g c = (
  c.owner_of-to.ensures,
  λ own. send-other c.args.self.now c.requires.starts.row c.number-number.ensures
      (sym c.owner_of-to.ensures ∙ own),
)
