use Rattle.std.proofs.Common.{[], sym, ap, subst, ◌∙◌}
use Rattle.std.specs.Prelude.{All}
use Rattle.std.proofs.lemmas.Result.{IfOk-weaker}
use Rattle.ea_model.specs.declared.settings.Config.{Config}
use Rattle.ea_model.specs.declared.trace.Trace.{Trace}
use Rattle.ea_model.specs.Trace.{IsScheduler}
use Rattle.ea_machine.specs.Completion.{complete}
use Rattle.ea_machine.specs.Machine.{start}
use Rattle.ea_machine.specs.Outcome.{outcome}
use Rattle.ea_machine.specs.Setup.{setup_of}
use Rattle.ea_sound.proofs.Protocols.{always-protocol}
use Rattle.ea_recorded.specs.Order.{turns_in_order}
use Rattle.ea_recorded.proofs.order.run_in_order.Goals as goal

pub run_lines-requires-clause-stands : goal.run_lines-requires-clause-stands
run_lines-requires-clause-stands c = record {
  is = (c.args.config, c.args.trace.now, [], c.in_ok-run.ensures);
  stops = ap (λ (x : Trace). x.stops.items) c.in_ok-run.ensures.trace ∙ c.requires.unstopped;
}

pub run_lines-requires-clause-theirs : goal.run_lines-requires-clause-theirs
run_lines-requires-clause-theirs c = subst (λ n. All (IsScheduler n) c.args.order.now)
    (sym (ap (λ (x : Config). x.schedulers) c.in_ok-run.ensures.config)) c.requires.theirs

pub complete-requires : goal.complete-requires
complete-requires c =
    let d = c.args.config in
    let t = c.args.trace.now in
    let e = setup_of d t in (
      d,
      t,
      turns_in_order e (start e) c.args.order.now,
      c.in_ok-run_lines.ensures d t [] c.in_ok-run.ensures,
    )

pub outcome-requires : goal.outcome-requires
outcome-requires c =
    let d = c.args.config in
    let t = c.args.trace.now in
    let e = setup_of d t in
    let turns = turns_in_order e (start e) c.args.order.now in (
      d,
      t,
      complete e turns,
      c.in_ok-complete.ensures d t turns (c.in_ok-run_lines.ensures d t [] c.in_ok-run.ensures),
    )

pub returns : goal.returns
returns c =
    let d = c.args.config in
    let t = c.args.trace.now in
    let e = setup_of d t in
    let turns = turns_in_order e (start e) c.args.order.now in
    let protocol = always-protocol d t c.requires.config c.requires.trace in
    IfOk-weaker c.outcome.result _ _ (λ o tells. tells d t (complete e turns)
    (c.in_ok-complete.ensures d t turns (c.in_ok-run_lines.ensures d t [] c.in_ok-run.ensures))
    ∙ ap (outcome e) (protocol.within turns)) c.outcome.ensures
