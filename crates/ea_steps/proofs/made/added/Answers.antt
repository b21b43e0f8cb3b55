use Rattle.std.proofs.Common.{◌∙◌, ap, arith, drop, length}
use Rattle.ea_machine.specs.Actor.{Actor}
use Rattle.ea_machine.specs.Setup.{setup_of}
use Rattle.ea_steps.specs.Taking.{step_after}
use Rattle.ea_steps.proofs.MadeNumbers.{actor-taken, log-longer}
use Rattle.ea_steps.proofs.made.added.Goals as goal

pub entries_from-requires : goal.entries_from-requires
entries_from-requires c =
    let (config, trace, turns, stands, takes, touches) = c.requires.stepped in
    let me = c.args.me in
    let e = setup_of config trace in
    omega (
      arith,
      touches.entries,
      log-longer config trace turns me c.args.run.now stands takes,
      ap (λ (b : Actor). length b.log)
          (actor-taken e turns me takes c.at.result.now (c.at.ensures config trace _ stands)),
      ap (λ l. length l.items) c.log.ensures,
    )

pub returns : goal.returns
returns c = λ config trace turns stands takes touches.
    let me = c.args.me in
    let e = setup_of config trace in
    let (reports, are) = c.entries_from.ensures in (
      reports,
      are
          ∙ ap (λ l. drop c.args.touched.now.entries l.items) c.log.ensures
          ∙ ap (λ (b : Actor). drop c.args.touched.now.entries b.log)
          (actor-taken e turns me takes c.at.result.now (c.at.ensures config trace _ stands))
          ∙ ap (λ n. drop n ((step_after e turns me).after.actors me).log) touches.entries,
    )
