use Rattle.std.proofs.Common.{◌*◌, sym, ap, ◌∙◌, arith}
use Rattle.ea_model.specs.declared.settings.Config.{Config}
use Rattle.ea_model.specs.declared.units.TheConstants.{NUMBERS}
use Rattle.ea_machine.specs.Setup.{migration, setup_of}
use Rattle.ea_mem_shared.specs.Places.{place_at}
use Rattle.ea_outcome.specs.Resting.{carrier_of}
use Rattle.ea_given.proofs.CarriersFound.{carrier-found, carrier-none}
use Rattle.ea_given.proofs.run.GivenRun.carrier.Goals as goal

pub returns-then-number-eq0 : goal.returns-then-number-eq0
returns-then-number-eq0 c = λ d t turns at.
    sym (carrier-none c.args.self.now d t turns at c.args.number
    (λ is. omega (arith, is.0, c.if-number-eq0.true)))

pub returns-then-number-self : goal.returns-then-number-self
returns-then-number-self c = λ d t turns at.
    sym (carrier-none c.args.self.now d t turns at c.args.number (λ is. omega (
      arith,
      is.1,
      c.if-number-self.true,
      ap (λ (x : Config). NUMBERS * x.schedulers) at.config,
    )))

pub returns : goal.returns
returns c = λ d t turns at.
    let r = c.args.self.now in
    let n = c.args.number in
    let places = place_at r.shared.places in
    c.find.ensures
    ∙ ap (λ ss. carrier_of c.migrates-migrates.result places ss n) c.deref.ensures.value
    ∙ ap (λ b. carrier_of b places r.schedulers.items n) (c.migrates-migrates.ensures
    ∙ ap (λ x. migration (setup_of x r.trace.now)) at.config
    ∙ ap (λ x. migration (setup_of d x)) at.trace)
    ∙ sym (carrier-found r d t turns at n (
      omega (arith, c.if-number-eq0.false),
      omega (
        arith,
        c.if-number-self.false,
        ap (λ (x : Config). NUMBERS * x.schedulers) at.config,
      ),
    ))
