use Rattle.std.proofs.Common.{◌≡◌, true, false, sym, ap, ◌∙◌}
use Rattle.ea_model.specs.Instance.{figures}
use Rattle.ea_machine.specs.Statistics.{is_single}
use Rattle.ea_sched.specs.Acting.{actor_of}
use Rattle.ea_sched.proofs.Observing.{kind-other, multis-none, multis-one}
use Rattle.ea_sched.proofs.state.Scheduler.multi_figures.Goals as goal

pub returns-in_default : goal.returns-in_default
returns-in_default c = c.multi_figures-others.ensures.figures
    ∙ sym (ap figures (multis-none (actor_of c.args.self.now) c.in_default.ensures))

pub returns-then-is_single : goal.returns-then-is_single
returns-then-is_single c = c.multi_figures-others.ensures.figures
    ∙ sym (ap figures (multis-one (actor_of c.args.self.now) c.in-Some.carrier.now
    c.in-Some.ensures true
    (ap is_single (c.is_single.ensures.0 c.if-is_single.true))))

pub returns : goal.returns
returns c = c.counted_with.ensures c.args.self.now.instance.contents
    c.multi_figures-others.ensures.figures
    ∙ sym (ap figures (multis-one (actor_of c.args.self.now) c.in-Some.carrier.now
    c.in-Some.ensures false
    (kind-other c.in-Some.carrier.now.kind (λ single.
    let no : true ≡ false = sym (c.is_single.ensures.1 single) ∙ c.if-is_single.false in cc))))
