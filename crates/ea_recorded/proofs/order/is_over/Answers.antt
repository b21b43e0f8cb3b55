use Rattle.std.proofs.Common.{◌||◌, sym, ap, ◌∙◌}
use Rattle.std.specs.Prelude.{nat_lt}
use Rattle.ea_machine.specs.Setup.{setup_of}
use Rattle.ea_given.specs.Runs.{done_after}
use Rattle.ea_recorded.proofs.order.is_over.Goals as goal

pub returns-then-ended : goal.returns-then-ended
returns-then-ended c = λ d t turns at.
    ap (λ b. b || nat_lt c.args.done (done_after (setup_of d t) turns c.args.me))
    (sym c.if-ended.true ∙ c.ended.ensures d t turns at)

pub returns : goal.returns
returns c = λ d t turns at.
    ap (nat_lt c.args.done) (c.done.ensures d t turns at)
    ∙ ap (λ b. b || nat_lt c.args.done (done_after (setup_of d t) turns c.args.me))
    (sym c.if-ended.false ∙ c.ended.ensures d t turns at)
