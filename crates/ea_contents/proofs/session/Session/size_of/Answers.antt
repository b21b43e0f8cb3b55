use Rattle.std.proofs.Common.{sym, ap, ◌∙◌}
use Rattle.ea_machine.specs.State.{State}
use Rattle.ea_contents.specs.Model.{holds}
use Rattle.ea_contents.proofs.Standing.{lies-units, unstopped}
use Rattle.ea_contents.proofs.session.Session.size_of.Goals as goal

pub returns-then-not-holds-clause-held : goal.returns-then-not-holds-clause-held
returns-then-not-holds-clause-held c = λ d t turns lists at.
    sym c.if-not-holds.true ∙ c.holds.ensures d t turns at.run
    ∙ ap (λ (v : State). holds v c.args.me c.args.name) (unstopped d t at.stops turns)

pub block_of-requires-clause-held : goal.block_of-requires-clause-held
block_of-requires-clause-held c = λ d t turns lists at. (
  c.args.me,
  sym (c.holds.ensures d t turns at.run
      ∙ ap (λ (v : State). holds v c.args.me c.args.name) (unstopped d t at.stops turns))
      ∙ c.if-not-holds.false,
)

pub returns-clause-held : goal.returns-clause-held
returns-clause-held c = λ d t turns lists at.
    sym c.if-not-holds.false ∙ c.holds.ensures d t turns at.run
    ∙ ap (λ (v : State). holds v c.args.me c.args.name) (unstopped d t at.stops turns)

pub returns-clause-size : goal.returns-clause-size
returns-clause-size c = λ d t turns lists at.
    lies-units d t turns lists c.args.self.now at c.args.name c.block_of.result
    (c.block_of.ensures d t turns lists at)
