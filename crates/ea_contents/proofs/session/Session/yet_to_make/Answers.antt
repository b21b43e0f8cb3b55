use Rattle.std.proofs.Common.{sym, ap, ◌∙◌}
use Rattle.std.specs.Prelude.{drop}
use Rattle.ea_contents.specs.Model.{making_of}
use Rattle.ea_contents.specs.Sessions.{if_absent}
use Rattle.ea_contents.proofs.Standing.{yet-held, yet-none}
use Rattle.ea_contents.proofs.session.Session.yet_to_make.Goals as goal

pub returns-in_err-making : goal.returns-in_err-making
returns-in_err-making c = λ d t turns lists at.
    c.from_residual.ensures
    ∙ yet-none d t turns lists c.args.self.now at c.args.me c.requires.scheduler c.get.result.now
    c.done.result c.making_after.result c.get.ensures (c.done.ensures d t turns at.run)
    (c.making_after.ensures ∙ ap (λ ops. making_of (drop c.done.result ops)) c.as_slice-text.ensures)
    c.in_err-making.was

pub returns-then-holds : goal.returns-then-holds
returns-then-holds c = λ d t turns lists at.
    ap (λ b. if_absent b c.in_ok-making.making) (sym c.if-holds.true)
    ∙ yet-held d t turns lists c.args.self.now at c.args.me c.requires.scheduler c.get.result.now
    c.done.result c.making_after.result c.get.ensures (c.done.ensures d t turns at.run)
    (c.making_after.ensures ∙ ap (λ ops. making_of (drop c.done.result ops)) c.as_slice-text.ensures)
    c.in_ok-making.making c.in_ok-making.was c.holds.result (c.holds.ensures d t turns at.run)

pub returns : goal.returns
returns c = λ d t turns lists at.
    ap (λ b. if_absent b c.in_ok-making.making) (sym c.if-holds.false)
    ∙ yet-held d t turns lists c.args.self.now at c.args.me c.requires.scheduler c.get.result.now
    c.done.result c.making_after.result c.get.ensures (c.done.ensures d t turns at.run)
    (c.making_after.ensures ∙ ap (λ ops. making_of (drop c.done.result ops)) c.as_slice-text.ensures)
    c.in_ok-making.making c.in_ok-making.was c.holds.result (c.holds.ensures d t turns at.run)

pub holds-requires-clause-stands : goal.holds-requires-clause-stands
holds-requires-clause-stands c =
    let (d, t, turns, lists, at) = c.requires.stands in (d, t, turns, at.run)

pub holds-requires-clause-scheduler : goal.holds-requires-clause-scheduler
holds-requires-clause-scheduler c = c.requires.scheduler
