use Rattle.std.proofs.Common.{map, sym, ap, subst, ◌∙◌}
use Rattle.std.proofs.lemmas.Result.{err_from_is_err_and}
use Rattle.ea_recorded.specs.Told.{AreTold, IsTold}
use Rattle.ea_recorded.specs.declared.lines.OwnLine.{OwnLine}
use Rattle.ea_recorded.proofs.Reached.{at-end-none, at-end-some, ended-err, ended-ok, not-ended}
use Rattle.ea_recorded.proofs.Reached.{order-theirs}
use Rattle.ea_recorded.proofs.reader.Reading.finish.Goals as goal

pub returns-in_default : goal.returns-in_default
returns-in_default c = record {
  given = λ n number asked reads. not-ended n number asked c.args.self reads
      c.in_default.not-Ended;
  valid = tt;
  unstopped = tt;
  texts = tt;
  order = tt;
  early = at-end-some _ c.args.self.stage c.in_default.not-Ended;
}

pub trace_of_lines-requires-clause-few : goal.trace_of_lines-requires-clause-few
trace_of_lines-requires-clause-few c = rw c.deref.ensures.value c.requires.few

pub trace_of_lines-requires-clause-told : goal.trace_of_lines-requires-clause-told
trace_of_lines-requires-clause-told c =
    let (n, asked, number, reads) = c.requires.read in
    subst IsTold (sym c.deref.ensures.value) (reads.told, reads.own)

pub returns-in_err-trace-clause-given : goal.returns-in_err-trace-clause-given
returns-in_err-trace-clause-given c = λ n number asked reads.
    let p = err_from_is_err_and c.from_residual.result c.from_residual.ensures.1 in
    rw (p.1, p.2) (ended-err n number asked c.args.self reads c.in-Ended.letter
    c.in-Ended.rules c.in-Ended.is c.in_err-trace.field-0.0
    (c.in_err-trace.ensures.given reads.told
    (subst (AreTold reads.told) (sym c.deref.ensures.value) reads.own)))

pub returns-clause-given : goal.returns-clause-given
returns-clause-given c = λ n number asked reads.
    ended-ok n number asked c.args.self reads c.in-Ended.letter c.in-Ended.rules
    c.in-Ended.is c.in_ok-trace.trace c.in_ok-order.order.items
    (c.in_ok-order.ensures ∙ ap (map (λ (o : OwnLine). o.scheduler)) c.deref-2.ensures.value)
    (c.in_ok-trace.ensures.given reads.told
    (subst (AreTold reads.told) (sym c.deref.ensures.value) reads.own))

pub returns-clause-order : goal.returns-clause-order
returns-clause-order c =
    let (n, asked, number, reads) = c.requires.read in
    order-theirs n number asked c.args.self reads c.in_ok-order.order.items
    (c.in_ok-order.ensures ∙ ap (map (λ (o : OwnLine). o.scheduler)) c.deref-2.ensures.value)

pub returns-in_err-trace-clause-early : goal.returns-in_err-trace-clause-early
returns-in_err-trace-clause-early c =
    at-end-none _ c.args.self.stage c.in-Ended.letter c.in-Ended.rules c.in-Ended.is

pub returns-in_err-order-clause-early : goal.returns-in_err-order-clause-early
returns-in_err-order-clause-early c =
    at-end-none _ c.args.self.stage c.in-Ended.letter c.in-Ended.rules c.in-Ended.is

pub returns-clause-early : goal.returns-clause-early
returns-clause-early c =
    at-end-none _ c.args.self.stage c.in-Ended.letter c.in-Ended.rules c.in-Ended.is
