use Rattle.std.proofs.Common.{◌==◌, [], ◌∷◌, ◌++◌, sym, ap, subst, ◌∙◌}
use Rattle.std.proofs.lemmas.List.{append-nil}
use Rattle.std.proofs.lemmas.Result.{on_ok_weaker}
use Rattle.ea_trace.specs.declared.lines.Line.TheVariants.{Operation}
use Rattle.ea_recorded.specs.Told.{HasLines}
use Rattle.ea_recorded.specs.declared.lines.OwnLine.{OwnLine}
use Rattle.ea_recorded.proofs.Feeding.{is-one, is-other, own-none, own-one}
use Rattle.ea_recorded.proofs.sections.TraceLines.take_own.Goals as goal

pub returns-then-line-me-clause-taken : goal.returns-then-line-me-clause-taken
returns-then-line-me-clause-taken c = λ n ls t h same said.
    subst (λ more. HasLines n (ls ++ more) c.args.self.now)
    (sym (own-none c.args.me t (ap (λ (o : OwnLine). o.scheduler == c.args.me) (sym same)
    ∙ is-other c.args.line.scheduler c.args.me c.if-line-me.true)))
    (subst (λ ls. HasLines n ls c.args.self.now) (sym (append-nil ls)) h)

pub returns-clause-taken : goal.returns-clause-taken
returns-clause-taken c = on_ok_weaker c.take.result (λ taken n ls t h same said.
    subst (λ more. HasLines n (ls ++ more) c.take.new.self)
    (ap (λ (o : OwnLine). record { number = o.number; words = t.words } ∷ []) same
    ∙ sym (own-one c.args.me t (ap (λ (o : OwnLine). o.scheduler == c.args.me) (sym same)
    ∙ is-one c.args.line.scheduler c.args.me c.if-line-me.false)))
    (taken n ls t.words h (ap (λ (o : OwnLine). Operation o.op) same ∙ sym said)))
    c.take.ensures.taken
