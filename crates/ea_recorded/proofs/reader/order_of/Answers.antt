use Rattle.std.proofs.Common.{◌∷◌, ◌++◌, [], map, take, sym, ap, ◌∙◌}
use Rattle.std.specs.Prelude.{get_or}
use Rattle.std.proofs.lemmas.List.{map-append, take_all, take_more}
use Rattle.ea_recorded.specs.declared.lines.OwnLine.{OwnLine}
use Rattle.ea_recorded.proofs.Reached.{no_line}
use Rattle.ea_recorded.proofs.reader.order_of.Goals as goal

pub loop-line-preserved : goal.loop-line-preserved
loop-line-preserved c =
    let lines = c.args.lines.now in
    let k = c.loop-line.line-index in
    let x : OwnLine = get_or lines k no_line in
    c.in_ok-push.ensures.ok ∙ ap (λ xs. xs ++ x.scheduler ∷ []) c.loop-line.invariant
    ∙ sym (ap (map (λ (o : OwnLine). o.scheduler)) (take_more lines k no_line c.loop-line-test.true)
    ∙ map-append (λ (o : OwnLine). o.scheduler) (take k lines) (x ∷ []))

pub returns : goal.returns
returns c = c.loop-line.invariant ∙ ap (map (λ (o : OwnLine). o.scheduler))
    (take_all c.loop-line.line-index c.args.lines.now c.loop-line-test.false)
