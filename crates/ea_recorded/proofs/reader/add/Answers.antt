use Rattle.std.proofs.Common.{◌++◌, map, sym, ap, ◌∙◌}
use Rattle.ea_recorded.specs.Language.{Told, told_by}
use Rattle.ea_recorded.specs.declared.lines.RecordedLine.{RecordedLine}
use Rattle.ea_recorded.proofs.Reached.{told-more}
use Rattle.ea_recorded.proofs.reader.add.Goals as goal

pub returns-in_ok-push-clause-told : goal.returns-in_ok-push-clause-told
returns-in_ok-push-clause-told c = λ told words are e range.
    told-more told c.args.lines.now.items c.push.new.self.items c.args.number words c.args.line are e
    range
    (c.in_ok-push.ensures.items
    ∙ ap (λ (l : RecordedLine). c.args.lines.now.items
    ++ map (λ (t : Told). t.own) (told_by c.args.number words l)) (sym c.in-Operation.is))
