use Rattle.std.proofs.Common.{◌∙◌, sym, ap}
use Rattle.ea_report.specs.Text.{count_of}
use Rattle.ea_report.proofs.Counting.{counted-alike}
use Rattle.ea_report.proofs.summary.count.Goals as goal

pub returns : goal.returns
returns c = c.count_in.ensures
    ∙ sym (counted-alike c.args.kind c.parts.result.1.now c.parts.result.0.now)
    ∙ ap (count_of c.args.kind) c.parts.ensures.told
