use Rattle.std.proofs.Common.{◌++◌, append-nil, ◌∙◌, ap, codes}
use Rattle.ea_report.specs.Text.{report_text}
use Rattle.ea_report.proofs.entries.put_info.Goals as goal

pub returns : goal.returns
returns c =
    let it = c.args.reports.now in
    c.put_report-2.ensures.bytes
    ∙ ap (λ l. report_text (codes "mbcs") it.mbcs ++ l) (c.put_report.ensures.bytes
    ∙ ap (λ l. report_text (codes "sbcs") it.sbcs ++ l) c.requires
    ∙ append-nil (report_text (codes "sbcs") it.sbcs))
