use Rattle.std.proofs.Common.{rules, ap, ◌∙◌, append_assoc}
use Rattle.ea_report.specs.Printed.{headed_texts}
use Rattle.ea_report.proofs.Headed.{headed_logs}
use Rattle.ea_report.proofs.beside.put_beside.Goals as goal

pub returns : goal.returns
returns g c =
    let same = ap (headed_texts 1) c.in_ok-texts.ensures
    ∙ headed_logs (λ log. log.items) 1 c.as_slice-logs.result.now in
    search (rules, append_assoc, same)
