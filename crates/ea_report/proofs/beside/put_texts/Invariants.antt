use Rattle.std.proofs.Common.{◌≡◌, ◌+◌, ◌++◌, drop, map}
use Rattle.ea_report.specs.Printed.{headed_texts}
use Rattle.ea_report.proofs.beside.put_texts.Given as goal

abbrev pub invariant-loop-index : goal.invariant-loop-index
invariant-loop-index l = l.text.items
    ++ headed_texts (l.index + 1) (map (λ log. log.items) (drop l.index l.logs))
    ≡ l.initial.text.items ++ headed_texts 1 (map (λ log. log.items) l.logs)
