use Rattle.std.proofs.Common.{◌≡◌, ◌+◌, ◌++◌, drop, map}
use Rattle.ea_report.specs.Text.{logs_text}
use Rattle.ea_report.proofs.text.put_logs.Given as goal

abbrev pub invariant-loop-index : goal.invariant-loop-index
invariant-loop-index l = l.text.items
    ++ logs_text (l.index + 1) (map (λ log. log.items) (drop l.index l.logs))
    ≡ l.initial.text.items ++ logs_text 1 (map (λ log. log.items) l.logs)
