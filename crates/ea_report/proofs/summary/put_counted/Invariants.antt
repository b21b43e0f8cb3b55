use Rattle.std.proofs.Common.{◌≡◌, ◌+◌, ◌++◌, drop, map}
use Rattle.ea_report.specs.Text.{counted_text}
use Rattle.ea_report.proofs.summary.put_counted.Given as goal

abbrev pub invariant-loop-index : goal.invariant-loop-index
invariant-loop-index l = l.text.items
    ++ counted_text (l.index + 1) (map (λ log. log.items) (drop l.index l.logs))
    ≡ l.initial.text.items ++ counted_text 1 (map (λ log. log.items) l.logs)
