use Rattle.std.proofs.Common.{◌≡◌, ◌++◌, codes, decimal, drop, true}
use Rattle.ea_steps.specs.Text.{with_each_line}
use Rattle.ea_steps.proofs.lines.put_prefixed.Given as goal

abbrev pub invariant-loop-byte : goal.invariant-loop-byte
invariant-loop-byte l =
    let words = codes "log " ++ decimal l.me ++ codes " " in
    l.text.items ++ with_each_line words l.begins (drop l.byte-index l.lines)
    ≡ l.initial.text.items ++ with_each_line words true l.lines
