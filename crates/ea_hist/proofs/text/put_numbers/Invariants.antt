use Rattle.std.proofs.Common.{◌≡◌, ◌++◌, drop}
use Rattle.ea_hist.specs.Text.{numbers_text}
use Rattle.ea_hist.proofs.text.put_numbers.Given as goal

abbrev pub invariant-loop-number : goal.invariant-loop-number
invariant-loop-number l = l.text.items ++ numbers_text (drop l.number-index l.numbers)
    ≡ l.fn.text.items ++ numbers_text l.numbers
