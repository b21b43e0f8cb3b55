use Rattle.std.proofs.Common.{◌≡◌, ◌++◌, None, drop}
use Rattle.ea_given.specs.Runs.{Tells}
use Rattle.ea_steps.specs.ChangedLines.{gone_lines}
use Rattle.ea_steps.specs.LookedUp.{found_in}
use Rattle.ea_steps.proofs.changes.put_all_gone.Given as goal

abbrev pub invariant-loop-number : goal.invariant-loop-number
invariant-loop-number l = Tells (λ setup turns.
    l.text.items ++ gone_lines l.made (found_in setup turns) l.last (drop l.number-index l.numbers)
    ≡ l.initial.text.items ++ gone_lines l.made (found_in setup turns) None l.numbers) l.run
