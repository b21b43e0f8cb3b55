use Rattle.std.proofs.Common.{◌≡◌, ◌≤◌, false, length}
use Rattle.ea_model.specs.Words.{words}
use Rattle.ea_trace.specs.Lines.{turns_in}
use Rattle.ea_trace.specs.TurnLines.{counted, or_outside, with_front}
use Rattle.ea_trace.specs.declared.lines.TheConstants.{MAX_READ}
use Rattle.ea_trace.proofs.turns.add_turns.Given as goal

abbrev pub invariant-loop-found : goal.invariant-loop-found
invariant-loop-found l = record {
  count : counted l.count (turns_in (words l.rest)) ≡ counted 0 (turns_in (words l.fn.line));
  fits : l.count ≤ MAX_READ;
  outside : or_outside l.schedulers l.outside (turns_in (words l.rest))
      ≡ or_outside l.schedulers false (turns_in (words l.fn.line));
  added : with_front l.list.items (turns_in (words l.rest))
      ≡ with_front l.initial.list.items (turns_in (words l.fn.line));
}

abbrev pub decreases-loop-found : goal.decreases-loop-found
decreases-loop-found l = length l.rest
