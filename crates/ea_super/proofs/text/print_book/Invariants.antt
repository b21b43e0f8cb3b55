use Rattle.std.proofs.Common.{◌≡◌, ◌++◌, drop}
use Rattle.std.specs.List.{flat_map}
use Rattle.ea_super.specs.Text.{call_text}
use Rattle.ea_super.proofs.text.print_book.Given as goal

abbrev pub invariant-loop-call : goal.invariant-loop-call
invariant-loop-call l = l.text.items
    ++ flat_map call_text (drop l.call-index l.call-items) ≡ flat_map call_text l.book.history.items
