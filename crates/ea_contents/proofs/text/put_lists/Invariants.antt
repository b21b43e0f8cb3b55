use Rattle.std.proofs.Common.{◌≡◌, ◌+◌, ◌++◌, drop, map}
use Rattle.ea_contents.specs.Text.{lists_text}
use Rattle.ea_contents.proofs.text.put_lists.Given as goal

abbrev pub invariant-loop-index : goal.invariant-loop-index
invariant-loop-index l = l.text.items
    ++ lists_text (l.index + 1) (map (λ list. list.items) (drop l.index l.lists))
    ≡ l.initial.text.items ++ lists_text 1 (map (λ list. list.items) l.lists)
