use Rattle.std.proofs.Common.{◌≡◌, ◌++◌, take}
use Rattle.std.specs.List.{flat_map}
use Rattle.ea_contents.specs.Text.{line_text}
use Rattle.ea_contents.proofs.text.put_entries.Given as goal

abbrev pub invariant-loop-entry : goal.invariant-loop-entry
invariant-loop-entry l = l.text.items ≡ l.initial.text.items ++ flat_map line_text
    (take l.entry-index l.entries)
