use Rattle.std.proofs.Common.{◌≡◌, ◌++◌, take}
use Rattle.std.specs.List.{flat_map}
use Rattle.ea_model.specs.Entries.{told}
use Rattle.ea_report.specs.Text.{entry_text}
use Rattle.ea_report.proofs.entries.put_entries.Given as goal

abbrev pub invariant-loop-entry : goal.invariant-loop-entry
invariant-loop-entry l = l.text.items ≡ l.initial.text.items
    ++ flat_map (λ e. entry_text (told l.reports e)) (take l.entry-index l.entries)
