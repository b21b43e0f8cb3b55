use Rattle.std.proofs.Common.{◌≡◌, List, drop}
use Rattle.ea_model.specs.declared.entries.Reports.{Reports}
use Rattle.ea_steps.specs.Entered.{carriers_with}
use Rattle.ea_steps.specs.FoundCarriers.{first_number}
use Rattle.ea_steps.proofs.made.first_placed.Given as goal

abbrev pub invariant-loop-entry : goal.invariant-loop-entry
invariant-loop-entry l = (reports : List Reports)
    → first_number (carriers_with reports (drop l.entry-index l.entries))
    ≡ first_number (carriers_with reports l.entries)
