use Rattle.std.proofs.Common.{◌≡◌, ◌++◌, take}
use Rattle.std.specs.List.{flat_map}
use Rattle.ea_report.specs.Text.{carrier_text}
use Rattle.ea_report.proofs.carriers.put_carriers.Given as goal

abbrev pub invariant-loop-carrier : goal.invariant-loop-carrier
invariant-loop-carrier l = l.text.items ≡ l.initial.text.items ++ flat_map carrier_text
    (take l.carrier-index l.carriers)
