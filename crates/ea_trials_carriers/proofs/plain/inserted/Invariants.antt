use Rattle.std.proofs.Common.{◌≡◌, ◌++◌, drop}
use Rattle.ea_model.specs.Content.{inserted}
use Rattle.ea_trials_carriers.proofs.plain.inserted.Given as goal

abbrev pub invariant-loop-place : goal.invariant-loop-place
invariant-loop-place l =
    l.list.items ++ inserted l.block (drop l.place l.blocks) ≡ inserted l.block l.blocks
