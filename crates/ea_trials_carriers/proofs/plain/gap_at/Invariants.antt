use Rattle.std.proofs.Common.{◌≡◌, drop}
use Rattle.ea_model.specs.Content.{gap_at}
use Rattle.ea_trials_carriers.proofs.plain.gap_at.Given as goal

abbrev pub invariant-loop-gap : goal.invariant-loop-gap
invariant-loop-gap l = gap_at (drop l.gap-index l.gaps) l.offset ≡ gap_at l.gaps l.offset
