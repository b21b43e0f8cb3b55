use Rattle.std.proofs.Common.{◌-◌}
use Rattle.ea_instance.proofs.PartWalks.{IsWalked}
use Rattle.ea_instance.proofs.layouts.multi_layout.Given as goal

abbrev pub invariant-loop-at : goal.invariant-loop-at
invariant-loop-at l = IsWalked l.carrier l.at l.blocks.items l.gaps.items

abbrev pub decreases-loop-at : goal.decreases-loop-at
decreases-loop-at l = l.units - l.at
