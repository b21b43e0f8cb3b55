use Rattle.std.proofs.Common.{◌-◌}
use Rattle.ea_model.specs.Content.{gaps}
use Rattle.ea_model.specs.Choice.{choice}
use Rattle.ea_mbc.specs.Coding.{blocks_of}
use Rattle.ea_mbc.proofs.Walking.{Walk, Choosing}
use Rattle.ea_mbc.proofs.units.CarrierUnits.walk.Given as goal

-- choosing on from the best so far gives the choice
abbrev pub invariant-loop-at : goal.invariant-loop-at
invariant-loop-at l =
    Walk l.self-inside.tags l.self-inside.names l.self-inside.end l.at
    (Choosing l.inner l.need l.best l.self-inside.end
    (choice l.inner l.need (gaps 8 l.self-inside.end
    (blocks_of l.self-inside.tags l.self-inside.names l.self-inside.end))))

abbrev pub decreases-loop-at : goal.decreases-loop-at
decreases-loop-at l = l.self-inside.end - l.at
