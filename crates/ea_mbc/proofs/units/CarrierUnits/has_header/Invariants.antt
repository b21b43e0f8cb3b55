use Rattle.std.proofs.Common.{◌-◌}
use Rattle.ea_model.specs.Content.{block_at}
use Rattle.ea_mbc.specs.Coding.{blocks_of}
use Rattle.ea_mbc.proofs.Walking.{Walk, Finding}
use Rattle.ea_mbc.proofs.units.CarrierUnits.has_header.Given as goal

-- the block is in the rest, if there is one
abbrev pub invariant-loop-at : goal.invariant-loop-at
invariant-loop-at l =
    Walk l.self-inside.tags l.self-inside.names l.self-inside.end l.at
    (Finding l.offset (block_at
    (blocks_of l.self-inside.tags l.self-inside.names l.self-inside.end) l.offset))

abbrev pub decreases-loop-at : goal.decreases-loop-at
decreases-loop-at l = l.self-inside.end - l.at
