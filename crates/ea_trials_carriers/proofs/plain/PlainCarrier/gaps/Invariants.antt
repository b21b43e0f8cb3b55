use Rattle.std.proofs.Common.{◌≡◌, ◌++◌, drop}
use Rattle.ea_model.specs.Content.{gaps, gaps_of}
use Rattle.ea_trials_carriers.proofs.plain.PlainCarrier.gaps.Given as goal

-- the gaps so far, and those that are left, are all
abbrev pub invariant-loop-block : goal.invariant-loop-block
invariant-loop-block l =
    l.gaps.items ++ gaps l.at l.self.units (drop l.block-index l.self.blocks) ≡ gaps_of l.self
