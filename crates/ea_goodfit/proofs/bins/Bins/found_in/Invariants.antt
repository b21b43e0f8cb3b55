use Rattle.std.proofs.Common.{◌≡◌, ◌-◌, ◌^◌, ◌≤◌, fold, take}
use Rattle.std.specs.Prelude.{None}
use Rattle.ea_goodfit.specs.Gaps.{considered, of_bin}
use Rattle.ea_goodfit.proofs.Searching.{from_address}
use Rattle.ea_goodfit.proofs.bins.Bins.found_in.Given as goal

-- going on from the best so far among those of the bin that are left gives the best of them
abbrev pub invariant-loop-index : goal.invariant-loop-index
invariant-loop-index l = record {
  within : l.address ≤ 2 ^ 32;
  rest : fold (considered l.need) l.best
      (take (l.depth - l.index) (from_address l.address (of_bin l.bin l.self.held))) ≡ fold
      (considered l.need) None (take l.depth (of_bin l.bin l.self.held));
}
