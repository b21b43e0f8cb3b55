use Rattle.std.proofs.Common.{◌≡◌, length}
use Rattle.ea_mbc.proofs.spare.Spare.keep.Given as goal

abbrev pub decreases-loop-self : goal.decreases-loop-self
decreases-loop-self l = length l.self.carriers.items

-- as many units may be kept as before
abbrev pub invariant-loop-self : goal.invariant-loop-self
invariant-loop-self l = l.self.most ≡ l.fn.self.most
