use Rattle.std.proofs.Common.{arith}
use Rattle.ea_laws.proofs.Tiling.{allocated-free}
use Rattle.ea_mbc.proofs.Figures.{known}
use Rattle.ea_mbc.proofs.carrier.Mbc.allocated.Goals as goal

pub returns-clause-sum : goal.returns-clause-sum
returns-clause-sum c =
    let k = known _ _ _ _ _ _ _ _ c.args.self.now c.self.view_is c.self.invariant in
    omega (arith, k.taken, allocated-free _ _ _ k.tiled)
