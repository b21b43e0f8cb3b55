use Rattle.std.proofs.Common.{arith, ap}
use Rattle.ea_keytree.specs.Keys.{KeysHeld}
use Rattle.ea_keytree.proofs.Holding.{pushed}
use Rattle.ea_keytree.proofs.tree.KeyTree.push.Goals as goal

pub invariant_of-self : goal.invariant_of-self
invariant_of-self c =
    pushed _ _ _ _ c.self.invariant c.push_reserved.ensures.items
    (omega (
      arith,
      ap (λ (v : KeysHeld). v.room) c.self.view_is,
      c.requires,
      c.self.inside.nodes.ok.0,
    ))
