use Rattle.std.proofs.Common.{arith}
use Rattle.ea_keytree.proofs.Raising.{raise_bounds, raise_low_may, raise_high_may, raise_last}
use Rattle.ea_keytree.proofs.Raising.{raise_low, raise_high}
use Rattle.ea_keytree.proofs.nodes.+raise.Goals as goal

pub slice_copy_out-node : goal.slice_copy_out-node
slice_copy_out-node t c = raise_bounds _ _ _ _ _ _ c.requires.1.1.1

pub raise-low-requires : goal.raise-low-requires
raise-low-requires t c =
    let w = raise_low_may _ _ _ _ _ _ c.requires.1.1.1 c.if-node-ne0.true in
    (omega arith, w.2)

pub bounds-nodes-node : goal.bounds-nodes-node
bounds-nodes-node t c =
    let w = raise_low_may _ _ _ _ _ _ c.requires.1.1.1 c.if-node-ne0.true in omega arith

pub returns-then-node-ne0 : goal.returns-then-node-ne0
returns-then-node-ne0 t c = λ keys from u m.
    raise_low keys _ _ _ from _ _ u m c.if-node-ne0.true c.raise-low.ensures

pub raise-high-requires : goal.raise-high-requires
raise-high-requires t c =
    let w = raise_high_may _ _ _ _ _ _ c.requires.1.1.1 c.if-node-ne0-2.true in
    (omega arith, w.2)

pub bounds-nodes-node-then-node-ne0-2 : goal.bounds-nodes-node-then-node-ne0-2
bounds-nodes-node-then-node-ne0-2 t c =
    let w = raise_high_may _ _ _ _ _ _ c.requires.1.1.1 c.if-node-ne0-2.true in omega arith

pub returns-then-node-ne0-2 : goal.returns-then-node-ne0-2
returns-then-node-ne0-2 t c = λ keys from u m.
    raise_high keys _ _ _ from _ _ u m (omega (arith, c.if-node-ne0.false))
    c.if-node-ne0-2.true c.raise-high.ensures

pub returns : goal.returns
returns t c = λ keys from u m.
    raise_last keys _ _ from _ u m (omega (arith, c.if-node-ne0.false))
    (omega (arith, c.if-node-ne0-2.false))
