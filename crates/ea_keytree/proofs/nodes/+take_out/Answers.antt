use Rattle.std.proofs.Common.{arith}
use Rattle.ea_keytree.proofs.Taking.{take_some, take_root_may, take_root, take_root_is}
use Rattle.ea_keytree.proofs.Taking.{take_low_may, take_high_may, take_low, take_high}
use Rattle.ea_keytree.proofs.Taking.{found_low, found_high}
use Rattle.ea_keytree.proofs.nodes.+take_out.Goals as goal

pub overflow_sub-at : goal.overflow_sub-at
overflow_sub-at t c = omega (arith, take_some _ _ _ _ _ _ _ c.requires.may.1.1)

pub slice_copy_out-node : goal.slice_copy_out-node
slice_copy_out-node t c = (take_some _ _ _ _ _ _ _ c.requires.may.1.1).1

pub overflow_sub-result : goal.overflow_sub-result
overflow_sub-result t c = omega (arith, take_some _ _ _ _ _ _ _ c.requires.may.1.1)

pub raise-requires : goal.raise-requires
raise-requires t c = take_root_may _ _ _ _ _ _ _ c.requires.may.1.1

pub returns-then-node-key-clause-tree : goal.returns-then-node-key-clause-tree
returns-then-node-key-clause-tree t c = λ keys u m.
    take_root keys _ _ _ _ _ _ _ u m c.if-node-key.true c.raise.ensures

pub returns-then-node-key-clause-position : goal.returns-then-node-key-clause-position
returns-then-node-key-clause-position t c = λ keys u m.
    take_root_is keys _ _ _ _ _ u m c.if-node-key.true

pub take_out-taken-requires : goal.take_out-taken-requires
take_out-taken-requires t c =
    let w = take_low_may _ _ _ _ _ _ _ c.requires.may.1.1 c.if-node-key.false
    c.if-key-from.true in
    (omega arith, (omega arith, w.1))

pub bounds-nodes-at : goal.bounds-nodes-at
bounds-nodes-at t c =
    let b = take_some _ _ _ _ _ _ _ c.requires.may.1.1 in omega arith

pub returns-then-key-from-clause-tree : goal.returns-then-key-from-clause-tree
returns-then-key-from-clause-tree t c = λ keys u m.
    take_low keys _ _ _ _ _ _ _ u m c.if-node-key.false c.if-key-from.true
    c.take_out-taken.ensures.tree

pub returns-then-key-from-clause-position : goal.returns-then-key-from-clause-position
returns-then-key-from-clause-position t c = λ keys u m.
    found_low keys _ _ _ _ _ _ u m c.if-node-key.false c.if-key-from.true
    c.take_out-taken.ensures.position

pub take_out-taken-requires-2 : goal.take_out-taken-requires-2
take_out-taken-requires-2 t c =
    let w = take_high_may _ _ _ _ _ _ _ c.requires.may.1.1 c.if-node-key.false
    c.if-key-from.false in
    (omega arith, (omega arith, w.1))

pub bounds-nodes-at-2 : goal.bounds-nodes-at-2
bounds-nodes-at-2 t c =
    let b = take_some _ _ _ _ _ _ _ c.requires.may.1.1 in omega arith

pub returns-clause-tree : goal.returns-clause-tree
returns-clause-tree t c = λ keys u m.
    take_high keys _ _ _ _ _ _ _ u m c.if-node-key.false c.if-key-from.false
    c.take_out-taken-2.ensures.tree

pub returns-clause-position : goal.returns-clause-position
returns-clause-position t c = λ keys u m.
    found_high keys _ _ _ _ _ _ u m c.if-node-key.false c.if-key-from.false
    c.take_out-taken-2.ensures.position
