use Rattle.std.proofs.Common.{arith}
use Rattle.ea_keytree.proofs.Searching.{here, low_tree, high_tree}
use Rattle.ea_keytree.proofs.Greatest.{greatest_empty, greatest_past, greatest_half, greatest_whole}
use Rattle.ea_keytree.proofs.searches.+last.Goals as goal

pub last_up_to-returns-then-link-eq0 : goal.last_up_to-returns-then-link-eq0
last_up_to-returns-then-link-eq0 t c = λ u i. greatest_empty _ _ _ _ _ _ u _ i c.if-link-eq0.true

pub last_up_to-returns-then-bound-from : goal.last_up_to-returns-then-bound-from
last_up_to-returns-then-bound-from t c = λ u i. greatest_past _ _ _ _ _ _ u _ i c.if-bound-from.true

pub last_below-bounds-nodes-position : goal.last_below-bounds-nodes-position
last_below-bounds-nodes-position t c = (here _ _ _ _ _ c.requires.tree.1 (omega arith)).0

pub last_below-greater-own-requires : goal.last_below-greater-own-requires
last_below-greater-own-requires t c =
    let h = here _ _ _ _ _ c.requires.tree.1 (omega arith) in omega arith

pub last_below-last_up_to-high-requires : goal.last_below-last_up_to-high-requires
last_below-last_up_to-high-requires t c =
    let w = high_tree _ _ _ _ _ _ c.requires.tree.1 (omega arith) in
    (omega arith, (omega arith, w.1))

pub last_below-returns-then-from-half : goal.last_below-returns-then-from-half
last_below-returns-then-from-half t c = λ u i.
    greatest_half _ _ _ _ _ _ _ _ u i (omega arith) c.greater-own.ensures
    c.last_up_to-high.ensures c.if-from-half.true

pub last_below-last_up_to-requires : goal.last_below-last_up_to-requires
last_below-last_up_to-requires t c =
    let w = low_tree _ _ _ _ _ _ c.requires.tree.1 (omega arith) in
    (omega arith, (omega arith, w.1))

pub last_below-returns : goal.last_below-returns
last_below-returns t c = λ u i.
    greatest_whole _ _ _ _ _ _ _ _ _ u i (omega arith) c.greater-own.ensures
    c.last_up_to-high.ensures c.last_up_to.ensures
