use Rattle.std.proofs.Common.{arith}
use Rattle.ea_keytree.proofs.Searching.{here, low_tree, high_tree, least_empty, least_past}
use Rattle.ea_keytree.proofs.Searching.{least_half, least_whole}
use Rattle.ea_keytree.proofs.searches.+first.Goals as goal

pub first_from-returns-then-link-eq0 : goal.first_from-returns-then-link-eq0
first_from-returns-then-link-eq0 t c = λ u i. least_empty _ _ _ _ _ _ u _ i c.if-link-eq0.true

pub first_from-returns-then-from-width : goal.first_from-returns-then-from-width
first_from-returns-then-from-width t c = λ u i. least_past _ _ _ _ _ _ u _ i c.if-from-width.true

pub first_below-bounds-nodes-position : goal.first_below-bounds-nodes-position
first_below-bounds-nodes-position t c = (here _ _ _ _ _ c.requires.tree.1 (omega arith)).0

pub first_below-first_from-low-requires : goal.first_below-first_from-low-requires
first_below-first_from-low-requires t c =
    let w = low_tree _ _ _ _ _ _ c.requires.tree.1 (omega arith) in
    (omega arith, (omega arith, w.1))

pub first_below-returns-then-low-from : goal.first_below-returns-then-low-from
first_below-returns-then-low-from t c = λ u i.
    least_half _ _ _ _ _ _ _ _ u i (omega arith) c.lesser-own.ensures
    c.first_from-low.ensures c.if-low-from.true

pub first_below-first_from-requires : goal.first_below-first_from-requires
first_below-first_from-requires t c =
    let w = high_tree _ _ _ _ _ _ c.requires.tree.1 (omega arith) in
    (omega arith, (omega arith, w.1))

pub first_below-returns : goal.first_below-returns
first_below-returns t c = λ u i.
    least_whole _ _ _ _ _ _ _ _ _ u i (omega arith) c.lesser-own.ensures
    c.first_from-low.ensures c.first_from.ensures
