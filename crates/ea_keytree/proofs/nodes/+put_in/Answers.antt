use Rattle.std.proofs.Common.{arith}
use Rattle.ea_keytree.proofs.Putting.{put_bounds, put_here, put_low_may, put_high_may, put_low}
use Rattle.ea_keytree.proofs.Putting.{put_high}
use Rattle.ea_keytree.proofs.nodes.+put_in.Goals as goal

pub returns-then-link-eq0 : goal.returns-then-link-eq0
returns-then-link-eq0 t c = λ keys u m. put_here keys _ _ _ _ _ _ u m c.if-link-eq0.true

pub slice_copy_out-node : goal.slice_copy_out-node
slice_copy_out-node t c =
    put_bounds _ _ _ _ _ _ _ _ c.requires.may.1.1 c.if-link-eq0.false

pub put_in-low-requires : goal.put_in-low-requires
put_in-low-requires t c =
    let w = put_low_may _ _ _ _ _ _ _ _ c.requires.may.1.1 c.if-link-eq0.false
    c.if-key-from.true in
    (omega arith, (c.requires.few, (omega arith, w.1)))

pub bounds-nodes-at : goal.bounds-nodes-at
bounds-nodes-at t c =
    let b = put_bounds _ _ _ _ _ _ _ _ c.requires.may.1.1 c.if-link-eq0.false in omega arith

pub returns-then-key-from : goal.returns-then-key-from
returns-then-key-from t c = λ keys u m.
    put_low keys _ _ _ _ _ _ _ _ u m c.if-link-eq0.false c.if-key-from.true c.put_in-low.ensures

pub put_in-high-requires : goal.put_in-high-requires
put_in-high-requires t c =
    let w = put_high_may _ _ _ _ _ _ _ _ c.requires.may.1.1 c.if-link-eq0.false
    c.if-key-from.false in
    (omega arith, (c.requires.few, (omega arith, w.1)))

pub bounds-nodes-at-2 : goal.bounds-nodes-at-2
bounds-nodes-at-2 t c =
    let b = put_bounds _ _ _ _ _ _ _ _ c.requires.may.1.1 c.if-link-eq0.false in omega arith

pub returns : goal.returns
returns t c = λ keys u m.
    put_high keys _ _ _ _ _ _ _ _ u m c.if-link-eq0.false c.if-key-from.false c.put_in-high.ensures
