use Rattle.std.proofs.Common.{None, is_some, sym, ◌∙◌, arith}
use Rattle.ea_gen.proofs.Emptied.{ended, further, reached}
use Rattle.ea_gen.proofs.hand.first_name.Goals as goal

pub returns-then-is_some : goal.returns-then-is_some
returns-then-is_some c = reached is_some c.args.places.now c.loop-place.place None
    (sym c.is_some.ensures ∙ c.if-is_some.true) c.loop-place.invariant

pub loop-place-preserved : goal.loop-place-preserved
loop-place-preserved c = further is_some c.args.places.now c.loop-place.place None
    (omega arith) (sym c.is_some.ensures ∙ c.if-is_some.false) c.loop-place.invariant

pub returns : goal.returns
returns c = ended is_some c.args.places.now (omega arith)
