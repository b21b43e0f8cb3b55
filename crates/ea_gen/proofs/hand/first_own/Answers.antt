use Rattle.std.proofs.Common.{None, sym, ◌∙◌, arith}
use Rattle.ea_gen.specs.Places.{has_within}
use Rattle.ea_gen.proofs.Emptied.{ended, further, reached}
use Rattle.ea_gen.proofs.hand.first_own.Goals as goal

pub returns-then-is_in : goal.returns-then-is_in
returns-then-is_in c = reached (has_within c.args.low c.args.high) c.args.places.now
    c.loop-place.place None (sym c.is_in.ensures ∙ c.if-is_in.true) c.loop-place.invariant

pub loop-place-preserved : goal.loop-place-preserved
loop-place-preserved c = further (has_within c.args.low c.args.high) c.args.places.now
    c.loop-place.place None (omega arith) (sym c.is_in.ensures ∙ c.if-is_in.false)
    c.loop-place.invariant

pub returns : goal.returns
returns c = ended (has_within c.args.low c.args.high) c.args.places.now (omega arith)
