use Rattle.std.proofs.Common.{arith}
use Rattle.ea_contents.proofs.Entering.{found, has-word, read-outside, read-skipped}
use Rattle.ea_contents.proofs.playing.read.Goals as goal

pub returns-in_default : goal.returns-in_default
returns-in_default c = read-skipped c.args.session.now c.args.me c.args.name c.args.index
    c.in_default.ensures.held

pub returns-then-from : goal.returns-then-from
returns-then-from c = read-outside c.args.session.now c.args.me c.args.name c.args.index
    c.in-Some.units c.in-Some.ensures.held c.in-Some.ensures.size
    (omega (arith, c.if-from.true, c.from.ensures, c.from-2.ensures))

pub read-value-requires-clause-word : goal.read-value-requires-clause-word
read-value-requires-clause-word c = has-word c.args.session.now c.args.me c.args.name
    c.args.index c.in-Some.units c.in-Some.ensures.held c.in-Some.ensures.size
    (omega (arith, c.if-from.false, c.from.ensures, c.from-2.ensures))

pub returns : goal.returns
returns c = found c.args.session.now c.args.me c.args.name c.args.index c.in-Some.units
    c.in-Some.ensures.held c.in-Some.ensures.size
    (omega (arith, c.if-from.false, c.from.ensures, c.from-2.ensures)) c.read-value.result
    c.read-value.ensures
