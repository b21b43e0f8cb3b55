use Rattle.std.proofs.Common.{arith}
use Rattle.ea_contents.proofs.Entering.{has-word, has-written, none-outside, none-written}
use Rattle.ea_contents.proofs.Entering.{write-outside, write-skipped, wrote}
use Rattle.ea_contents.proofs.playing.write.Goals as goal

pub returns-in_default-clause-told : goal.returns-in_default-clause-told
returns-in_default-clause-told c = write-skipped c.args.session.now c.args.me c.args.name
    c.args.index c.in_default.ensures.held c.args.value

pub returns-in_default-clause-made : goal.returns-in_default-clause-made
returns-in_default-clause-made c = none-written c.args.session.now c.args.me c.args.name
    c.args.index c.in_default.ensures.held c.args.value

pub returns-then-from-clause-told : goal.returns-then-from-clause-told
returns-then-from-clause-told c = write-outside c.args.session.now c.args.me c.args.name
    c.args.index c.in-Some.units c.in-Some.ensures.held c.in-Some.ensures.size
    (omega (arith, c.if-from.true, c.from.ensures, c.from-2.ensures)) c.args.value

pub returns-then-from-clause-made : goal.returns-then-from-clause-made
returns-then-from-clause-made c = none-outside c.args.session.now c.args.me c.args.name
    c.args.index c.in-Some.units c.in-Some.ensures.held c.in-Some.ensures.size
    (omega (arith, c.if-from.true, c.from.ensures, c.from-2.ensures)) c.args.value

pub write-requires-clause-word : goal.write-requires-clause-word
write-requires-clause-word c = has-word c.args.session.now c.args.me c.args.name c.args.index
    c.in-Some.units c.in-Some.ensures.held c.in-Some.ensures.size
    (omega (arith, c.if-from.false, c.from.ensures, c.from-2.ensures))

pub returns-clause-told : goal.returns-clause-told
returns-clause-told c = wrote c.args.session.now c.args.me c.args.name c.args.index
    c.in-Some.units c.in-Some.ensures.held c.in-Some.ensures.size
    (omega (arith, c.if-from.false, c.from.ensures, c.from-2.ensures)) c.args.value

pub returns-clause-made : goal.returns-clause-made
returns-clause-made c = has-written c.args.session.now c.args.me c.args.name c.args.index
    c.in-Some.units c.in-Some.ensures.held c.in-Some.ensures.size
    (omega (arith, c.if-from.false, c.from.ensures, c.from-2.ensures)) c.args.value
    c.write.new.self c.write.ensures
