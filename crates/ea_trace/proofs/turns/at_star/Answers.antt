use Rattle.std.proofs.Common.{◌+◌, ◌-◌, take, drop, length, rules, tests}
use Rattle.ea_model.proofs.Splits.{split_none, split_first, rest_all, list_any_end}
use Rattle.ea_trace.specs.Lines.{is_star}
use Rattle.ea_trace.proofs.Stars.{has_part}
use Rattle.ea_trace.proofs.turns.at_star.Goals as goal

pub returns-then-word-i-eq42-clause-parts : goal.returns-then-word-i-eq42-clause-parts
returns-then-word-i-eq42-clause-parts c = rw (rest_all (c.loop-i.i + 1) c.args.word.now)
    (split_first is_star c.args.word.now c.loop-i.i c.loop-i-test.true c.loop-i.invariant
    (search (rules, tests)))

pub returns-then-word-i-eq42-clause-more : goal.returns-then-word-i-eq42-clause-more
returns-then-word-i-eq42-clause-more c = has_part
    (take (length c.args.word.now - (c.loop-i.i + 1)) (drop (c.loop-i.i + 1) c.args.word.now))

pub returns-clause-parts : goal.returns-clause-parts
returns-clause-parts c = split_none is_star c.args.word.now
    (list_any_end is_star c.args.word.now c.loop-i.i c.loop-i-test.false c.loop-i.invariant)
