use Rattle.std.proofs.Common.{◌+◌, rules, tests}
use Rattle.ea_model.specs.Words.{is_space}
use Rattle.ea_model.proofs.Splits.{words_first, words_none, rest_all, rest_none, list_any_end}
use Rattle.ea_model.proofs.words.word_end.Goals as goal

pub returns-then-is_space-clause-words : goal.returns-then-is_space-clause-words
returns-then-is_space-clause-words c =
    rw (rest_all (c.loop-i.i + 1) c.args.line.now)
    (words_first c.args.line.now c.loop-i.i c.loop-i.auto.i c.loop-i-test.true
    c.loop-i.invariant (search (rules, tests)))

pub returns-clause-words : goal.returns-clause-words
returns-clause-words c =
    rw (rest_none c.args.line.now)
    (words_none c.args.line.now c.requires.first
    (list_any_end is_space c.args.line.now c.loop-i.i c.loop-i-test.false c.loop-i.invariant))
