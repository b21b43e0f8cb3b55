use Rattle.std.proofs.Common.{refl}
use Rattle.ea_contents.proofs.Standing.{word-stored, word-there, word-within, word-written}
use Rattle.ea_contents.proofs.session.Session.write.Goals as goal

pub block_of-block-requires-clause-held : goal.block_of-block-requires-clause-held
block_of-block-requires-clause-held c = λ d t turns lists at.
    (c.requires.word d t turns lists at).0

pub write-requires-clause-stored : goal.write-requires-clause-stored
write-requires-clause-stored c =
    let (d, t, turns, lists, at) = c.requires.stands in
    word-stored d t turns lists c.args.self.now at c.args.name c.block_of-block.result
    (c.block_of-block.ensures d t turns lists at)

pub write-requires-clause-there : goal.write-requires-clause-there
write-requires-clause-there c =
    let (d, t, turns, lists, at) = c.requires.stands in
    word-there d t turns lists c.args.self.now at c.args.name c.block_of-block.result
    (c.block_of-block.ensures d t turns lists at)

pub write-requires-clause-within : goal.write-requires-clause-within
write-requires-clause-within c =
    let (d, t, turns, lists, at) = c.requires.stands in
    word-within d t turns lists c.args.self.now at c.args.name c.block_of-block.result
    (c.block_of-block.ensures d t turns lists at) c.args.index
    (c.requires.word d t turns lists at).1

pub returns : goal.returns
returns c = λ d t turns lists at.
    let s = c.args.self.now in
    let x = c.block_of-block.result in
    let lies = c.block_of-block.ensures d t turns lists at in
    word-written d t turns lists s at c.args.name x lies c.args.index c.args.value
    (word-within d t turns lists s at c.args.name x lies c.args.index
    (c.requires.word d t turns lists at).1) _ refl refl refl refl c.write.ensures.words
    c.write.ensures.there
