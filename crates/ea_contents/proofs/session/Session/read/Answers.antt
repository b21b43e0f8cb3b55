use Rattle.ea_contents.proofs.Standing.{word-read, word-stored, word-within}
use Rattle.ea_contents.proofs.session.Session.read.Goals as goal

pub block_of-requires-clause-held : goal.block_of-requires-clause-held
block_of-requires-clause-held c = λ d t turns lists at. (c.requires.word d t turns lists at).0

pub read-requires-clause-stored : goal.read-requires-clause-stored
read-requires-clause-stored c =
    let (d, t, turns, lists, at) = c.requires.stands in
    word-stored d t turns lists c.args.self.now at c.args.name c.block_of.result
    (c.block_of.ensures d t turns lists at)

pub read-requires-clause-within : goal.read-requires-clause-within
read-requires-clause-within c =
    let (d, t, turns, lists, at) = c.requires.stands in
    word-within d t turns lists c.args.self.now at c.args.name c.block_of.result
    (c.block_of.ensures d t turns lists at) c.args.index (c.requires.word d t turns lists at).1

pub returns : goal.returns
returns c = λ d t turns lists at.
    word-read d t turns lists c.args.self.now at c.args.name c.block_of.result
    (c.block_of.ensures d t turns lists at) c.args.index c.read.result c.read.ensures
