use Rattle.ea_contents.proofs.Played.{ended-told, rests-not, rests-so}
use Rattle.ea_contents.proofs.playing.Play.rests.Goals as goal

pub returns-then-not-ended : goal.returns-then-not-ended
returns-then-not-ended c = rests-not c.args.self.now c.args.me c.ended.result
    (ended-told c.args.self.now c.args.me c.ended.result c.ended.ensures) c.if-not-ended.true

pub returns : goal.returns
returns c = rests-so c.args.self.now c.args.me c.ended.result
    (ended-told c.args.self.now c.args.me c.ended.result c.ended.ensures) c.if-not-ended.false
    c.waiting.result c.waiting.ensures c.is_none.result c.is_none.ensures
