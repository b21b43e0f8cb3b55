use Rattle.ea_given.proofs.AnswersTold.{answer-read, answer-told}
use Rattle.ea_given.proofs.run.GivenRun.answer.Goals as goal

pub answer_of-requires : goal.answer_of-requires
answer_of-requires c = answer-read c.args.self.now c.args.me c.requires.scheduler c.args.wanted
    c.requires.wanted c.requires.stands

pub returns : goal.returns
returns c = answer-told c.args.self.now c.args.me c.requires.scheduler c.args.wanted
    c.requires.wanted c.answer_of.result c.answer_of.ensures
