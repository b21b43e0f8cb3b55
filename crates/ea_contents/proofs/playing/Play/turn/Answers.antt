use Rattle.std.proofs.Common.{refl, sym, ◌∙◌}
use Rattle.std.proofs.lemmas.Result.{on_ok_weaker}
use Rattle.ea_contents.proofs.Plays.{step-stands}
use Rattle.ea_contents.proofs.Played.{session-is}
use Rattle.ea_contents.proofs.playing.Play.turn.Goals as goal

pub make-requires-clause-waits : goal.make-requires-clause-waits
make-requires-clause-waits c = λ d t ss m at. sym (c.waiting.ensures d t ss m at) ∙ c.in-Some.is

pub turn-requires-clause-stands : goal.turn-requires-clause-stands
turn-requires-clause-stands c = λ going. session-is c.args.self.now c.requires.stands

pub turn-requires-clause-scheduler : goal.turn-requires-clause-scheduler
turn-requires-clause-scheduler c = λ going. c.requires.scheduler

pub returns-in-None : goal.returns-in-None
returns-in-None c = on_ok_weaker c.turn.result (λ went. λ d t ss m at.
    step-stands d t ss m c.args.self.now at c.args.me c.requires.scheduler _ refl refl went
    (sym (c.waiting.ensures d t ss m at) ∙ c.in-None.is)) c.turn.ensures.stepped
