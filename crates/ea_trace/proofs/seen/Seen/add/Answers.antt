use Rattle.std.proofs.lemmas.Result.{on_ok_weaker}
use Rattle.ea_trace.proofs.seen.Seen.add.Goals as goal

pub returns-in-Section : goal.returns-in-Section
returns-in-Section c = on_ok_weaker c.begin.result (λ d n earlier k fresh number. rw c.in-Section.is
    (d n c.in-Section.number earlier k)) c.begin.ensures

pub returns-in-Operation : goal.returns-in-Operation
returns-in-Operation c = on_ok_weaker c.note.result (λ d n earlier k fresh number. rw
    c.in-Operation.is (d n earlier k (rw c.in-Operation.is at fresh) number)) c.note.ensures

pub returns-in-Turns : goal.returns-in-Turns
returns-in-Turns c = λ n earlier k fresh number. rw c.in-Turns.is (c.note_turns.ensures n earlier k)

pub returns-in_default : goal.returns-in_default
returns-in_default c = λ n earlier k fresh number. c.pass.ensures n earlier k

pub returns-in-Stop : goal.returns-in-Stop
returns-in-Stop c = on_ok_weaker c.note_stop.result (λ d n earlier k fresh number. rw c.in-Stop.is
    (d n earlier k)) c.note_stop.ensures
