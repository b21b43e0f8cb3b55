use Rattle.ea_trace.proofs.seen.Seen.is_bad.Goals as goal

pub returns-in-Stop : goal.returns-in-Stop
returns-in-Stop c = rw c.in-Stop.is (c.stops_badly.ensures c.in-Stop.stop.steps)
