use Rattle.std.proofs.Common.{subst, sym}
use Rattle.ea_trace.specs.Language.{Gives}
use Rattle.ea_trace.proofs.Taken.{decides_end, tells, tells_end}
use Rattle.ea_trace.proofs.Valid.{given_valid}
use Rattle.ea_trace.proofs.reader.TraceReader.finish.Goals as goal

pub returns-in-Some-clause-given : goal.returns-in-Some-clause-given
returns-in-Some-clause-given c = λ n lines h. decides_end n lines c.args.self c.args.self.refused
    c.in-Some.fault c.in-Some.is h.decides

pub returns-clause-given : goal.returns-clause-given
returns-clause-given c = λ n lines h.
    let r = c.args.self in
    let t = tells n lines r r.refused c.in_default.is h.decides in
    subst (Gives c.finish.result) (sym (tells_end n lines r t))
    (c.finish.ensures n t.earlier t.known t.turns)

pub returns-clause-valid : goal.returns-clause-valid
returns-clause-valid c = λ n lines h.
    let r = c.args.self in
    let t = tells n lines r r.refused c.in_default.is h.decides in
    given_valid c.finish.result lines n (subst (Gives c.finish.result) (sym (tells_end n lines r t))
    (c.finish.ensures n t.earlier t.known t.turns))
