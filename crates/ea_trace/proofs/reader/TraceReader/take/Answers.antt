use Rattle.std.proofs.Common.{◌≡◌, None, sym, ◌∙◌, arith}
use Rattle.ea_trace.proofs.Taken.{decided, none_of, one_more, tells}
use Rattle.ea_trace.proofs.reader.TraceReader.take.Goals as goal

pub returns-clause-taken : goal.returns-clause-taken
returns-clause-taken c = λ n before words h e.
    let r = c.args.self.now in
    let none : r.refused ≡ None = none_of r.refused (sym c.is_some.ensures ∙ c.if-is_some.false) in
    let t = tells n before r r.refused none h.decides in
    record {
      count = one_more before words r.taken h.count;
      decides = decided n before words r _ _ c.in_ok-self.field-0 t e
          (c.in_ok-self.ensures n t.earlier t.known (omega (arith, t.count, h.count)))
          c.in_ok-tally.ensures.added;
    }
