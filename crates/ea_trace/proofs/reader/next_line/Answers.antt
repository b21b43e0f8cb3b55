use Rattle.std.proofs.Common.{sym, subst}
use Rattle.ea_trace.specs.Ranges.{InRange}
use Rattle.ea_trace.proofs.Ranges.{words_ranges}
use Rattle.ea_trace.proofs.reader.next_line.Goals as goal

pub returns-in-Some-clause-range : goal.returns-in-Some-clause-range
returns-in-Some-clause-range c = subst InRange (sym c.in-Some.ensures.says.says)
    (words_ranges c.in-Some.ensures.says.words)
