use Rattle.std.proofs.Common.{arith}
use Rattle.ea_trace.proofs.Noted.{value_set}
use Rattle.ea_trace.proofs.names.set_value.Goals as goal

pub returns-clause-value : goal.returns-clause-value
returns-clause-value g c = λ k. value_set c.args.table.now.items c.lengthen.new.table.items
    c.args.name k c.args.value c.args.none (omega (arith, c.lengthen.ensures.places))
    (c.lengthen.ensures.same k)
