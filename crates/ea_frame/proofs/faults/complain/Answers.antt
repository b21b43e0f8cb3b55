use Rattle.ea_frame.specs.Faults.{fault_line}
use Rattle.ea_frame.proofs.Lines.{whole-line}
use Rattle.ea_frame.proofs.faults.complain.Goals as goal

pub returns-clause-line : goal.returns-clause-line
returns-clause-line g c =
    let wrote = c.write_line.ensures in (
      wrote.front,
      λ calm. whole-line g.E.Sink.taken g.E.Sink.faults _ _ (fault_line c.args.fault)
          c.write_line.result wrote.whole wrote.stops calm,
    )
