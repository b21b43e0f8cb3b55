use Rattle.std.proofs.Common.{refl}
use Rattle.std.proofs.lemmas.Result.{on_ok_weaker}
use Rattle.ea_trace.specs.Between.{earlier_of}
use Rattle.ea_contents.proofs.Noting.{places}
use Rattle.ea_contents.proofs.accesses.Accesses.place.Goals as goal

pub returns : goal.returns
returns c = on_ok_weaker c.add.result (λ added. λ n lines later t h ok inside.
    places n (earlier_of lines) c.args.access c.args.self.now _ c.section.result
    c.operations-after.result refl (c.first_unheld-self.ensures n lines later t h ok inside)
    (c.section.ensures.begun n lines later t h ok) (c.operations-after.ensures n lines later t h ok)
    (c.section.ensures.few n lines later t h ok) inside added) c.add.ensures
