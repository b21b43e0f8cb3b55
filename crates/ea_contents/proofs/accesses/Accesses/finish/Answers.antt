use Rattle.std.proofs.Common.{[], is_some, sym, ap, subst}
use Rattle.std.specs.Prelude.{All}
use Rattle.ea_contents.specs.Reading.{lists_of}
use Rattle.ea_contents.specs.Script.{IsRising}
use Rattle.ea_contents.proofs.Noting.{finds, rising}
use Rattle.ea_contents.proofs.accesses.Accesses.finish.Goals as goal

pub returns-clause-rising : goal.returns-clause-rising
returns-clause-rising c = λ n all earlier h.
    let a = c.args.self in
    subst (λ items. All IsRising (lists_of items)) (sym c.from_vec.ensures)
    (rising n all earlier a
    (finds n all earlier [] a a.misplaced (ap is_some c.in_default.is) h))
