use Rattle.std.proofs.Common.{subst, sym, arith}
use Rattle.ea_model.specs.Region.{Laid}
use Rattle.ea_segments.specs.Histories.{segments}
use Rattle.ea_segments.proofs.Legal.{held-few, held-laid}
use Rattle.ea_segments.proofs.ledger.Ledger.into_book.Goals as goal

pub overflow_cast-segments : goal.overflow_cast-segments
overflow_cast-segments c =
    let l = c.self.inside in
    omega (
      arith,
      c.len-segments.ensures,
      held-few l.pages l.history.items l.held.items
          c.self.invariant.legal c.self.invariant.held_is,
    )

pub pages_of-pages-requires : goal.pages_of-pages-requires
pages_of-pages-requires c =
    let l = c.self.inside in
    subst (λ xs. Laid 0 l.pages (segments xs)) (sym c.deref.ensures.value)
    (held-laid l.pages l.history.items l.held.items c.self.invariant.legal c.self.invariant.held_is)
