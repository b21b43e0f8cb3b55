use Rattle.std.proofs.Common.{subst, sym}
use Rattle.ea_model.specs.Region.{Laid}
use Rattle.ea_segments.specs.Histories.{segments}
use Rattle.ea_segments.proofs.Legal.{held-laid}
use Rattle.ea_segments.proofs.ledger.Ledger.reply_to_take.Goals as goal

pub lowest_start-requires : goal.lowest_start-requires
lowest_start-requires c =
    let l = c.self.inside in
    subst (λ xs. Laid 0 l.pages (segments xs)) (sym c.deref.ensures.value)
    (held-laid l.pages l.history.items l.held.items c.self.invariant.legal c.self.invariant.held_is)
