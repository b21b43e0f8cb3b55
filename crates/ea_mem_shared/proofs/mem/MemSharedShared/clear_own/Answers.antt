use Rattle.std.proofs.Common.{ap, ◌∙◌}
use Rattle.std.specs.Prelude.{None}
use Rattle.ea_mem_shared.proofs.Rows.{did-clear, none-home}
use Rattle.ea_mem_shared.specs.Memory.{Sharing}
use Rattle.ea_mem_shared.specs.Places.{place_at}
use Rattle.ea_mem_shared.proofs.mem.MemSharedShared.clear_own.Goals as goal

pub returns-clause-row : goal.returns-clause-row
returns-clause-row g c = did-clear _ _ _ _ _ _ c.self.view_is c.self.invariant.2
    c.requires.migrates c.args.carrier c.requires.carrier _ None
    (none-home c.args._me _ (ap (λ (x : Sharing). place_at x.places c.args.carrier) c.self.view_is
    ∙ c.requires.employed)) c.put.ensures
