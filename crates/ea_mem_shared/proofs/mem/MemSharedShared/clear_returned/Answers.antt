use Rattle.std.proofs.Common.{sym, subst}
use Rattle.std.specs.Prelude.{Some}
use Rattle.ea_shared.specs.Carriers.{HasReturned}
use Rattle.ea_mem_shared.proofs.Rows.{did-clear, some-home}
use Rattle.ea_mem_shared.specs.Memory.{Sharing}
use Rattle.ea_mem_shared.specs.Places.{place_at}
use Rattle.ea_mem_shared.proofs.mem.MemSharedShared.clear_returned.Goals as goal

pub returns-clause-row : goal.returns-clause-row
returns-clause-row g c = did-clear _ _ _ _ _ _ c.self.view_is c.self.invariant.2
    c.requires.migrates c.args.carrier c.requires.carrier _
    (Some (g.C.Carried.content c.take_returned.result))
    (some-home c.args.me _ _
    (subst (λ (x : Sharing). HasReturned c.args.me (place_at x.places c.args.carrier))
    (sym c.self.view_is) c.requires.returned) c.take_returned.ensures.content)
    c.take_returned.ensures.places
