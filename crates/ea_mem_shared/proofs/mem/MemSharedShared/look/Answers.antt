use Rattle.std.proofs.Common.{ap, ◌∙◌}
use Rattle.ea_machine.specs.Owners.{word_of}
use Rattle.ea_mem_shared.proofs.Rows.{did-look}
use Rattle.ea_mem_shared.specs.Memory.{Sharing}
use Rattle.ea_mem_shared.specs.Places.{place_at}
use Rattle.ea_mem_shared.proofs.mem.MemSharedShared.look.Goals as goal

pub returns-clause-row : goal.returns-clause-row
returns-clause-row g c = did-look c.args._me c.args.self.now c.args.carrier c.word.result
    (c.word.ensures
    ∙ ap (λ (x : Sharing). word_of (place_at x.places c.args.carrier)) c.self.view_is)
