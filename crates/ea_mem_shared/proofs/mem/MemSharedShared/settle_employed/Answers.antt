use Rattle.ea_mem_shared.proofs.Rows.{did-settle_empty}
use Rattle.ea_mem_shared.proofs.mem.MemSharedShared.settle_employed.Goals as goal

pub returns-clause-row : goal.returns-clause-row
returns-clause-row g c = λ x emptied wanted. did-settle_empty
    _ _ _ _ _ _ c.self.view_is c.self.invariant.2
    c.requires.migrates c.args.carrier c.requires.carrier _
    x emptied.number emptied.empty c.put.ensures
