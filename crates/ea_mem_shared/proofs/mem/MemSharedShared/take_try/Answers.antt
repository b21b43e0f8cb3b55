use Rattle.std.proofs.Common.{◌∙◌}
use Rattle.ea_mem_shared.proofs.Rows.{took-try}
use Rattle.ea_mem_shared.proofs.mem.MemSharedShared.take_try.Goals as goal

pub invariant_of-self : goal.invariant_of-self
invariant_of-self g c = (
  c.take.ensures.same ∙ c.self.invariant.0,
  c.take.ensures.whole c.self.invariant.1,
  c.self.invariant.2,
)

pub returns-clause-row : goal.returns-clause-row
returns-clause-row g c = took-try _ _ _ _ _ _ _ c.self.view_is _ _ c.take.ensures.spot
    c.take.ensures.held
