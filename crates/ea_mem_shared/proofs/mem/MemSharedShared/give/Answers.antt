use Rattle.std.proofs.Common.{ap, ◌∙◌, arith}
use Rattle.ea_mem_shared.proofs.Rows.{did-give}
use Rattle.ea_mem_shared.proofs.mem.MemSharedShared.give.Goals as goal

pub hold-requires-clause-place : goal.hold-requires-clause-place
hold-requires-clause-place g c = c.self.invariant.1 c.args.name
    (omega (arith, c.requires.name.1, ap (λ m. m.greatest) c.self.view_is, c.self.invariant.0))

pub invariant_of-self : goal.invariant_of-self
invariant_of-self g c = (
  c.hold.ensures.same ∙ c.self.invariant.0,
  c.hold.ensures.whole c.self.invariant.1,
  c.self.invariant.2,
)

pub returns-clause-row : goal.returns-clause-row
returns-clause-row g c = did-give _ _ _ _ _ _ _ c.self.view_is _ c.hold.ensures.held
