use Rattle.ea_mbc.proofs.Figures.{known, Renaming, renaming}
use Rattle.ea_mbc.proofs.carrier.Mbc.rename.Goals as goal

renamed : (c : goal.After-rename)
    → Renaming c.args.self.now c.rename.new.self c.self.inside.largest c.self.inside.allocated
    c.self.inside.count c.args.offset c.args.name
renamed c =
    let k = known _ _ _ _ _ _ _ _ c.args.self.now c.self.view_is c.self.invariant in
    renaming _ _ _ c.args.offset c.args.name _ c.rename.new.self c.args.self.now k c.requires
    c.rename.ensures.end c.rename.ensures.blocks

pub invariant_of-self : goal.invariant_of-self
invariant_of-self c = (renamed c).figures

pub returns-clause-begins : goal.returns-clause-begins
returns-clause-begins c = (renamed c).begins

pub returns-clause-others : goal.returns-clause-others
returns-clause-others c = (renamed c).others

pub returns-clause-gaps : goal.returns-clause-gaps
returns-clause-gaps c = (renamed c).gaps
