use Rattle.ea_mbc.proofs.Finding.{blocks-tags, gaps-tags}
use Rattle.ea_mbc.proofs.Seen.{seen}
use Rattle.ea_mbc.proofs.units.CarrierUnits.tags.Goals as goal

pub returns-clause-blocks : goal.returns-clause-blocks
returns-clause-blocks c =
    blocks-tags _ _ _ _ (seen _ _ _ c.args.self.now c.self.view_is c.self.invariant.coded).coded

pub returns-clause-gaps : goal.returns-clause-gaps
returns-clause-gaps c =
    gaps-tags _ _ _ _ (seen _ _ _ c.args.self.now c.self.view_is c.self.invariant.coded).coded
