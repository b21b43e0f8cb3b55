use Rattle.std.proofs.Common.{ap, ◌∙◌}
use Rattle.ea_model.specs.declared.units.TheConstants.{HEADER_UNITS}
use Rattle.ea_model.specs.Content.{gaps}
use Rattle.ea_model.specs.Choice.{choice}
use Rattle.ea_mbc.specs.Coding.{blocks_of}
use Rattle.ea_mbc.specs.Layout.{Layout}
use Rattle.ea_mbc.proofs.Apart.{gaps-AreApart}
use Rattle.ea_mbc.proofs.units.CarrierUnits.best_gap.Goals as goal

pub returns-in-Some : goal.returns-in-Some
returns-in-Some c =
    let u = c.self.inside in
    let bs = blocks_of u.tags u.names u.end in
    c.in-Some.ensures.chosen u.end (gaps HEADER_UNITS u.end bs) c.self.invariant.indexed
    (gaps-AreApart HEADER_UNITS u.end bs c.self.invariant.coded.0.tiled)
    ∙ ap (λ (l : Layout). choice c.args.inner c.args.need (gaps HEADER_UNITS l.end l.blocks))
    c.self.view_is
