use Rattle.std.proofs.Common.{ap, ◌∙◌}
use Rattle.ea_model.specs.declared.units.TheConstants.{HEADER_UNITS}
use Rattle.ea_model.specs.Content.{gaps, largest}
use Rattle.ea_mbc.specs.Coding.{blocks_of}
use Rattle.ea_mbc.specs.Layout.{Layout}
use Rattle.ea_mbc.proofs.Apart.{gaps-AreApart}
use Rattle.ea_mbc.proofs.Chosen.{largest-is}
use Rattle.ea_mbc.proofs.units.CarrierUnits.greatest.Goals as goal

pub returns : goal.returns
returns c =
    let u = c.self.inside in
    let bs = blocks_of u.tags u.names u.end in
    largest-is HEADER_UNITS u.end u.end u.index (gaps HEADER_UNITS u.end bs)
    (gaps-AreApart HEADER_UNITS u.end bs c.self.invariant.coded.0.tiled) c.self.invariant.indexed
    c.largest.result c.largest.ensures.bound c.largest.ensures.met
    ∙ ap (λ (l : Layout). largest (gaps HEADER_UNITS l.end l.blocks)) c.self.view_is
