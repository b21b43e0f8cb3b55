use Rattle.std.proofs.Common.{get_or, ap, ◌∙◌}
use Rattle.ea_employed.specs.Listed.{CarrierList}
use Rattle.ea_employed.proofs.Finding.{found-there}
use Rattle.ea_employed.proofs.carriers.Carriers.at.Goals as goal

pub returns : goal.returns
returns c =
    let x = c.index.result.now in
    found-there c.args.self.now.contents c.args.found x c.requires.laid.rising c.requires.found
    (c.index.ensures
    ∙ ap (λ (l : CarrierList). get_or l.contents c.args.found.index x) c.self.view_is)
