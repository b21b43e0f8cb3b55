use Rattle.std.proofs.Common.{length, sym, ap, ◌∙◌}
use Rattle.ea_contents.proofs.PageWords.{words-length}
use Rattle.ea_contents.proofs.pages.Pages.len.Goals as goal

pub returns : goal.returns
returns c =
    sym (words-length c.self.inside.units c.self.inside.pages.items c.self.invariant.0
    c.self.invariant.1) ∙ ap (λ p. length p.words) c.self.view_is
