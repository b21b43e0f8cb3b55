use Rattle.std.proofs.Common.{length, sym, ap, ◌∙◌}
use Rattle.ea_tags.proofs.Pages.{numbers-long}
use Rattle.ea_tags.proofs.paged.PagedArray.len.Goals as goal

pub returns : goal.returns
returns c = sym (numbers-long _ _ _) ∙ ap length c.self.view_is
