use Rattle.std.proofs.Common.{◌+◌, ◌*◌, ◌/◌, take, ap, ◌∙◌, arith}
use Rattle.ea_contents.specs.Paging.{there_in, words_in}
use Rattle.ea_contents.specs.declared.page.TheConstants.{PAGE_WORDS}
use Rattle.std.proofs.lemmas.List.{take-replicate}
use Rattle.ea_contents.proofs.PageWords.{joined-none, none-there}
use Rattle.ea_contents.proofs.pages.Pages.new.Goals as goal

pub returns-clause-words : goal.returns-clause-words
returns-clause-words c =
    let units = c.args.units in
    let n = units / PAGE_WORDS + 1 in
    ap (words_in units) c.in_ok-pages.ensures
    ∙ ap (take units) (joined-none PAGE_WORDS n)
    ∙ take-replicate units (n * PAGE_WORDS) 0 (omega arith)

pub returns-clause-there : goal.returns-clause-there
returns-clause-there c =
    ap there_in c.in_ok-pages.ensures ∙ none-there (c.args.units / PAGE_WORDS + 1)
