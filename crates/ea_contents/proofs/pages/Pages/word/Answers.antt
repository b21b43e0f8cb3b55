use Rattle.std.proofs.Common.{◌/◌, ◌%◌, ◌<◌, length, get_or, sym, ap, ◌∙◌, arith}
use Rattle.ea_contents.specs.declared.page.TheConstants.{PAGE_WORDS}
use Rattle.std.proofs.lemmas.List.{get_or_read}
use Rattle.ea_contents.proofs.PageWords.{full-there, word-none, word-there, words-length}
use Rattle.ea_contents.proofs.pages.Pages.word.Goals as goal

pub returns-then-is_empty : goal.returns-then-is_empty
returns-then-is_empty c =
    let units = c.self.inside.units in
    let vs = c.self.inside.pages.items in
    let at = c.args.at in
    let less : at < units = omega (
      arith,
      c.requires,
      ap (λ p. length p.words) c.self.view_is,
      words-length units vs c.self.invariant.0 c.self.invariant.1,
    ) in
    sym (word-none units vs c.self.invariant.0 c.self.invariant.1 at (at / PAGE_WORDS)
    (at % PAGE_WORDS) (omega arith) (omega arith) less c.index-page.result.now
    c.index-page.ensures c.if-is_empty.ensures)
    ∙ ap (λ p. get_or p.words at 0) c.self.view_is

pub index-requires : goal.index-requires
index-requires c =
    let units = c.self.inside.units in
    let vs = c.self.inside.pages.items in
    let at = c.args.at in
    let v = c.index-page.result.now in
    let less : at < units = omega (
      arith,
      c.requires,
      ap (λ p. length p.words) c.self.view_is,
      words-length units vs c.self.invariant.0 c.self.invariant.1,
    ) in
    let full = full-there units vs c.self.invariant.0 c.self.invariant.1 at (at / PAGE_WORDS)
    (at % PAGE_WORDS) (omega arith) (omega arith) less v c.index-page.ensures
    c.if-is_empty.ensures in
    omega (arith, v.ok.0, full)

pub returns : goal.returns
returns c =
    let units = c.self.inside.units in
    let vs = c.self.inside.pages.items in
    let at = c.args.at in
    let v = c.index-page.result.now in
    let less : at < units = omega (
      arith,
      c.requires,
      ap (λ p. length p.words) c.self.view_is,
      words-length units vs c.self.invariant.0 c.self.invariant.1,
    ) in
    let full = full-there units vs c.self.invariant.0 c.self.invariant.1 at (at / PAGE_WORDS)
    (at % PAGE_WORDS) (omega arith) (omega arith) less v c.index-page.ensures
    c.if-is_empty.ensures in
    get_or_read v.items (at % PAGE_WORDS) _ (omega (arith, full)) c.index.ensures 0
    ∙ word-there units vs c.self.invariant.0 c.self.invariant.1 at (at / PAGE_WORDS)
    (at % PAGE_WORDS) (omega arith) (omega arith) less v c.index-page.ensures
    c.if-is_empty.ensures
    ∙ ap (λ p. get_or p.words at 0) c.self.view_is
