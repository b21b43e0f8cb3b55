use Rattle.std.proofs.Common.{◌/◌, ◌%◌, ◌<◌, false, length, get_or, set, ap, ◌∙◌, arith}
use Rattle.ea_contents.specs.Paging.{words_in}
use Rattle.ea_contents.specs.declared.page.TheConstants.{PAGE_WORDS}
use Rattle.ea_contents.proofs.PageWords.{page-at, pages_of, pages-length, there-full}
use Rattle.ea_contents.proofs.PageWords.{word-are, word-length, word-pages, word-set, word-stays}
use Rattle.ea_contents.proofs.PageWords.{words-length}
use Rattle.ea_contents.proofs.pages.Pages.set.Goals as goal

pub index_mut-requires-2 : goal.index_mut-requires-2
index_mut-requires-2 c =
    let vs = c.self.inside.pages.items in
    let i = c.args.at / PAGE_WORDS in
    let v = c.index_mut.result.now in
    let place = there-full PAGE_WORDS i (pages_of vs) c.self.invariant.1
    (ap (λ p. get_or p.there i false) c.self.view_is ∙ c.requires.there) in
    let within : i < length vs = omega (arith, place.0, pages-length vs) in
    omega (arith, v.ok.0, ap length (page-at vs i v within c.index_mut.ensures.value), place.1)

pub invariant_of-self : goal.invariant_of-self
invariant_of-self c =
    let vs = c.self.inside.pages.items in
    let i = c.args.at / PAGE_WORDS in
    let j = c.args.at % PAGE_WORDS in
    let v = c.index_mut.result.now in
    let place = there-full PAGE_WORDS i (pages_of vs) c.self.invariant.1
    (ap (λ p. get_or p.there i false) c.self.view_is ∙ c.requires.there) in
    let within : i < length vs = omega (arith, place.0, pages-length vs) in (
      omega (
        arith,
        c.self.invariant.0,
        word-length vs i v within c.index_mut.ensures.value j c.args.value,
      ),
      word-are vs i v within c.index_mut.ensures.value j c.args.value PAGE_WORDS
          c.self.invariant.1,
    )

pub returns-clause-words : goal.returns-clause-words
returns-clause-words c =
    let units = c.self.inside.units in
    let vs = c.self.inside.pages.items in
    let at = c.args.at in
    let i = at / PAGE_WORDS in
    let j = at % PAGE_WORDS in
    let v = c.index_mut.result.now in
    let place = there-full PAGE_WORDS i (pages_of vs) c.self.invariant.1
    (ap (λ p. get_or p.there i false) c.self.view_is ∙ c.requires.there) in
    let within : i < length vs = omega (arith, place.0, pages-length vs) in
    let less : at < units = omega (
      arith,
      c.requires.within,
      ap (λ p. length p.words) c.self.view_is,
      words-length units vs c.self.invariant.0 c.self.invariant.1,
    ) in
    ap (words_in units) (word-pages vs i v within c.index_mut.ensures.value j c.args.value)
    ∙ word-set units vs c.self.invariant.0 c.self.invariant.1 at i j (omega arith) (omega arith)
    less c.args.value place.1
    ∙ ap (λ p. set p.words at c.args.value) c.self.view_is

pub returns-clause-there : goal.returns-clause-there
returns-clause-there c =
    let vs = c.self.inside.pages.items in
    let i = c.args.at / PAGE_WORDS in
    let place = there-full PAGE_WORDS i (pages_of vs) c.self.invariant.1
    (ap (λ p. get_or p.there i false) c.self.view_is ∙ c.requires.there) in
    let within : i < length vs = omega (arith, place.0, pages-length vs) in
    word-stays vs i c.index_mut.result.now within c.index_mut.ensures.value
    (c.args.at % PAGE_WORDS) c.args.value ∙ ap (λ p. p.there) c.self.view_is
