use Rattle.std.proofs.Common.{◌<◌, false, length, get_or, take, sym, ap, ◌∙◌, arith, rules}
use Rattle.ea_contents.specs.declared.page.TheConstants.{PAGE_WORDS}
use Rattle.ea_contents.proofs.PageWords.{page-there, taken-are, taken-here, taken-length}
use Rattle.ea_contents.proofs.PageWords.{taken-stays, taken-words, words-length}
use Rattle.ea_contents.proofs.pages.Pages.hold_page.Goals as goal

pub invariant_of-self : goal.invariant_of-self
invariant_of-self c =
    let vs = c.self.inside.pages.items in
    let i = c.args.index in
    let within : i < length vs = omega (
      arith,
      c.requires,
      c.self.invariant.0,
      ap (λ p. length p.words) c.self.view_is,
      words-length c.self.inside.units vs c.self.invariant.0 c.self.invariant.1,
    ) in
    let w = c.in_ok-self-inside.field-0 in
    let zeros = c.in_ok-self-inside.ensures.items_if_clones_equal (search rules) in (
      omega (
        arith,
        c.self.invariant.0,
        taken-length vs i c.index.result.now within
            c.index.ensures c.if-is_empty.ensures PAGE_WORDS w zeros,
      ),
      taken-are vs i c.index.result.now within c.index.ensures c.if-is_empty.ensures PAGE_WORDS
          w zeros c.self.invariant.1,
    )

pub returns-in_ok-self-inside-clause-words : goal.returns-in_ok-self-inside-clause-words
returns-in_ok-self-inside-clause-words c =
    let vs = c.self.inside.pages.items in
    let i = c.args.index in
    let within : i < length vs = omega (
      arith,
      c.requires,
      c.self.invariant.0,
      ap (λ p. length p.words) c.self.view_is,
      words-length c.self.inside.units vs c.self.invariant.0 c.self.invariant.1,
    ) in
    ap (take c.self.inside.units) (taken-words vs i c.index.result.now within c.index.ensures
    c.if-is_empty.ensures PAGE_WORDS c.in_ok-self-inside.field-0
    (c.in_ok-self-inside.ensures.items_if_clones_equal (search rules)))
    ∙ ap (λ p. p.words) c.self.view_is

pub returns-in_ok-self-inside-clause-there : goal.returns-in_ok-self-inside-clause-there
returns-in_ok-self-inside-clause-there c =
    let vs = c.self.inside.pages.items in
    let i = c.args.index in
    let within : i < length vs = omega (
      arith,
      c.requires,
      c.self.invariant.0,
      ap (λ p. length p.words) c.self.view_is,
      words-length c.self.inside.units vs c.self.invariant.0 c.self.invariant.1,
    ) in
    taken-here vs i c.index.result.now within c.index.ensures c.if-is_empty.ensures PAGE_WORDS
    c.in_ok-self-inside.field-0 (c.in_ok-self-inside.ensures.items_if_clones_equal (search rules))
    (omega arith)

pub returns-in_ok-self-inside-clause-kept : goal.returns-in_ok-self-inside-clause-kept
returns-in_ok-self-inside-clause-kept c =
    let vs = c.self.inside.pages.items in
    let i = c.args.index in
    let within : i < length vs = omega (
      arith,
      c.requires,
      c.self.invariant.0,
      ap (λ p. length p.words) c.self.view_is,
      words-length c.self.inside.units vs c.self.invariant.0 c.self.invariant.1,
    ) in
    λ k has. taken-stays vs i c.index.result.now within c.index.ensures c.if-is_empty.ensures
    PAGE_WORDS c.in_ok-self-inside.field-0
    (c.in_ok-self-inside.ensures.items_if_clones_equal (search rules)) (omega arith) k
    (ap (λ p. get_or p.there k false) c.self.view_is ∙ has)

pub returns-else-is_empty-clause-there : goal.returns-else-is_empty-clause-there
returns-else-is_empty-clause-there c =
    let vs = c.self.inside.pages.items in
    let i = c.args.index in
    let within : i < length vs = omega (
      arith,
      c.requires,
      c.self.invariant.0,
      ap (λ p. length p.words) c.self.view_is,
      words-length c.self.inside.units vs c.self.invariant.0 c.self.invariant.1,
    ) in
    sym (ap (λ p. get_or p.there i false) c.self.view_is)
    ∙ page-there vs i c.index.result.now within c.index.ensures c.if-is_empty.ensures
