use Rattle.std.proofs.Common.{◌+◌, ◌-◌, get_or, length, set, ap, ◌∙◌, arith}
use Rattle.std.proofs.lemmas.List.{length-set}
use Rattle.ea_contents.proofs.Copying.{backward-more}
use Rattle.ea_contents.proofs.pages.Pages.copy_backward.Goals as goal

pub loop-left-preserved : goal.loop-left-preserved
loop-left-preserved c =
    let more = c.loop-left.left in
    let left = more - 1 in
    let at = c.args.at in
    let from = c.args.from in (
      c.set.ensures.words
          ∙ ap (set c.loop-left.self.words (at + left)) c.word-word.ensures
          ∙ ap (λ l. set l (at + left) (get_or l (from + left) 0)) c.loop-left.invariant.0
          ∙ backward-more c.args.self.now.words from at c.args.count left more c.requires.order
          c.requires.fits (omega (arith, c.loop-left-test.true)) c.loop-left.invariant.3,
      ap length c.set.ensures.words
          ∙ length-set c.loop-left.self.words (at + left) c.word-word.result
          ∙ c.loop-left.invariant.1,
      c.set.ensures.there ∙ c.loop-left.invariant.2,
      omega (arith, c.loop-left.invariant.3),
    )
