use Rattle.std.proofs.Common.{◌+◌, get_or, length, set, ap, ◌∙◌, arith}
use Rattle.std.proofs.lemmas.List.{length-set}
use Rattle.ea_contents.proofs.Copying.{forward-more}
use Rattle.ea_contents.proofs.pages.Pages.copy_forward.Goals as goal

pub loop-k-preserved : goal.loop-k-preserved
loop-k-preserved c =
    let k = c.loop-k.k in
    let at = c.args.at in
    let from = c.args.from in (
      c.set.ensures.words
          ∙ ap (set c.loop-k.self.words (at + k)) c.word-word.ensures
          ∙ ap (λ l. set l (at + k) (get_or l (from + k) 0)) c.loop-k.invariant.0
          ∙ forward-more c.args.self.now.words from at k c.requires.order
          (omega (arith, c.requires.fits, c.loop-k-test.true)),
      ap length c.set.ensures.words ∙ length-set c.loop-k.self.words (at + k) c.word-word.result
          ∙ c.loop-k.invariant.1,
      c.set.ensures.there ∙ c.loop-k.invariant.2,
    )
