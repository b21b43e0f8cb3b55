use Rattle.std.proofs.Common.{◌+◌, length, set, ap, ◌∙◌, arith}
use Rattle.std.proofs.lemmas.List.{length-set}
use Rattle.ea_contents.proofs.Storing.{cleared-more}
use Rattle.ea_contents.proofs.pages.Pages.clear.Goals as goal

pub loop-k-preserved : goal.loop-k-preserved
loop-k-preserved c =
    let k = c.loop-k.k in
    let at = c.args.at in (
      c.set.ensures.words
          ∙ ap (λ l. set l (at + k) 0) c.loop-k.invariant.0
          ∙ cleared-more c.args.self.now.words at k
          (omega (arith, c.requires.fits, c.loop-k-test.true)),
      ap length c.set.ensures.words ∙ length-set c.loop-k.self.words (at + k) 0
          ∙ c.loop-k.invariant.1,
      c.set.ensures.there ∙ c.loop-k.invariant.2,
    )
