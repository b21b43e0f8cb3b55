use Rattle.std.proofs.Common.{[], ◌≡◌, arith, drop, ◌∙◌}
use Rattle.std.proofs.lemmas.List.{drop_all}
use Rattle.ea_hist.specs.Text.{blocks_in, gaps_in, layout_text}
use Rattle.ea_hist.proofs.Texts.{printed, whole}
use Rattle.ea_hist.proofs.text.print_histograms.Goals as goal

pub returns : goal.returns
returns c =
    let ls = c.args.layouts.now in
    let rest = drop c.loop-layout.layout-index ls in
    let none : rest ≡ [] = drop_all c.loop-layout.layout-index ls
    (omega (arith, c.loop-layout-test.false)) in
    let is = c.loop-layout.invariant in
    printed ls _ _ _ _ _
    (whole layout_text _ rest ls none is.text)
    (c.as_slice-2.ensures ∙ whole blocks_in _ rest ls none is.blocks)
    (c.as_slice-3.ensures ∙ whole gaps_in _ rest ls none is.gaps)
    c.in_ok-put_text.ensures.ok c.in_ok-put_counts.ensures
