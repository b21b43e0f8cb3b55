use Rattle.std.proofs.Common.{◌≡◌, ◌++◌, drop}
use Rattle.std.specs.Prelude.{flat_map}
use Rattle.ea_hist.specs.Text.{blocks_in, gaps_in, layout_text}
use Rattle.ea_hist.proofs.text.print_histograms.Given as goal

abbrev pub invariant-loop-layout : goal.invariant-loop-layout
invariant-loop-layout l =
    let rest = drop l.layout-index l.layouts in
    record {
      text : l.text.items ++ flat_map layout_text rest ≡ flat_map layout_text l.layouts;
      blocks : l.blocks.items ++ flat_map blocks_in rest ≡ flat_map blocks_in l.layouts;
      gaps : l.gaps.items ++ flat_map gaps_in rest ≡ flat_map gaps_in l.layouts;
    }
