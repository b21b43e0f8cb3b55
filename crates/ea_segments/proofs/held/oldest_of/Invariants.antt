use Rattle.std.proofs.Common.{◌≡◌, drop, filter, fold}
use Rattle.ea_model.specs.Choice.{better}
use Rattle.ea_segments.specs.Histories.{is_earlier, is_of, oldest}
use Rattle.ea_segments.proofs.held.oldest_of.Given as goal

abbrev pub invariant-loop-segment : goal.invariant-loop-segment
invariant-loop-segment l =
    fold (better is_earlier) l.best
    (filter (is_of l.scheduler l.name) (drop l.segment-index l.held))
    ≡ oldest l.scheduler l.name l.held
