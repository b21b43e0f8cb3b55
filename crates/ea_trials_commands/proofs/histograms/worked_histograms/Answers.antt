use Rattle.std.proofs.Common.{refl}
use Rattle.std.specs.Fmt.{digits}
use Rattle.ea_model.specs.GoodFit.{bin_of, powers}
use Rattle.ea_model.specs.Instance.{unused_from}
use Rattle.ea_machine.specs.Table.{answer, effect}
use Rattle.ea_machine.specs.Machine.{after, step_at}
use Rattle.ea_hist.specs.Intervals.{borders, counts, interval_of}
use Rattle.ea_hist.specs.Text.{sums}
use Rattle.ea_trials_commands.proofs.histograms.worked_histograms.Goals as goal

pub returns-clause-first_block : goal.returns-clause-first_block
unfolding digits unused_from bin_of powers answer effect after step_at borders counts interval_of
    sums
returns-clause-first_block c = refl

pub returns-clause-joined_gap : goal.returns-clause-joined_gap
unfolding digits unused_from bin_of powers answer effect after step_at borders counts interval_of
    sums
returns-clause-joined_gap c = refl

pub returns-clause-no_carriers : goal.returns-clause-no_carriers
unfolding digits unused_from bin_of powers answer effect after step_at borders counts interval_of
    sums
returns-clause-no_carriers c = refl

pub returns-clause-tail : goal.returns-clause-tail
unfolding digits unused_from bin_of powers answer effect after step_at borders counts interval_of
    sums
returns-clause-tail c = refl
