use Rattle.ea_types.proofs.Tabled.{still-at_work, works-on}
use Rattle.ea_types.proofs.at_work.step_all.Goals as goal

pub run_out_all-requires : goal.run_out_all-requires
run_out_all-requires g c = record {
  works = still-at_work c.args.working.now c.run_lines.new.working c.run_lines.ensures.works
      c.requires.works;
}

pub returns-clause-works : goal.returns-clause-works
returns-clause-works g c =
    works-on c.args.working.now c.run_lines.new.working c.run_out_all.new.working
    c.run_lines.ensures.works c.run_out_all.ensures.works
