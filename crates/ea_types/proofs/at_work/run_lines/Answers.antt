use Rattle.ea_types.proofs.Tabled.{still-at_work, works-on, works-on-none}
use Rattle.ea_types.proofs.at_work.run_lines.Goals as goal

pub loop-line-init : goal.loop-line-init
loop-line-init g c = works-on-none c.args.working.now

pub operate_at-requires : goal.operate_at-requires
operate_at-requires g c = record {
  works = still-at_work c.args.working.now c.loop-line.working c.loop-line.invariant
      c.requires.works;
}

pub loop-line-preserved : goal.loop-line-preserved
loop-line-preserved g c =
    works-on c.args.working.now c.loop-line.working c.operate_at.new.working c.loop-line.invariant
    c.in_ok-operate_at.ensures.works

pub returns-in_err-operate_at : goal.returns-in_err-operate_at
returns-in_err-operate_at g c = record {
  works = works-on c.args.working.now c.loop-line.working c.operate_at.new.working
      c.loop-line.invariant c.operate_at.ensures.works;
}
