use Rattle.ea_types.proofs.Tabled.{works-on-none, works-on-set}
use Rattle.ea_types.proofs.at_work.operate_at.Goals as goal

pub operate-requires : goal.operate-requires
operate-requires g c = record {
  works = c.requires.works c.args.place c.index-working-place.result c.if-place-working.false;
}

pub returns-then-place-working : goal.returns-then-place-working
returns-then-place-working g c = record { works = works-on-none c.args.working.now }

pub returns-in_err-operate : goal.returns-in_err-operate
returns-in_err-operate g c = record {
  works = works-on-set c.args.working.now c.args.working.now (works-on-none c.args.working.now)
      c.args.place c.index-working-place.result c.operate.new.self c.if-place-working.false
      c.operate.ensures.works;
}

pub returns : goal.returns
returns g c = record {
  works = works-on-set c.args.working.now c.args.working.now (works-on-none c.args.working.now)
      c.args.place c.index-working-place.result c.operate.new.self c.if-place-working.false
      c.operate.ensures.works;
}
