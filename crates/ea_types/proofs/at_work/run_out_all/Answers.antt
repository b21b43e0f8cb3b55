use Rattle.std.proofs.Common.{◌<◌, length, arith}
use Rattle.std.proofs.lemmas.List.Elements.{AllWithin-more_set}
use Rattle.ea_table.specs.Working.{IsThrough}
use Rattle.ea_types.proofs.Tabled.{still-at_work, works-on-none, works-on-set}
use Rattle.ea_types.proofs.at_work.run_out_all.Goals as goal

pub loop-place-init : goal.loop-place-init
loop-place-init g c = record {
  works = works-on-none c.args.working.now;
  through = λ k d from less. absurd (omega (arith, from, less));
}

pub run_out-requires : goal.run_out-requires
run_out-requires g c =
    let i = c.loop-place.invariant in
    let within : c.loop-place.place < length c.loop-place.working =
    omega (arith, i.works.count) in
    record {
      works = still-at_work c.args.working.now c.loop-place.working i.works c.requires.works
          c.loop-place.place c.index-working-place.result within;
    }

pub returns-in_err-run_out-clause-works : goal.returns-in_err-run_out-clause-works
returns-in_err-run_out-clause-works g c =
    let i = c.loop-place.invariant in
    let within : c.loop-place.place < length c.loop-place.working =
    omega (arith, i.works.count) in
    works-on-set c.args.working.now c.loop-place.working i.works c.loop-place.place
    c.index-working-place.result c.run_out.new.self within c.run_out.ensures.works

pub loop-place-preserved : goal.loop-place-preserved
loop-place-preserved g c =
    let i = c.loop-place.invariant in
    let within : c.loop-place.place < length c.loop-place.working =
    omega (arith, i.works.count) in
    record {
      works = works-on-set c.args.working.now c.loop-place.working i.works c.loop-place.place
          c.index-working-place.result c.run_out.new.self within c.run_out.ensures.works;
      through = AllWithin-more_set c.loop-place.working c.loop-place.place c.run_out.new.self
          within IsThrough i.through c.in_ok-run_out.ensures.through;
    }

pub returns : goal.returns
returns g c = record {
  works = c.loop-place.invariant.works;
  through = λ k d less. c.loop-place.invariant.through k d (omega arith)
      (omega (arith, less, c.loop-place.invariant.works.count));
}
