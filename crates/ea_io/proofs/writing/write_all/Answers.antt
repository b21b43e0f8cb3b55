use Rattle.std.proofs.Common.{[], refl, ◌++◌, take, ◌∙◌}
use Rattle.std.proofs.KnownBytes.{Appends-trans, Appends-nil}
use Rattle.ea_io.proofs.Calling.{and-fails, and-write, told}
use Rattle.ea_io.proofs.Lists.{moves_front}
use Rattle.ea_io.proofs.Sizes.{more, grows_none}
use Rattle.ea_io.proofs.writing.write_all.Goals as goal

pub loop-rest-preserved : goal.loop-rest-preserved
loop-rest-preserved g c =
    let (done, split, appended, grown, kept, writes) = c.loop-rest.invariant in
    let rest = c.loop-rest.rest.now in
    let count = c.in_ok-count.count in
    let wrote = c.in_ok-count.ensures in (
      done ++ take count rest,
      moves_front _ done rest count split,
      Appends-trans _ _ _ _ _ appended wrote.bytes,
      more _ _ _ done rest count wrote.bound grown wrote.counted,
      wrote.kept ∙ kept,
      and-write g.O.Sink.taken g.O.Sink.faults _ _ _ _ _ _ _ writes wrote,
    )

pub returns-in_err-count-clause-stops : goal.returns-in_err-count-clause-stops
returns-in_err-count-clause-stops g c =
    let (done, split, appended, grown, kept, writes) = c.loop-rest.invariant in
    told c.from_residual.result
    (and-fails g.O.Sink.taken g.O.Sink.faults _ _ _ _ _ _ _ writes c.in_err-count.ensures)

pub loop-rest-init : goal.loop-rest-init
loop-rest-init g c = ([], refl, Appends-nil _, grows_none _, refl, ([], refl))
