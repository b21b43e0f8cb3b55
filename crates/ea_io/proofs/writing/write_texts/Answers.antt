use Rattle.std.proofs.Common.{◌∙◌}
use Rattle.std.proofs.KnownBytes.{Appends-trans}
use Rattle.ea_io.proofs.Calling.{more-writes, stops-after, told}
use Rattle.ea_io.proofs.Lists.{next_text, moves_on, broke_off}
use Rattle.ea_io.proofs.writing.write_texts.Goals as goal

pub loop-text-preserved : goal.loop-text-preserved
loop-text-preserved g c =
    let (done, split, appended, kept, writes) = c.loop-text.invariant in
    let next = next_text _ _ _ _ c.loop-text-test.true c.as_bytes.ensures.value in
    let wrote = c.in_ok-write_all.ensures in (
      _,
      moves_on _ _ _ _ _ split next,
      Appends-trans _ _ _ _ _ appended wrote.whole,
      wrote.kept ∙ kept,
      more-writes g.O.Sink.taken g.O.Sink.faults _ _ _ writes wrote.writes,
    )

pub returns-in_err-write_all-clause-stops : goal.returns-in_err-write_all-clause-stops
returns-in_err-write_all-clause-stops g c =
    let (done, split, appended, kept, writes) = c.loop-text.invariant in
    told c.from_residual.result (stops-after g.O.Sink.taken g.O.Sink.faults _ _ _ writes
    c.in_err-write_all.ensures.stops)

pub returns-in_err-write_all-clause-front : goal.returns-in_err-write_all-clause-front
returns-in_err-write_all-clause-front g c =
    let (done, split, appended, kept, writes) = c.loop-text.invariant in
    let (front, rest, whole, more) = c.in_err-write_all.ensures.front in
    let next = next_text _ _ _ _ c.loop-text-test.true c.as_bytes.ensures.value in
    (_, _, broke_off _ _ _ _ _ _ _ split next whole, Appends-trans _ _ _ _ _ appended more)
