use Rattle.std.proofs.Common.{ℕ, ◌≡◌, length-append, length-take, take, arith, subst, sym, ap, ◌++◌, ◌∙◌}
use Rattle.std.proofs.lemmas.List.{take-append-le}
use Rattle.std.proofs.lemmas.Grind.{common_steps}
use Rattle.std.specs.Io.KnownBytes.{Consumes}
use Rattle.std.proofs.KnownBytes.{Consumes-kept, Consumes-trans, Consumes-whole}
use Rattle.ea_io.proofs.Calling.{and-read, read-fails}
use Rattle.ea_io.proofs.Lists.{consumes_none}
use Rattle.ea_io.proofs.reading.read_all.Goals as goal

pub loop-buffer-preserved : goal.loop-buffer-preserved
loop-buffer-preserved g c =
    let read = c.in-Ok.ensures in
    let (taken, kept, within, reads) = c.loop-buffer.invariant in (
      subst (Consumes _ _) (sym (c.in_ok-extend_from_slice.ensures.items
          ∙ ap (λ bytes. c.loop-buffer.bytes.items ++ bytes)
          (take-append-le _ c.read.new.buf _ read.bound.0)))
          (Consumes-trans _ _ _ _ _ taken read.bytes.0),
      read.kept ∙ kept,
      grind (arith, common_steps),
      and-read g.S.Source.left g.S.Source.faults _ _ _ _ _ reads read,
    )

pub returns-then-count-eq0-clause-reads : goal.returns-then-count-eq0-clause-reads
returns-then-count-eq0-clause-reads g c =
    and-read g.S.Source.left g.S.Source.faults _ _ _ _ _ c.loop-buffer.invariant.3
    c.in-Ok.ensures

pub returns-in_err-extend_from_slice-clause-taken :
    goal.returns-in_err-extend_from_slice-clause-taken
returns-in_err-extend_from_slice-clause-taken g c =
    let read = c.in-Ok in
    let more = length-append c.loop-buffer.bytes.items (take read.count c.read.new.buf) in (
      _,
      omega (arith, c.loop-buffer.bytes.ok.0, c.read.auto.buf, length-take {A = ℕ}),
      Consumes-trans _ _ _ _ _ c.loop-buffer.invariant.0 read.ensures.bytes.0,
    )

pub returns-in_default-clause-read_fault_short : goal.returns-in_default-clause-read_fault_short
returns-in_default-clause-read_fault_short g c = λ _. (
  c.loop-buffer.bytes.items,
  omega arith,
  Consumes-kept _ _ _ _ c.loop-buffer.invariant.0 c.in_default.ensures.bytes,
)

pub returns-in_default-clause-read_fault_stops : goal.returns-in_default-clause-read_fault_stops
returns-in_default-clause-read_fault_stops g c = λ _.
    read-fails g.S.Source.left g.S.Source.faults _ _ _ _ _ c.loop-buffer.invariant.3
    c.in_default.ensures

pub returns-in_default-clause-taken : goal.returns-in_default-clause-taken
returns-in_default-clause-taken g c = (
  c.loop-buffer.bytes.items,
  omega arith,
  Consumes-kept _ _ _ _ c.loop-buffer.invariant.0 c.in_default.ensures.bytes,
)

pub returns-then-count-eq0-clause-end : goal.returns-then-count-eq0-clause-end
returns-then-count-eq0-clause-end g c =
    c.in-Ok.ensures.bytes.1 c.if-count-eq0.true
    (omega (arith, c.read.auto.buf, length-take {A = ℕ}))

pub returns-then-count-eq0-clause-all : goal.returns-then-count-eq0-clause-all
returns-then-count-eq0-clause-all g c =
    Consumes-whole _ _ _ (λ input. c.from_vec.result.items ≡ input)
    (consumes_none _ _ _ _ c.read.new.buf c.in-Ok.count c.if-count-eq0.true
    c.loop-buffer.invariant.0 c.in-Ok.ensures.bytes.0)
    (c.in-Ok.ensures.bytes.1 c.if-count-eq0.true
    (omega (arith, c.read.auto.buf, length-take {A = ℕ}))) c.from_vec.ensures

pub returns-then-count-eq0-clause-taken : goal.returns-then-count-eq0-clause-taken
returns-then-count-eq0-clause-taken g c = (
  c.loop-buffer.bytes.items,
  omega arith,
  consumes_none _ _ _ _ c.read.new.buf c.in-Ok.count c.if-count-eq0.true
      c.loop-buffer.invariant.0 c.in-Ok.ensures.bytes.0,
)

pub returns-clause-too_long : goal.returns-clause-too_long
returns-clause-too_long g c = λ _.
    (c.loop-buffer.bytes.items, omega arith, c.loop-buffer.invariant.0)

pub returns-clause-taken : goal.returns-clause-taken
returns-clause-taken g c =
    (c.loop-buffer.bytes.items, omega arith, c.loop-buffer.invariant.0)
