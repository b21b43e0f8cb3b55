use Rattle.std.proofs.Common.{◌≡◌, ◌+◌, ℕ, [], ◌∷◌, Some, length, refl, sym, ap, subst, ◌∙◌}
use Rattle.std.proofs.Common.{arith}
use Rattle.std.proofs.lemmas.Result.{err_from_is_err_and}
use Rattle.std.specs.Prelude.{All, IfOk, IfSome}
use Rattle.ea_model.specs.Trace.{IsScheduler, IsValidTrace}
use Rattle.ea_model.specs.Words.{words}
use Rattle.ea_model.proofs.Lines.{words-first}
use Rattle.ea_trace.specs.Language.{lines_of}
use Rattle.ea_frame.specs.Lines.{rest_lines}
use Rattle.ea_recorded.specs.Language.{Asked, recorded}
use Rattle.ea_recorded.specs.Reading.{Reads, early_left, early_refusal_in}
use Rattle.ea_recorded.proofs.Reached.{at-number, few-lines, fewer-left, left-first, left-next}
use Rattle.ea_recorded.proofs.Reached.{left-refused, same-err}
use Rattle.ea_recorded.proofs.reader.read_recorded.Goals as goal

pub loop-rest-init : goal.loop-rest-init
loop-rest-init c =
    let n : ℕ = c.args.schedulers in
    let asked : Asked = recorded c.args.bytes.now n in
    let reads : Reads n asked 1 (lines_of c.args.bytes.now) c.new-reading.result =
    c.new-reading.ensures.reads asked (lines_of c.args.bytes.now) refl in
    let whole = early_refusal_in c.args.bytes.now n in
    record {
      reads = at-number n asked 1 (lines_of c.args.bytes.now) c.new-reading.result reads;
      fewer = omega (arith, reads.count);
      early = subst (λ o. IfSome whole (λ f. o ≡ Some f))
          (sym (c.new-reading.ensures.early (lines_of c.args.bytes.now))) (left-first whole);
    }

pub take-requires : goal.take-requires
take-requires c =
    let fewer = rw c.in-Some.is at c.loop-rest.invariant.fewer in
    omega (arith, fewer, c.requires.bytes)

pub returns-in_err-take-clause-given : goal.returns-in_err-take-clause-given
returns-in_err-take-clause-given c =
    let n : ℕ = c.args.schedulers in
    let asked = recorded c.args.bytes.now n in
    let left : rest_lines c.loop-rest.rest
    ≡ words c.first_line.result.0.now ∷ rest_lines c.first_line.result.1 =
    ap rest_lines c.in-Some.is ∙ words-first c.in-Some.text.now c.first_line.result.0.now
    c.first_line.result.1 c.first_line.ensures.lines in
    let p = err_from_is_err_and c.from_residual.result c.from_residual.ensures.1 in
    rw (p.1, p.2) (c.in_err-take.ensures.err n c.loop-rest.reading.number asked
    (rest_lines c.first_line.result.1)
    (subst (λ ls. Reads n asked c.loop-rest.reading.number ls c.loop-rest.reading) left
    c.loop-rest.invariant.reads))

pub returns-in_err-take-clause-early : goal.returns-in_err-take-clause-early
returns-in_err-take-clause-early c =
    let whole = early_refusal_in c.args.bytes.now c.args.schedulers in
    let reading = c.loop-rest.reading in
    let later = rest_lines c.first_line.result.1 in
    let left : rest_lines c.loop-rest.rest ≡ words c.first_line.result.0.now ∷ later =
    ap rest_lines c.in-Some.is ∙ words-first c.in-Some.text.now c.first_line.result.0.now
    c.first_line.result.1 c.first_line.ensures.lines in
    let p = err_from_is_err_and c.from_residual.result c.from_residual.ensures.1 in
    rw (p.1, p.2) (same-err _ whole c.in_err-take.field-0.0 (left-refused whole
    (early_left reading (words c.first_line.result.0.now ∷ later)) _
    (subst (λ ls. IfSome whole (λ f. early_left reading ls ≡ Some f)) left
    c.loop-rest.invariant.early) (c.in_err-take.ensures.early later)))

pub loop-rest-preserved : goal.loop-rest-preserved
loop-rest-preserved c =
    let n : ℕ = c.args.schedulers in
    let asked = recorded c.args.bytes.now n in
    let number = c.loop-rest.reading.number in
    let left : rest_lines c.loop-rest.rest
    ≡ words c.first_line.result.0.now ∷ rest_lines c.first_line.result.1 =
    ap rest_lines c.in-Some.is ∙ words-first c.in-Some.text.now c.first_line.result.0.now
    c.first_line.result.1 c.first_line.ensures.lines in
    let fewer = rw c.in-Some.is at c.loop-rest.invariant.fewer in
    let reads = c.in_ok-take.ensures.ok n number asked (rest_lines c.first_line.result.1)
    (subst (λ ls. Reads n asked number ls c.loop-rest.reading) left
    c.loop-rest.invariant.reads) in
    record {
      reads = at-number n asked (number + 1) (rest_lines c.first_line.result.1) c.take.new.self
          reads;
      fewer = fewer-left c.first_line.result.1 number c.take.new.self.number
          (length c.in-Some.text.now) (length c.args.bytes.now + 2) reads.count
          c.first_line.ensures.shorter fewer;
      early = left-next (early_refusal_in c.args.bytes.now n)
          (early_left c.loop-rest.reading (words c.first_line.result.0.now
          ∷ rest_lines c.first_line.result.1))
          (early_left c.take.new.self (rest_lines c.first_line.result.1))
          (subst (λ ls. IfSome (early_refusal_in c.args.bytes.now n)
          (λ f. early_left c.loop-rest.reading ls ≡ Some f)) left c.loop-rest.invariant.early)
          (c.in_ok-take.ensures.goes (rest_lines c.first_line.result.1));
    }

pub finish-requires-clause-schedulers : goal.finish-requires-clause-schedulers
finish-requires-clause-schedulers c =
    omega (arith, c.loop-rest.invariant.reads.schedulers, c.requires.schedulers)

pub finish-requires-clause-few : goal.finish-requires-clause-few
finish-requires-clause-few c =
    let fewer = rw c.in_default.is at c.loop-rest.invariant.fewer in
    omega (
      arith,
      few-lines c.args.schedulers (recorded c.args.bytes.now c.args.schedulers)
          c.loop-rest.reading.number (rest_lines c.loop-rest.rest) c.loop-rest.reading
          c.loop-rest.invariant.reads,
      fewer,
      c.requires.bytes,
    )

pub finish-requires-clause-read : goal.finish-requires-clause-read
finish-requires-clause-read c = (
  c.args.schedulers,
  recorded c.args.bytes.now c.args.schedulers,
  c.loop-rest.reading.number,
  subst (λ ls. Reads c.args.schedulers (recorded c.args.bytes.now c.args.schedulers)
      c.loop-rest.reading.number ls c.loop-rest.reading) (ap rest_lines c.in_default.is)
      c.loop-rest.invariant.reads,
)

pub returns-clause-given : goal.returns-clause-given
returns-clause-given c = c.finish.ensures.given c.args.schedulers c.loop-rest.reading.number
    (recorded c.args.bytes.now c.args.schedulers)
    (subst (λ ls. Reads c.args.schedulers (recorded c.args.bytes.now c.args.schedulers)
    c.loop-rest.reading.number ls c.loop-rest.reading) (ap rest_lines c.in_default.is)
    c.loop-rest.invariant.reads)

pub returns-clause-valid : goal.returns-clause-valid
returns-clause-valid c = subst (λ n. IfOk c.finish.result (λ i. IsValidTrace n i.trace))
    c.loop-rest.invariant.reads.schedulers c.finish.ensures.valid

pub returns-clause-texts : goal.returns-clause-texts
returns-clause-texts c = subst
    (λ n. IfOk c.finish.result (λ i. length i.trace.texts.items ≡ n))
    c.loop-rest.invariant.reads.schedulers c.finish.ensures.texts

pub returns-clause-order : goal.returns-clause-order
returns-clause-order c = subst
    (λ n. IfOk c.finish.result (λ i. All (IsScheduler n) i.order.items))
    c.loop-rest.invariant.reads.schedulers c.finish.ensures.order

pub returns-clause-early : goal.returns-clause-early
returns-clause-early c =
    let whole = early_refusal_in c.args.bytes.now c.args.schedulers in
    left-refused whole (early_left c.loop-rest.reading []) c.finish.result
    (subst (λ ls. IfSome whole (λ f. early_left c.loop-rest.reading ls ≡ Some f))
    (ap rest_lines c.in_default.is) c.loop-rest.invariant.early) c.finish.ensures.early
