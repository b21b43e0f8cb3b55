use Rattle.std.proofs.Common.{◌≡◌, ◌+◌, ◌∷◌, length, ap, subst, arith}
use Rattle.std.proofs.lemmas.Result.{err_from_is_err_and}
use Rattle.std.specs.Prelude.{IfOk}
use Rattle.ea_super.specs.Language.{Earlier, refusal, requests_in}
use Rattle.ea_super.specs.Reading.{Gives, early_refusal_in}
use Rattle.ea_super.proofs.Reading.{accepted-read, fewer-left, first-read, left-ends, left-fails}
use Rattle.ea_super.proofs.Reading.{left-next, read_rest}
use Rattle.ea_super.proofs.reader.read_sections.Goals as goal

pub loop-rest-preserved : goal.loop-rest-preserved
loop-rest-preserved c =
    let n = c.args.schedulers in
    let known = c.loop-rest.invariant.taken in
    let earlier : Earlier = known.0 in
    let line = c.read_line.result in
    let rest = c.first_line.result.1 in
    let count : length earlier + 1 ≡ c.loop-rest.number + 1 = ap (λ k. k + 1) known.2 in
    let taken = c.in_ok-take.ensures.ok n earlier known.1 count in
    record {
      taken = (
        line ∷ earlier,
        taken.known,
        omega (arith, count),
        accepted-read (refusal n earlier line) (read_rest n (line ∷ earlier) rest)
            (requests_in c.args.bytes.now n) taken.accepted
            (first-read n earlier c.in-Some.text.now c.first_line.result.0.now rest line
            (requests_in c.args.bytes.now n) c.first_line.ensures.lines c.read_line.ensures.line
            (rw c.in-Some.is at known.3)),
        left-next n earlier c.in-Some.text.now c.first_line.result.0.now rest line
            c.first_line.ensures.lines c.read_line.ensures.line
            (early_refusal_in c.args.bytes.now n) taken.accepted (rw c.in-Some.is at known.4),
      );
      fewer = fewer-left rest c.loop-rest.number (length c.in-Some.text.now)
          (length c.args.bytes.now) c.first_line.ensures.shorter
          (rw c.in-Some.is at c.loop-rest.invariant.fewer);
    }

pub returns-in_err-take-clause-early : goal.returns-in_err-take-clause-early
returns-in_err-take-clause-early c =
    let n = c.args.schedulers in
    let known = c.loop-rest.invariant.taken in
    let earlier : Earlier = known.0 in
    let line = c.read_line.result in
    let count : length earlier + 1 ≡ c.loop-rest.number + 1 = ap (λ k. k + 1) known.2 in
    let p = err_from_is_err_and c.from_residual.result c.from_residual.ensures.1 in
    rw (p.1, p.2) (left-fails n earlier c.in-Some.text.now c.first_line.result.0.now
    c.first_line.result.1 line c.first_line.ensures.lines c.read_line.ensures.line
    _ (early_refusal_in c.args.bytes.now n) c.in_err-take.field-0.0
    (c.in_err-take.ensures.sure n earlier known.1 count) c.in_err-take.ensures.free
    (c.in_err-take.ensures.err n earlier known.1 count) (rw c.in-Some.is at known.4))

pub returns : goal.returns
returns c =
    let known = c.loop-rest.invariant.taken in
    record {
      given = subst (Gives c.finish.result) (rw c.in_default.is at known.3)
          (c.finish.ensures.given c.args.schedulers known.0 known.1);
      count = subst (λ k. IfOk c.finish.result (λ sections. length sections.items ≡ k))
          known.1.schedulers c.finish.ensures.count;
      few = c.finish.ensures.few;
      asked = c.finish.ensures.asked;
      early = left-ends c.args.schedulers known.0 c.loop-rest.rest
          (early_refusal_in c.args.bytes.now c.args.schedulers) c.finish.result c.in_default.is
          (rw known.1.stage at c.finish.ensures.sure) known.4;
    }
