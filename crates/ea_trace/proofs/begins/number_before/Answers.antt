use Rattle.std.proofs.Common.{◌≡◌, ℕ, ◌<◌, ◌≤◌, min, true, get_or, length, sym, ◌∙◌, arith}
use Rattle.std.specs.Char.{is_ascii_digit}
use Rattle.ea_model.proofs.Numbers.{below_forty, bound_more, value_more, digits_more, digit_value}
use Rattle.ea_trace.proofs.begins.number_before.Goals as goal

few : (i size least : ℕ) → i < least → least ≡ min size 11 → (i < size) × (i ≤ 10)
few i size least h e = (omega (arith, h, e), omega (arith, h, e))

pub overflow_mul-value : goal.overflow_mul-value
overflow_mul-value c = omega (
  arith,
  below_forty c.loop-i.value c.loop-i.i c.loop-i.invariant.bound
      (few c.loop-i.i (length c.args.text.now) c.min-i-end.result c.loop-i-test.true
      c.min-i-end.ensures).1,
)

pub overflow_add-value : goal.overflow_add-value
overflow_add-value c = omega (
  arith,
  c.from-in-loop-i.ensures,
  digit_value (get_or c.args.text.now c.loop-i.i 0)
      (sym c.is_ascii_digit.ensures.value ∙ c.if-not-is_ascii_digit.false),
  below_forty c.loop-i.value c.loop-i.i c.loop-i.invariant.bound
      (few c.loop-i.i (length c.args.text.now) c.min-i-end.result c.loop-i-test.true
      c.min-i-end.ensures).1,
)

pub loop-i-preserved : goal.loop-i-preserved
loop-i-preserved c =
    let text = c.args.text.now in
    let i = c.loop-i.i in
    let within : i < length text = (few i (length text) c.min-i-end.result c.loop-i-test.true
    c.min-i-end.ensures).0 in
    let digit : is_ascii_digit (get_or text i 0) ≡ true = sym c.is_ascii_digit.ensures.value
    ∙ c.if-not-is_ascii_digit.false in
    record {
      digits = digits_more text i within c.loop-i.invariant.digits digit;
      value = omega (
        arith,
        value_more text i within,
        c.loop-i.invariant.value,
        c.from-in-loop-i.ensures,
      );
      bound = bound_more c.loop-i.value c.from-in-loop-i.result i c.loop-i.invariant.bound
          (omega (arith, c.from-in-loop-i.ensures, digit_value (get_or text i 0) digit));
    }
