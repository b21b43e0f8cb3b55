use Rattle.std.proofs.Common.{◌≡◌, true, get_or, sym, ◌∙◌, arith}
use Rattle.std.specs.Char.{is_ascii_digit}
use Rattle.ea_model.proofs.Numbers.{below_forty, bound_more, value_more, digits_more, digit_value}
use Rattle.ea_model.proofs.words.value_of.Goals as goal

pub overflow_mul-value : goal.overflow_mul-value
overflow_mul-value c = omega (
  arith,
  below_forty c.loop-byte.value c.loop-byte.byte-index c.loop-byte.invariant.bound
      (omega (arith, c.requires, c.loop-byte-test.true)),
)

is_digit : (c : goal.After-from)
    → is_ascii_digit (get_or c.args.digits.now c.loop-byte.byte-index 0) ≡ true
is_digit c = sym c.is_ascii_digit.ensures.value ∙ c.if-not-is_ascii_digit.false

pub overflow_add-value : goal.overflow_add-value
overflow_add-value c = omega (
  arith,
  c.from.ensures,
  digit_value (get_or c.args.digits.now c.loop-byte.byte-index 0)
      (is_digit c),
  below_forty c.loop-byte.value c.loop-byte.byte-index c.loop-byte.invariant.bound
      (omega (arith, c.requires, c.loop-byte-test.true)),
)

pub loop-byte-preserved : goal.loop-byte-preserved
loop-byte-preserved c = record {
  digits = digits_more c.args.digits.now c.loop-byte.byte-index c.loop-byte-test.true
      c.loop-byte.invariant.digits (is_digit c);
  value = let v = value_more c.args.digits.now c.loop-byte.byte-index c.loop-byte-test.true in omega
      (arith, v, c.loop-byte.invariant.value, c.from.ensures);
  bound = bound_more c.loop-byte.value c.from.result c.loop-byte.byte-index
      c.loop-byte.invariant.bound
      (omega (
        arith,
        c.from.ensures,
        digit_value (get_or c.args.digits.now c.loop-byte.byte-index 0)
            (is_digit c),
      ));
}
