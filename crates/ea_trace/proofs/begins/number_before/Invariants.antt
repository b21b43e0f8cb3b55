use Rattle.std.proofs.Common.{◌≡◌, ◌*◌, ◌^◌, ◌<◌, true, take}
use Rattle.std.specs.List.{list_all}
use Rattle.std.specs.Char.{is_ascii_digit}
use Rattle.ea_model.specs.Words.{numeral_value}
use Rattle.ea_trace.proofs.begins.number_before.Given as goal

abbrev pub invariant-loop-i : goal.invariant-loop-i
invariant-loop-i l = record {
  digits : list_all is_ascii_digit (take l.i l.text) ≡ true;
  value : l.value ≡ numeral_value (take l.i l.text);
  bound : l.value < 2 ^ (4 * l.i);
}
