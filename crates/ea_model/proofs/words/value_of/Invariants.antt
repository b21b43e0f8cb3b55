use Rattle.std.proofs.Common.{◌≡◌, ◌*◌, ◌^◌, ◌<◌, true, take}
use Rattle.std.specs.List.{list_all}
use Rattle.std.specs.Char.{is_ascii_digit}
use Rattle.ea_model.specs.Words.{numeral_value}
use Rattle.ea_model.proofs.words.value_of.Given as goal

abbrev pub invariant-loop-byte : goal.invariant-loop-byte
invariant-loop-byte l = record {
  digits : list_all is_ascii_digit (take l.byte-index l.digits) ≡ true;
  value : l.value ≡ numeral_value (take l.byte-index l.digits);
  bound : l.value < 2 ^ (4 * l.byte-index);
}
