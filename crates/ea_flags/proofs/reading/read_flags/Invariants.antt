use Rattle.std.proofs.Common.{◌≡◌, ◌+◌, length, map}
use Rattle.std.specs.Prelude.{string_bytes}
use Rattle.ea_flags.specs.Flags.{flags, config_by, settings_after}
use Rattle.ea_flags.proofs.Ranges.{IsRanged}
use Rattle.ea_flags.proofs.reading.read_flags.Given as goal

abbrev pub invariant-loop-setting : goal.invariant-loop-setting
invariant-loop-setting l = record {
  rest : config_by l.config (settings_after l.before (map string_bytes l.rest))
      ≡ flags (map string_bytes l.fn.words);
  ranges : IsRanged l.config;
  count : l.before + length l.rest ≡ length l.fn.words;
}

abbrev pub decreases-loop-setting : goal.decreases-loop-setting
decreases-loop-setting l = length l.rest
