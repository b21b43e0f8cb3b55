use Rattle.std.proofs.Common.{◌≡◌, bytes_eq, drop}
use Rattle.std.specs.List.{position_from}
use Rattle.ea_trace.specs.Lines.{letter_word}
use Rattle.ea_types.proofs.letters.place_in.Given as goal

abbrev pub invariant-loop-i : goal.invariant-loop-i
invariant-loop-i l = position_from (λ x. bytes_eq l.word (letter_word x)) l.i (drop l.i l.letters)
    ≡ position_from (λ x. bytes_eq l.word (letter_word x)) 0 l.letters
