use Rattle.std.proofs.Common.{◌≡◌, ◌++◌}
use Rattle.ea_types.specs.Output.{parts_text}
use Rattle.ea_types.proofs.output.print_parts.Given as goal

abbrev pub invariant-loop-letter : goal.invariant-loop-letter
invariant-loop-letter g l = l.text.items
    ++ parts_text l.letter-iterator.a.rest.now l.letter-iterator.b.rest.now
    ≡ parts_text l.letters l.outcomes
