use Rattle.std.proofs.Common.{◌≡◌, ◌++◌, length}
use Rattle.std.specs.Option.{option_map}
use Rattle.ea_model.specs.Words.{words}
use Rattle.ea_types.specs.Language.{letters_in}
use Rattle.ea_types.proofs.letters.letters_in.Given as goal

abbrev pub invariant-loop-word : goal.invariant-loop-word
invariant-loop-word l = letters_in (words l.text)
    ≡ option_map (λ xs. l.letters.items ++ xs) (letters_in (words l.rest))

abbrev pub decreases-loop-word : goal.decreases-loop-word
decreases-loop-word l = length l.rest
