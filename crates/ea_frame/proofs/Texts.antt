-- The text that was made of an input is a text of it.
use Rattle.std.proofs.Common.{◌≡◌, ℕ, ◌≤◌, List, subst}
use Rattle.std.specs.Prelude.{Option, None, Some, Ok, IfSome, IsOkAnd, length}
use Rattle.std.specs.declared.string.String.{String}
use Rattle.ea_flags.specs.Flags.{flags}
use Rattle.ea_model.specs.declared.settings.Config.{Config}
use Rattle.ea_model.specs.declared.units.TheConstants.{MAX_INPUT}
use Rattle.ea_frame.specs.Inputs.{GivesSome, GivesText, spelled}
use Rattle.ea_frame.specs.Language.{HasText, Language}

module _ (language : Language) {Z : Type 0} (words : List (String Z)) where
  pub gives-text : (c : Config) (input slice text : List ℕ) → Ok c ≡ flags (spelled words)
      → length input ≤ MAX_INPUT → slice ≡ input → HasText language c slice text
      → GivesText language words input text
  gives-text c input slice text read short same is = (
    short,
    subst (λ r. IsOkAnd r (λ d. HasText language d input text)) read
        (subst (λ bytes. HasText language c bytes text) same is),
  )

  pub gives-some : (told : Option (List ℕ)) (input text : List ℕ)
      → IfSome told (λ known. input ≡ known) → GivesText language words input text
      → IfSome told (GivesSome language words)
  gives-some None input text is made = tt
  gives-some (Some known) input text is made = subst (GivesSome language words) is (text, made)
