-- The words and the input of a command, and what was written of its text: good words, and inputs
-- that are run, declined or refused (`OfInput`).
use Rattle.std.specs.Prelude.{◌≡◌, ℕ, ◌≤◌, List, Option, IfSome, IsOk, IsOkAnd, length, map}
use Rattle.std.specs.Prelude.{string_bytes}
use Rattle.std.specs.Io.KnownBytes.{Appends}
use Rattle.std.specs.declared.string.String.{String}
use Rattle.ea_io.specs.Fronts.{AppendsFront}
use Rattle.ea_flags.specs.Flags.{flags}
use Rattle.ea_model.specs.declared.settings.Config.{Config}
use Rattle.ea_model.specs.declared.units.TheConstants.{MAX_INPUT}
use Rattle.ea_trace.specs.declared.fault.TraceFault.{TraceFault}
use Rattle.ea_frame.specs.Language.{Language, HasText, IsDeclined, IsGood, IsRefused, IsRun}

-- it holds of the input or, where the source doesn't tell its bytes, of some input
abbrev pub OfInput : Option (List ℕ) → (List ℕ → Type 0) → Type 0
OfInput told P = (input : List ℕ) × IfSome told (λ known. input ≡ known) × P input

module _ {Z : Type 0} where
  -- what the words spell
  abbrev pub spelled : List (String Z) → List (List ℕ)
  spelled words = map string_bytes words

  -- the words are accepted
  abbrev pub GoodWords : List (String Z) → Type 0
  GoodWords words = IsOk (flags (spelled words))

  -- it holds of the configuration that the words ask for
  abbrev pub Under : List (String Z) → (Config → Type 0) → Type 0
  Under words P = IsOkAnd (flags (spelled words)) P

  -- the input has MAX_INPUT bytes at most, and it holds under that configuration
  abbrev pub InputUnder : List (String Z) → List ℕ → (Config → Type 0) → Type 0
  InputUnder words input P = (length input ≤ MAX_INPUT) × Under words P

module _ (language : Language) {Z : Type 0} (words : List (String Z)) where
  -- under these words the input is in the language
  abbrev pub GoodInput : List ℕ → Type 0
  GoodInput input = InputUnder words input (λ c. IsGood language c input)

  -- and the command runs it
  abbrev pub RunInput : List ℕ → Type 0
  RunInput input = InputUnder words input (λ c. IsRun language c input)

  -- and the command doesn't run it
  abbrev pub DeclinedInput : List ℕ → Type 0
  DeclinedInput input = InputUnder words input (λ c. IsDeclined language c input)

  -- and it has this text
  abbrev pub GivesText : List ℕ → List ℕ → Type 0
  GivesText input text = InputUnder words input (λ c. HasText language c input text)

  -- and it has some text
  abbrev pub GivesSome : List ℕ → Type 0
  GivesSome input = (text : List ℕ) × GivesText input text

  -- under these words the input is refused so
  abbrev pub RefusedInput : TraceFault → List ℕ → Type 0
  RefusedInput refusal input = InputUnder words input (λ c. IsRefused language c input refusal)

  -- the input has a text, all of which was taken
  abbrev pub WroteText : Option (List ℕ) → Option (List ℕ) → Option (List ℕ) → Type 0
  WroteText told before after = OfInput told (λ input.
      (text : List ℕ) × GivesText input text × Appends before after text)

  -- or a front of which was taken
  abbrev pub WroteFront : Option (List ℕ) → Option (List ℕ) → Option (List ℕ) → Type 0
  WroteFront told before after = OfInput told (λ input.
      (text : List ℕ) × GivesText input text × AppendsFront before after text)
