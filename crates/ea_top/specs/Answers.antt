-- The result of the top call, by its words and its input: what ea_frame says of the language of
-- traces.
use Rattle.std.specs.Prelude.{ℕ, List, Option}
use Rattle.std.specs.declared.string.String.{String}
use Rattle.ea_frame.specs.declared.faults.Fault.{Fault}
use Rattle.ea_frame.specs.Inputs as inputs
use Rattle.ea_frame.specs.Whys as whys
use Rattle.ea_top.specs.Language.{traces}

module _ {Z : Type 0} where
  -- under these words the input is a trace, of MAX_INPUT bytes at most
  abbrev pub GoodInput : List (String Z) → List ℕ → Type 0
  GoodInput words input = inputs.GoodInput traces words input

  -- there is an input, which is the source's own where it tells its bytes, with an output, and the
  -- whole output was taken
  abbrev pub WroteText : List (String Z) → Option (List ℕ) → Option (List ℕ) → Option (List ℕ)
      → Type 0
  WroteText words left before after = inputs.WroteText traces words left before after

  -- or a front of it
  abbrev pub WroteFront : List (String Z) → Option (List ℕ) → Option (List ℕ) → Option (List ℕ)
      → Type 0
  WroteFront words left before after = inputs.WroteFront traces words left before after

  -- what a fault says of the words, the input and the ends. before and after are what the source
  -- had and has left, where it tells it; read and wrote say that the source, and that out, failed
  abbrev pub IsWhy : List (String Z) → Option (List ℕ) → Option (List ℕ) → Type 0 → Type 0
      → Fault → Type 0
  IsWhy words before after read wrote fault =
      whys.IsWhy traces words before after read wrote fault
