-- The language of a command: how an input is read, what it asks for, and which texts it has.
use Rattle.std.specs.Prelude.{◌≡◌, ℕ, Bool, true, false, List, Result, Err, IsOkAnd}
use Rattle.ea_model.specs.declared.settings.Config.{Config}
use Rattle.ea_trace.specs.declared.fault.TraceFault.{TraceFault}
use Rattle.ea_trace.specs.declared.fault.TraceFault.TheVariants as fault

pub record Language : Type 1 where
  -- what an input may ask for: in the language of traces, that a trace is run
  pub Request : Type 0
  -- what this input asks for under a configuration, or its first refusal
  pub read : Config → List ℕ → Result Request TraceFault
  -- whether the command runs what is asked for
  pub runs : Request → Bool
  -- a run of it under the configuration has this text
  pub Gives : Config → Request → List ℕ → Type 0
  -- what the command promises beside the text, whatever the input
  pub Promises : Config → Type 0

module _ (language : Language) (c : Config) (input : List ℕ) where
  -- the input is in the language, and this holds of what it asks for
  abbrev pub AsksFor : (language.Request → Type 0) → Type 0
  AsksFor P = IsOkAnd (language.read c input) P

  -- it is in the language
  abbrev pub IsGood : Type 0
  IsGood = AsksFor (λ request. Unit {0})

  -- it is, and the command runs it
  abbrev pub IsRun : Type 0
  IsRun = AsksFor (λ request. language.runs request ≡ true)

  -- it is, and the command doesn't run it
  abbrev pub IsDeclined : Type 0
  IsDeclined = AsksFor (λ request. language.runs request ≡ false)

  -- the command runs it, and it has this text
  abbrev pub HasText : List ℕ → Type 0
  HasText text = AsksFor (λ request. (language.runs request ≡ true) × language.Gives c request text)

  -- it is refused so, unless there was no memory to read it
  abbrev pub IsRefused : TraceFault → Type 0
  IsRefused fault.OutOfMemory = Unit {0}
  IsRefused refusal = language.read c input ≡ Err refusal
