-- What an input with several types is read as: the traces that it gives, or its refusal.
use Rattle.std.specs.Prelude.{◌≡◌, ◌≢◌, ℕ, ◌<◌, ◌==◌, List, [], ◌∷◌, Result, Ok, Err, All, count_by}
use Rattle.std.specs.Prelude.{length, map, slice_index_or}
use Rattle.ea_model.specs.Trace.{plain, plain_mode, texts_of}
use Rattle.ea_model.specs.declared.trace.Mode.TheVariants.{Generated}
use Rattle.ea_model.specs.declared.trace.Trace.{Trace}
use Rattle.ea_trace.specs.declared.fault.TraceFault.{TraceFault}
use Rattle.ea_trace.specs.declared.fault.TraceFault.TheVariants.{OutOfMemory}
use Rattle.ea_types.specs.Language.{Answers}
use Rattle.ea_types.specs.declared.input.TypedInput.{TypedInput}

-- an answer has the traces that the input gives, or is its refusal, or there was no memory
abbrev pub GivesAll : Result TypedInput TraceFault → Answers → Type 0
GivesAll (Ok i) read = read ≡ Ok (map plain i.traces.items)
GivesAll (Err OutOfMemory) read = Unit {0}
GivesAll (Err f) read = read ≡ Err f

-- all of these traces have the mode of the first one
abbrev pub HaveOneMode : List Trace → Type 0
HaveOneMode [] = Unit {0}
HaveOneMode (t ∷ ts) = All (λ u. plain_mode u.mode ≡ plain_mode t.mode) ts

-- none of these traces has a stop, and the operations of each are given, not generated
abbrev pub AreUnstopped : List Trace → Type 0
AreUnstopped ts = All (λ t. t.stops.items ≡ []) ts

abbrev pub AreGiven : List Trace → Type 0
AreGiven ts = All (λ t. (seed count : ℕ) → t.mode ≢ Generated seed count) ts

-- each of these traces has a text of each of n schedulers
abbrev pub HaveTexts : ℕ → List Trace → Type 0
HaveTexts n ts = All (λ t. length t.texts.items ≡ n) ts

-- of each scheduler, as many lines are a type's, by its place, as it has operations in the trace of
-- the type
abbrev pub AreCounted : List Trace → List (List ℕ) → Type 0
AreCounted ts parts = (k : ℕ) (d : Trace) → k < length ts
    → map length (texts_of (slice_index_or ts k d)) ≡ map (count_by (λ j. j == k)) parts
