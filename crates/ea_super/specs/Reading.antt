-- The result of the reader: the requests of an input, or its refusal; and which refusals need no
-- memory (`early_refusal_in`).
use Rattle.std.specs.Prelude.{◌≡◌, ℕ, Bool, true, false, List, [], ◌∷◌, Option, None, Some}
use Rattle.std.specs.Prelude.{Result, Ok, Err, map}
use Rattle.ea_model.specs.Lists.{Items}
use Rattle.ea_segments.specs.declared.calls.Request.{Request}
use Rattle.ea_trace.specs.declared.fault.TraceFault.{TraceFault}
use Rattle.ea_trace.specs.Language.{lines_of}
use Rattle.ea_trace.specs.declared.fault.TraceFault.TheVariants.{NoEnd, OutOfMemory}
use Rattle.ea_super.specs.Language.{Answer, refusal, stage_after}
use Rattle.ea_super.specs.Lines.{line_of_words}
use Rattle.ea_super.specs.declared.lines.Line.{Line}
use Rattle.ea_super.specs.declared.lines.Line.TheVariants.{Asks, Section}
use Rattle.ea_super.specs.declared.stages.Stage.{Stage}
use Rattle.ea_super.specs.declared.stages.Stage.TheVariants.{Ended}

-- the requests of sections
abbrev pub all_of : List (Items Request) → List (List Request)
all_of sections = map (λ s. s.items) sections

-- an answer has the sections that the input gives, or is its refusal, or there was no memory
abbrev pub Gives : Result (Items (Items Request)) TraceFault → Answer → Type 0
Gives (Ok sections) read = read ≡ Ok (all_of sections.items)
Gives (Err OutOfMemory) read = Unit {0}
Gives (Err f) read = read ≡ Err f

-- whether a line is kept once it is taken: a section or a request
abbrev pub is_kept : Line → Bool
is_kept (Section number) = true
is_kept (Asks request) = true
is_kept line = false

-- the refusal at the end of the text, if it is one
abbrev pub end_refusal : Stage → Option TraceFault
end_refusal Ended = None
end_refusal stage = Some NoEnd

-- a line's refusal, or the later one if the line isn't kept
abbrev pub or_later : Option TraceFault → Bool → Option TraceFault → Option TraceFault
or_later (Some f) kept later = Some f
or_later None true later = None
or_later None false later = later

-- the refusal of the lines after the earlier ones, oldest first, if no line is kept before it
abbrev pub early_refusal : ℕ → List Line → List Line → Option TraceFault
early_refusal n earlier [] = end_refusal (stage_after earlier)
early_refusal n earlier (line ∷ later) =
    or_later (refusal n earlier line) (is_kept line) (early_refusal n (line ∷ earlier) later)

-- that of a text for n schedulers, if it has one
abbrev pub early_refusal_in : List ℕ → ℕ → Option TraceFault
early_refusal_in bytes n = early_refusal n [] (map line_of_words (lines_of bytes))
