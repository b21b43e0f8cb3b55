-- Words of tests: worked inputs for one shared region, in short what the language says of them, and
-- the books that they may have.
use Rattle.std.specs.Prelude.{ℕ, List, [], ◌∷◌, Option, Some, None, Ok, Err}
use Rattle.ea_model.specs.Trace.{listed}
use Rattle.ea_segments.specs.declared.calls.Book.{Book}
use Rattle.ea_segments.specs.declared.calls.Call.{Call}
use Rattle.ea_segments.specs.declared.calls.Reply.{Reply}
use Rattle.ea_segments.specs.declared.calls.Reply.TheVariants.{At, Done, NoRun}
use Rattle.ea_segments.specs.declared.calls.Request.{Request}
use Rattle.ea_super.specs.Language.{Answer, requests_in}
use Rattle.ea_trace.specs.declared.fault.TraceFault.{TraceFault}

abbrev pub fault_of : Answer → Option TraceFault
fault_of (Ok sections) = None
fault_of (Err f) = Some f

-- why an input for n schedulers is refused, if it is
abbrev pub refused : ℕ → List ℕ → Option TraceFault
refused n input = fault_of (requests_in input n)

abbrev pub sections_or_none : Answer → List (List Request)
sections_or_none (Ok sections) = sections
sections_or_none (Err f) = []

-- the requests of each section
abbrev pub sections : ℕ → List ℕ → List (List Request)
sections n input = sections_or_none (requests_in input n)

abbrev pub call : (scheduler name pages : ℕ) → Reply → Call
call scheduler name pages reply =
    record { scheduler = scheduler; name = name; pages = pages; reply = reply }

-- a history of one scheduler, and one of two that ask for the whole region

abbrev pub first_calls : List Call
first_calls = call 1 1 100 (At 0) ∷ call 1 2 200 NoRun ∷ call 1 1 0 Done ∷ call 1 3 50 (At 0) ∷ []

abbrev pub race_calls : List Call
race_calls = call 2 2 256 (At 0) ∷ call 1 1 256 NoRun ∷ []

-- the book of these calls
abbrev pub book : List Call → (segments pages free : ℕ) → Book
book calls segments pages free =
    record { history = listed calls; segments = segments; pages = pages; free = free }
