-- What an input of recorded operations is read as: what it asks for, or its refusal.
use Rattle.std.specs.Prelude.{◌≡◌, Result, Ok, Err}
use Rattle.ea_model.specs.Trace.{plain}
use Rattle.ea_trace.specs.declared.fault.TraceFault.{TraceFault}
use Rattle.ea_trace.specs.declared.fault.TraceFault.TheVariants.{OutOfMemory}
use Rattle.ea_recorded.specs.Language.{Asked, Recorded}
use Rattle.ea_recorded.specs.declared.input.RecordedInput.{RecordedInput}

-- what an input asks for that was read as this
abbrev pub asked_in : RecordedInput → Recorded
asked_in i = record { rules = i.rules; trace = plain i.trace; order = i.order.items }

-- an answer is what the input asks for, or its refusal, or there was no memory
abbrev pub GivesInput : Result RecordedInput TraceFault → Asked → Type 0
GivesInput (Ok i) asked = asked ≡ Ok (asked_in i)
GivesInput (Err OutOfMemory) asked = Unit {0}
GivesInput (Err f) asked = asked ≡ Err f
