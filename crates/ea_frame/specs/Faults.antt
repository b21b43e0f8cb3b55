-- The status and the line of a fault.
-- This simulator's own: the sources do not speak of it.
use Rattle.std.specs.Prelude.{ℕ, List, Option, Some, None, ◌++◌, codes, decimal}
use Rattle.std.specs.Io.KnownBytes.{Appends}
use Rattle.ea_io.specs.Fronts.{AppendsFront}
use Rattle.ea_io.specs.Messages as reading
use Rattle.ea_io.specs.declared.reading.ReadAllFault.TheVariants as unread
use Rattle.ea_flags.specs.Refusals as words
use Rattle.ea_frame.specs.declared.faults.Fault.{Fault}
use Rattle.ea_frame.specs.declared.faults.Fault.TheVariants.{Words, Input, TooLong}
use Rattle.ea_frame.specs.declared.faults.Fault.TheVariants.{ReadFailed, WriteFailed, OutOfMemory}
use Rattle.ea_frame.specs.declared.faults.Fault.TheVariants.{ScheduleWanted}
use Rattle.ea_trace.specs.declared.fault.TraceFault.{TraceFault}
use Rattle.ea_trace.specs.declared.fault.TraceFault.TheVariants as refused
use Rattle.ea_trace.specs.Refusals as trace

-- the status that a refused input ends with, and want of memory to read it
abbrev pub refusal_status : TraceFault → ℕ
refusal_status refused.OutOfMemory = 5
refusal_status refusal = 2

-- the status that a fault ends with
abbrev pub status_of : Fault → ℕ
status_of (Words refusal) = 1
status_of (Input refusal) = refusal_status refusal
status_of TooLong = 2
status_of ReadFailed = 3
status_of WriteFailed = 4
status_of OutOfMemory = 5
status_of ScheduleWanted = 7

-- what is refused, by its number if it has one, and what is wrong
abbrev pub refusal_text : List ℕ → Option ℕ → List ℕ → List ℕ
refusal_text thing None what = what
refusal_text thing (Some number) what = thing ++ codes " " ++ decimal number ++ codes ": " ++ what

-- what is printed for a fault after the program's name
abbrev pub fault_text : Fault → List ℕ
fault_text (Words refusal) =
    refusal_text (codes "word") (words.word_of refusal) (words.message_of refusal)
fault_text (Input refusal) =
    refusal_text (codes "line") (trace.line_of refusal) (trace.message_of refusal)
fault_text TooLong = reading.message_of unread.TooLong
fault_text ReadFailed = reading.message_of unread.ReadFault
fault_text WriteFailed = codes "write failed"
fault_text OutOfMemory = reading.message_of unread.OutOfMemory
fault_text ScheduleWanted = codes "schedule wanted"

abbrev pub line_with : List ℕ → List ℕ
line_with text = codes "erts_alloc_run: " ++ text ++ codes "\n"

abbrev pub fault_line : Fault → List ℕ
fault_line fault = line_with (fault_text fault)

-- what was taken before is followed by a front of the fault's line, and by all of it where all was
-- calm
abbrev pub Complains : Option (List ℕ) → Option (List ℕ) → Type 0 → Fault → Type 0
Complains before after calm fault = AppendsFront before after (fault_line fault)
    × (calm → Appends before after (fault_line fault))
