-- What a line of the code says (`said`): its turns are those that its text spells, and all else is
-- the same.
use Rattle.std.specs.Prelude.{ℕ, List, Option, Some, None}
use Rattle.std.specs.Borrow.{Bor}
use Rattle.ea_model.specs.Words.{words}
use Rattle.ea_model.specs.declared.trace.Turns as model
use Rattle.ea_trace.specs.Lines.{Said, turns_in}
use Rattle.ea_trace.specs.declared.lines.Line.{Line}
use Rattle.ea_trace.specs.declared.lines.Line.TheVariants.{Skipped, Letter, Section, Operation}
use Rattle.ea_trace.specs.declared.lines.Line.TheVariants.{Stop}
use Rattle.ea_trace.specs.declared.lines.Line.TheVariants.{Threads, Schedule, Turns, Generate, End}
use Rattle.ea_trace.specs.declared.lines.Line.TheVariants.{Unreadable}

abbrev pub said_turns : Option (List model.Turns) → Said
said_turns None = Unreadable
said_turns (Some turns) = Turns turns

abbrev pub said : Line (Bor (List ℕ)) → Said
said Skipped = Skipped
said (Letter letter) = Letter letter
said (Section number) = Section number
said (Operation op) = Operation op
said (Stop stop) = Stop stop
said Threads = Threads
said Schedule = Schedule
said (Turns text) = said_turns (turns_in (words text.now))
said (Generate seed count) = Generate seed count
said End = End
said Unreadable = Unreadable

-- the same of a line that may be malformed
abbrev pub said_or : Option (Line (Bor (List ℕ))) → Option Said
said_or None = None
said_or (Some line) = Some (said line)
