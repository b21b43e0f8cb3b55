-- Words of tests: whole inputs of `contents`, with their writes and reads, and why some are
-- refused.
use Rattle.std.specs.Prelude.{ℕ, List, [], ◌++◌, Option, Some, None, Result, Ok, Err, codes}
use Rattle.ea_flags.specs.declared.fault.FlagFault.{FlagFault}
use Rattle.ea_flags.specs.Flags.{flags}
use Rattle.ea_model.specs.declared.settings.Config.{Config}
use Rattle.ea_trace.specs.Language.{lines_of}
use Rattle.ea_trace.specs.declared.fault.TraceFault.{TraceFault}
use Rattle.ea_contents.specs.Language.{Request, request, request_of}
use Rattle.ea_contents.specs.Model.{Script}

abbrev pub fault_of : Result Request TraceFault → Option TraceFault
fault_of (Ok r) = None
fault_of (Err f) = Some f

abbrev pub fault_with : List ℕ → Result Config FlagFault → Option TraceFault
fault_with input (Ok c) = fault_of (request c input)
fault_with input (Err f) = None

-- why an input is refused under no words
abbrev pub refused : List ℕ → Option TraceFault
refused input = fault_with input (flags [])

-- the writes and reads of scheduler i after d operations
abbrev pub accesses_by : Result Request TraceFault → Script
accesses_by (Ok r) = r.script
accesses_by (Err f) = λ i d. []

-- those of an input for one scheduler whose block moves
unfoldable pub moving_accesses : Script
moving_accesses = accesses_by (request_of 1 (lines_of
    (codes "type H\nscheduler 1\nalloc 1 100\nalloc 2 0\nwrite 1 0 7\nrealloc 1 3 200\n"
    ++ codes "read 3 0\nread 3 13\nwrite 3 25 1\nread 1 0\nschedule\nend\n")))

unfoldable pub unread : Option TraceFault
unread = refused (codes "type H\nscheduler 1\nalloc 1 100\nwrite 1 0\nschedule\nend\n")

unfoldable pub outside_sections : Option TraceFault
outside_sections = refused (codes "type H\nscheduler 1\nalloc 1 100\nschedule\nread 1 0\nend\n")

unfoldable pub of_no_name : Option TraceFault
of_no_name = refused (codes "type H\nscheduler 1\nalloc 1 100\nread 2 0\nschedule\nend\n")

unfoldable pub of_no_trace : Option TraceFault
of_no_trace = refused (codes "type H\nscheduler 1\nread 2\nfree 1\nschedule\nend\n")
