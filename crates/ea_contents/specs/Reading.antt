-- What the reader of an input knows after some of its lines, and what it returns.
use Rattle.std.specs.Prelude.{◌≡◌, ℕ, ◌-◌, ◌<◌, ◌≤◌, List, [], ◌∷◌, ◌++◌, Option, Some, None}
use Rattle.std.specs.Prelude.{◌+◌, if◌then◌else◌, Result, Ok, Err, length, map, slice_set}
use Rattle.ea_model.specs.Lists.{Items}
use Rattle.ea_model.specs.Trace.{IsScheduler, plain}
use Rattle.ea_model.specs.declared.trace.Trace.{Trace}
use Rattle.ea_trace.specs.Between.{earlier_of}
use Rattle.ea_trace.specs.Language.{Earlier, WordLines, is_held, section_operations, sections}
use Rattle.ea_trace.specs.Language.{trace_of}
use Rattle.ea_trace.specs.Taken.{HasTaken}
use Rattle.ea_trace.specs.declared.fault.TraceFault.{TraceFault}
use Rattle.ea_trace.specs.declared.fault.TraceFault.TheVariants.{OutOfMemory}
use Rattle.ea_trace.specs.declared.reader.TraceReader.{TraceReader}
use Rattle.ea_contents.specs.Language.{Request, accesses_from, blanked, first_so, is_misplaced}
use Rattle.ea_contents.specs.Language.{is_unheld, name_of}
use Rattle.ea_contents.specs.Script.{IsRising, script_of, list_for, sections_of}
use Rattle.ea_contents.specs.declared.access.Access.{Access}
use Rattle.ea_contents.specs.declared.input.ContentsInput.{ContentsInput}
use Rattle.ea_contents.specs.declared.input.Placed.{Placed}
use Rattle.ea_contents.specs.declared.accesses.Accesses.{Accesses}

-- what an input asks for that was read as this
abbrev pub request_in : ContentsInput → Request
request_in i = record { trace = plain i.trace; script = script_of (sections_of i) }

-- an answer is what the input asks for, or its refusal, or there was no memory
abbrev pub GivesInput : Result ContentsInput TraceFault → Result Request TraceFault → Type 0
GivesInput (Ok i) asked = asked ≡ Ok (request_in i)
GivesInput (Err OutOfMemory) asked = Unit {0}
GivesInput (Err f) asked = asked ≡ Err f

abbrev pub lists_of : List (Items Placed) → List (List Placed)
lists_of lists = map (λ l. l.items) lists

-- the list of a scheduler gets one more
abbrev pub AddsTo : ℕ → Placed → List (List Placed) → List (List Placed) → Type 0
AddsTo i placed old new = IsScheduler (length old) i
    → new ≡ slice_set old (i - 1) (list_for old i ++ placed ∷ [])

-- after how many operations the last one stands
abbrev pub last_after : ℕ → List Placed → ℕ
last_after least [] = least
last_after least (p ∷ placed) = last_after p.after placed

-- those of each section stand in the order of its operations, none of the section that was begun
-- last stands after more operations than it has, and no later section has any
pub record Stand (earlier : Earlier) (lists : List (List Placed)) : Type 0 where
  pub rising : (i : ℕ) → IsRising (list_for lists i)
  pub before : last_after 0 (list_for lists (sections earlier))
      ≤ length (section_operations earlier)
  pub none : (i : ℕ) → sections earlier < i → list_for lists i ≡ []

-- the first of all, by what was found and what is left
abbrev pub first_of : Option ℕ → Option ℕ → Option ℕ
first_of (Some k) left = Some k
first_of None left = left

-- a write or a read, which stands after the earlier lines in the section of one of n schedulers, is
-- noted there, and its line where its name isn't held
pub record Places (n : ℕ) (earlier : Earlier) (access : Access) (old new : Accesses) : Type 0 where
  pub misplaced : new.misplaced ≡ old.misplaced
  pub unheld : new.unheld ≡ first_of old.unheld
      (if is_held (name_of access) earlier then None else Some (length earlier + 1))
  pub within : IsScheduler n (sections earlier)
  pub added : AddsTo (sections earlier)
      (record { after = length (section_operations earlier); access = access })
      (lists_of old.sections.items) (lists_of new.sections.items)

-- what is known of all lines after the earlier ones, where none of these is malformed or misplaced
pub record Finds (n : ℕ) (all : WordLines) (earlier : Earlier) (left : WordLines) (a : Accesses)
    : Type 0 where
  pub misplaced : first_so is_misplaced [] all ≡ first_so is_misplaced earlier left
  pub unheld : first_so is_unheld [] all ≡ first_of a.unheld (first_so is_unheld earlier left)
  pub script : (i d : ℕ) → accesses_from [] all i d
      ≡ script_of (lists_of a.sections.items) i d ++ accesses_from earlier left i d
  pub stand : Stand earlier (lists_of a.sections.items)
  pub count : length (lists_of a.sections.items) ≡ n

-- a malformed or misplaced line decides
abbrev pub Found : ℕ → WordLines → Earlier → WordLines → Accesses → Option ℕ → Type 0
Found n all earlier left a None = Finds n all earlier left a
Found n all earlier left a (Some k) = first_so is_misplaced [] all ≡ Some k

abbrev pub Knows : ℕ → WordLines → Earlier → WordLines → Accesses → Type 0
Knows n all earlier left a = Found n all earlier left a a.misplaced

-- of all lines, for n schedulers, those that are left weren't taken; what is known of the others is
-- so where all are a trace but for writes and reads
pub record Reads (n : ℕ) (all left : WordLines) (trace : TraceReader) (a : Accesses) : Type 0 where
  pub taken : WordLines
  pub has : HasTaken n taken trace
  pub rest : taken ++ map blanked left ≡ map blanked all
  pub known : (t : Trace) → trace_of n (map blanked all) ≡ Ok t
      → Knows n all (earlier_of taken) left a
