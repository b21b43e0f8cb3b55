-- The types of an input, and the turns that each takes.
use Rattle.std.specs.Prelude.{◌≡◌, ℕ, zero, suc, ◌<◌, List, [], All, length, slice_index_or}
use Rattle.ea_model.specs.declared.settings.Config.{Config}
use Rattle.ea_model.specs.declared.trace.Mode.{Mode}
use Rattle.ea_model.specs.declared.trace.Mode.TheVariants.{Threads, Schedule, Generated}
use Rattle.ea_model.specs.declared.trace.Trace.{Trace}
use Rattle.ea_model.specs.Settings.{IsValidConfig}
use Rattle.ea_model.specs.Trace.{IsValidTrace}
use Rattle.ea_machine.specs.Completion.{turns_in}
use Rattle.ea_machine.specs.Courses.{AllRest, AreSteps, AreWithin}
use Rattle.ea_machine.specs.Setup.{setup_of}
use Rattle.ea_types.specs.Turning.{AllComeToEnds, Types, complete, own_turns}

-- those of scheduler i, of lists that begin with scheduler 1's
abbrev pub lines_for : List (List ℕ) → ℕ → List ℕ
lines_for parts zero = []
lines_for parts (suc i) = slice_index_or parts i []

-- the types of a run with these traces, in order, whose schedulers' lines are of these types,
-- scheduler 1's first; `other` stands for the trace of a type that isn't there
abbrev pub types_of : Config → Trace → List Trace → List (List ℕ) → Types
types_of c other traces parts = record {
  types = length traces;
  schedulers = c.schedulers;
  setups = λ x. setup_of c (slice_index_or traces x other);
  lines = lines_for parts;
}

-- each line is of one of that many types
abbrev pub AreParts : ℕ → List (List ℕ) → Type 0
AreParts types parts = All (All (λ x. x < types)) parts

-- the turns that type x takes in a run: under a schedule those of the completed schedule that are
-- its; with threads steps in whatever order, after which every scheduler has ended. A generated
-- trace has one type
abbrev pub IsOwnCourse : Types → Mode → ℕ → List ℕ → Type 0
IsOwnCourse t Threads x turns = AreSteps (t.setups x) turns × AreWithin (t.setups x) turns
    × AllRest (t.setups x) turns
IsOwnCourse t (Schedule ts) x turns =
    turns ≡ own_turns t x (complete t (turns_in (Schedule ts)))
IsOwnCourse t (Generated seed count) x turns = ⊥

-- valid traces under a valid configuration come to their ends in a completed schedule
abbrev pub AllEnd : Type 0
AllEnd = (c : Config) (other : Trace) (traces : List Trace) (parts : List (List ℕ))
    → IsValidConfig c → All (IsValidTrace c.schedulers) traces → AreParts (length traces) parts
    → AllComeToEnds (types_of c other traces parts)
