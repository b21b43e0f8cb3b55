-- The ranges of the numbers of a line (`InRange`).
-- This simulator's own: the sources do not speak of it.
use Rattle.std.specs.Prelude.{◌≤◌, All}
use Rattle.ea_model.specs.Trace.{IsName}
use Rattle.ea_model.specs.declared.operations.Op.{Op}
use Rattle.ea_model.specs.declared.operations.Op.TheVariants.{Alloc, Free, Realloc, Give, Take}
use Rattle.ea_model.specs.declared.operations.Op.TheVariants.{Info, Idle}
use Rattle.ea_model.specs.declared.trace.Turns as model
use Rattle.ea_model.specs.declared.units.TheConstants.{MAX_BYTES, MAX_NAME, MAX_SEED, MAX_STEPS}
use Rattle.ea_model.specs.declared.units.TheConstants.{MAX_TRIES}
use Rattle.ea_model.specs.declared.units.TheConstants.{MAX_TURNS}
use Rattle.ea_trace.specs.Lines.{Said}
use Rattle.ea_trace.specs.declared.lines.Line.TheVariants.{Operation, Stop, Turns, Generate}
use Rattle.ea_trace.specs.declared.takes.TakeLine.{TakeLine}

-- the numbers of an operation, but for a scheduler's
abbrev pub HasRanges : Op → Type 0
HasRanges (Alloc name bytes) = IsName name × (bytes ≤ MAX_BYTES)
HasRanges (Free name) = IsName name
HasRanges (Realloc old fresh bytes) = IsName old × IsName fresh × (bytes ≤ MAX_BYTES)
HasRanges (Give name to) = IsName name
HasRanges (Take name tries) = IsName name × (1 ≤ tries) × (tries ≤ MAX_TRIES)
HasRanges Info = Unit {0}
HasRanges Idle = Unit {0}

-- that many turns can be taken in a row
abbrev pub IsCount : model.Turns → Type 0
IsCount t = (1 ≤ t.count) × (t.count ≤ MAX_TURNS)

abbrev pub InRange : Said → Type 0
InRange (Operation op) = HasRanges op
InRange (Stop stop) = stop.steps ≤ MAX_STEPS
InRange (Turns turns) = All IsCount turns
InRange (Generate seed count) = (seed ≤ MAX_SEED) × (1 ≤ count)
InRange line = Unit {0}

-- a line takes one of the names, in one of the sections
abbrev pub IsNamed : TakeLine → Type 0
IsNamed t = (t.name ≤ MAX_NAME) × (1 ≤ t.scheduler)
