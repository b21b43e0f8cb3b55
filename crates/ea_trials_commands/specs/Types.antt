-- Words of tests: worked inputs with several types, and in short what the language says of them.
use Rattle.std.specs.Prelude.{ℕ, List, [], Option, Some, None, Ok, Err, map, unwrap_or}
use Rattle.ea_model.specs.Trace.{texts_of}
use Rattle.ea_model.specs.declared.operations.Op.{Op}
use Rattle.ea_model.specs.declared.settings.Config.{Config}
use Rattle.ea_model.specs.declared.settings.Letter.{Letter}
use Rattle.ea_flags.specs.declared.config.TheConstants.{DEFAULT_CONFIG}
use Rattle.ea_trace.specs.Language.{lines_of}
use Rattle.ea_trace.specs.declared.fault.TraceFault.{TraceFault}
use Rattle.ea_types.specs.Language.{Answers, parts_of, traces, types_of}

-- the default configuration with that many schedulers and megabytes
abbrev pub config : ℕ → ℕ → Config
config schedulers scs = record DEFAULT_CONFIG { schedulers = schedulers; scs = scs }

abbrev pub fault_of : Answers → Option TraceFault
fault_of (Ok ts) = None
fault_of (Err f) = Some f

-- why an input is refused with that many schedulers and megabytes, if it is
abbrev pub refused : ℕ → ℕ → List ℕ → Option TraceFault
refused schedulers scs input = fault_of (traces (config schedulers scs) input)

-- the operations of each type's schedulers, with one scheduler

abbrev pub texts_in : Answers → List (List (List Op))
texts_in (Ok ts) = map texts_of ts
texts_in (Err f) = []

abbrev pub texts : List ℕ → List (List (List Op))
texts input = texts_in (traces (config 1 64) input)

-- the types, and whose operation each line of each section is

abbrev pub types : List ℕ → List Letter
types input = unwrap_or (types_of (lines_of input)) []

abbrev pub parts : List ℕ → List (List ℕ)
parts input = parts_of (types input) (lines_of input)
