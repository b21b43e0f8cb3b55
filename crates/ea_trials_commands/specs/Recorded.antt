-- Words of tests: worked inputs of recorded operations, in short what the language says of them,
-- and their turns.
use Rattle.std.specs.Prelude.{ℕ, List, [], Option, Some, None, Result, Ok, Err}
use Rattle.ea_flags.specs.declared.fault.FlagFault.{FlagFault}
use Rattle.ea_flags.specs.Flags.{flags}
use Rattle.ea_model.specs.Settings.{by_rules}
use Rattle.ea_model.specs.Trace.{texts_of}
use Rattle.ea_model.specs.declared.operations.Op.{Op}
use Rattle.ea_model.specs.declared.settings.Config.{Config}
use Rattle.ea_model.specs.declared.settings.Rules.{Rules}
use Rattle.ea_machine.specs.Setup.{setup_of}
use Rattle.ea_trace.specs.declared.fault.TraceFault.{TraceFault}
use Rattle.ea_recorded.specs.Language.{Asked, recorded}
use Rattle.ea_recorded.specs.Order.{recorded_turns}

abbrev pub fault_of : Asked → Option TraceFault
fault_of (Ok asked) = None
fault_of (Err f) = Some f

-- why an input is refused with that many schedulers, if it is
abbrev pub refused : ℕ → List ℕ → Option TraceFault
refused schedulers input = fault_of (recorded input schedulers)

-- the operations of each scheduler
abbrev pub texts_in : Asked → List (List Op)
texts_in (Ok asked) = texts_of asked.trace
texts_in (Err f) = []

abbrev pub texts : ℕ → List ℕ → List (List Op)
texts schedulers input = texts_in (recorded input schedulers)

-- the scheduler of each line
abbrev pub order_in : Asked → List ℕ
order_in (Ok asked) = asked.order
order_in (Err f) = []

abbrev pub order : ℕ → List ℕ → List ℕ
order schedulers input = order_in (recorded input schedulers)

-- the rules by which it is run
abbrev pub rules_in : Asked → Option Rules
rules_in (Ok asked) = Some asked.rules
rules_in (Err f) = None

abbrev pub rules : ℕ → List ℕ → Option Rules
rules schedulers input = rules_in (recorded input schedulers)

-- the turns of the run, under the configuration that the words ask for

abbrev pub turns_of : Config → Asked → List ℕ
turns_of c (Ok asked) = recorded_turns (setup_of (by_rules asked.rules c) asked.trace) asked.order
turns_of c (Err f) = []

abbrev pub turns_under : List ℕ → Result Config FlagFault → List ℕ
turns_under input (Ok c) = turns_of c (recorded input c.schedulers)
turns_under input (Err f) = []

abbrev pub turns : List (List ℕ) → List ℕ → List ℕ
turns words input = turns_under input (flags words)
