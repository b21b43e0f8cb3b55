-- Words of tests: worked texts, and in short what the language says of them.
use Rattle.std.specs.Prelude.{ℕ, zero, suc, List, [], ◌++◌, Option, Some, None, Result, Ok, Err}
use Rattle.std.specs.Prelude.{take, map}
use Rattle.std.specs.List.{range_with_len}
use Rattle.ea_model.specs.Trace.{listed}
use Rattle.ea_model.specs.declared.operations.Op.{Op}
use Rattle.ea_model.specs.declared.settings.Letter.{Letter}
use Rattle.ea_model.specs.declared.trace.Mode.{Mode}
use Rattle.ea_model.specs.declared.trace.Mode.TheVariants.{Schedule}
use Rattle.ea_model.specs.declared.trace.Stop.{Stop}
use Rattle.ea_model.specs.declared.trace.Trace.{Trace}
use Rattle.ea_model.specs.declared.trace.Turns.{Turns}
use Rattle.ea_trace.specs.Language.{trace}
use Rattle.ea_trace.specs.declared.fault.TraceFault.{TraceFault}

abbrev pub fault_of : Result Trace TraceFault → Option TraceFault
fault_of (Ok t) = None
fault_of (Err f) = Some f

-- why a text is no trace for n schedulers, if it is none
abbrev pub refused : ℕ → List ℕ → Option TraceFault
refused n text = fault_of (trace text n)

-- the same of the first bytes of a text: none of them, one, two, up to one less than that many
abbrev pub refused_cuts : ℕ → List ℕ → ℕ → List (Option TraceFault)
refused_cuts n text cuts = map (λ k. refused n (take k text)) (range_with_len 0 cuts)

-- a trace with these texts and stops, and this greatest name
abbrev pub is_stopped_trace : Letter → Mode → List (List Op) → List Stop → ℕ
    → Result Trace TraceFault
is_stopped_trace letter mode texts stops greatest = Ok (record {
  letter = letter;
  texts = listed (map (λ text. listed text) texts);
  stops = listed stops;
  mode = mode;
  greatest = greatest;
})

-- one without stops
abbrev pub is_trace : Letter → Mode → List (List Op) → ℕ → Result Trace TraceFault
is_trace letter mode texts greatest = is_stopped_trace letter mode texts [] greatest

abbrev pub stop : ℕ → ℕ → Stop
stop scheduler steps = record { scheduler = scheduler; steps = steps }

abbrev pub turns : ℕ → ℕ → Turns
turns scheduler count = record { scheduler = scheduler; count = count }

-- the mode of a trace with these turns
abbrev pub in_turns : List Turns → Mode
in_turns ts = Schedule (listed ts)

-- a text that many times
abbrev pub times : ℕ → List ℕ → List ℕ
times zero text = []
times (suc n) text = text ++ times n text
