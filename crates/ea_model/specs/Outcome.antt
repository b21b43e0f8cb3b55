-- The outcome of a run, as definitions return it: whatever the capacity of its lists.
use Rattle.std.specs.Prelude.{List, map}
use Rattle.ea_model.specs.Entries.{Entry}
use Rattle.ea_model.specs.declared.outcome.Outcome.{Outcome}
use Rattle.ea_model.specs.Trace.{listed}

-- the logs, scheduler 1's first
abbrev pub logs_of : Outcome → List (List Entry)
logs_of o = map (λ log. log.items) o.logs.items

-- an outcome as a definition answers it: the same whatever the room of its lists
abbrev pub plain_outcome : Outcome → Outcome
plain_outcome o = record {
  logs = listed (map listed (logs_of o));
  carriers = listed o.carriers.items;
  totals = o.totals;
}
