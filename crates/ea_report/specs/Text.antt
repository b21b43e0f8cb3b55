-- The output text of a run: of all of its outcome (`outcome_text`), or the counts of a generated
-- trace (`summary_text`).
-- This simulator's own: the sources do not speak of it.
use Rattle.std.specs.Prelude.{ℕ, ◌+◌, Bool, true, false, List, [], ◌∷◌, ◌++◌, codes, decimal}
use Rattle.std.specs.Prelude.{count_by}
use Rattle.std.specs.List.{flat_map}
use Rattle.ea_model.specs.declared.carriers.Place.{Place}
use Rattle.ea_model.specs.declared.carriers.Kind.{Kind}
use Rattle.ea_model.specs.declared.carriers.Kind.TheVariants as kind
use Rattle.ea_model.specs.declared.carriers.Standing.{Standing}
use Rattle.ea_model.specs.declared.carriers.Standing.TheVariants as standing
use Rattle.ea_model.specs.declared.carriers.CarrierLine.{CarrierLine}
use Rattle.ea_model.specs.declared.carriers.Totals.{Totals}
use Rattle.ea_model.specs.declared.outcome.Outcome.{Outcome}
use Rattle.ea_model.specs.declared.entries.NoCarrier.{NoCarrier}
use Rattle.ea_model.specs.declared.entries.NoCarrier.TheVariants as cause
use Rattle.ea_model.specs.declared.entries.Report.{Report}
use Rattle.ea_model.specs.Entries.{Entry}
use Rattle.ea_model.specs.declared.entries.Entry.TheVariants as entry
use Rattle.ea_model.specs.Outcome.{logs_of}
use Rattle.ea_report.specs.declared.summary.Counted.{Counted}
use Rattle.ea_report.specs.declared.summary.Counted.TheVariants as counted

-- a line: a first word, each further word after a space, and a line feed
abbrev pub line : List ℕ → List (List ℕ) → List ℕ
line first words = first ++ flat_map (λ w. 32 ∷ w) words ++ 10 ∷ []

abbrev pub cause_text : NoCarrier → List ℕ
cause_text cause.Numbers = codes "numbers"
cause_text cause.Space = codes "space"

abbrev pub report_text : List ℕ → Report → List ℕ
report_text class r = line (codes "info") (class
    ∷ codes "blocks" ∷ decimal r.blocks.now ∷ decimal r.blocks.last ∷ decimal r.blocks.ever
    ∷ codes "blocks_size" ∷ decimal r.blocks_size.now ∷ decimal r.blocks_size.last ∷ decimal
    r.blocks_size.ever
    ∷ codes "carriers" ∷ decimal r.carriers.now ∷ decimal r.carriers.last ∷ decimal r.carriers.ever
    ∷ codes "carriers_size" ∷ decimal r.carriers_size.now ∷ decimal r.carriers_size.last ∷ decimal
    r.carriers_size.ever ∷ [])

-- the line of a reallocation whose block lies at p, with what came of the old one
abbrev pub realloc_text : ℕ → ℕ → Place → List (List ℕ) → List ℕ
realloc_text old fresh p rest = line (codes "realloc")
    (decimal old ∷ decimal fresh ∷ decimal p.carrier ∷ decimal p.offset ∷ decimal p.size ∷ rest)

-- what stands after the names of an operation that found no place
abbrev pub fail_words : ℕ → ℕ → NoCarrier → List (List ℕ)
fail_words need looked why = codes "fail" ∷ codes "need" ∷ decimal need ∷ codes "looked" ∷ decimal
    looked ∷ cause_text why ∷ []

-- the line of an entry; the allocator information has two
abbrev pub entry_text : Entry → List ℕ
entry_text (entry.Alloc name p) = line (codes "alloc")
    (decimal name ∷ decimal p.carrier ∷ decimal p.offset ∷ decimal p.size ∷ [])
entry_text (entry.AllocFail name need looked why) = line (codes "alloc")
    (decimal name ∷ fail_words need looked why)
entry_text (entry.Free name) = line (codes "free") (decimal name ∷ codes "done" ∷ [])
entry_text (entry.FreeQueued name to) = line (codes "free")
    (decimal name ∷ codes "queued" ∷ decimal to ∷ [])
entry_text (entry.FreeSkipped name) = line (codes "free") (decimal name ∷ codes "skipped" ∷ [])
entry_text (entry.ReallocHere old fresh p) = realloc_text old fresh p (codes "here" ∷ [])
entry_text (entry.ReallocMoved old fresh p) = realloc_text old fresh p
    (codes "moved" ∷ codes "done" ∷ [])
entry_text (entry.ReallocQueued old fresh p to) = realloc_text old fresh p
    (codes "moved" ∷ codes "queued" ∷ decimal to ∷ [])
entry_text (entry.ReallocFail old fresh need looked why) = line (codes "realloc")
    (decimal old ∷ decimal fresh ∷ fail_words need looked why)
entry_text (entry.ReallocSkipped old fresh) = line (codes "realloc")
    (decimal old ∷ decimal fresh ∷ codes "skipped" ∷ [])
entry_text (entry.Give name to) = line (codes "give") (decimal name ∷ decimal to ∷ [])
entry_text (entry.GiveSkipped name to) = line (codes "give")
    (decimal name ∷ decimal to ∷ codes "skipped" ∷ [])
entry_text (entry.Take name) = line (codes "take") (decimal name ∷ codes "got" ∷ [])
entry_text (entry.TakeAbsent name tries) = line (codes "take")
    (decimal name ∷ codes "absent" ∷ decimal tries ∷ [])
entry_text (entry.Info reports) = report_text (codes "mbcs") reports.mbcs ++ report_text
    (codes "sbcs") reports.sbcs
entry_text entry.Idle = line (codes "idle") []
entry_text (entry.Stopped steps) = line (codes "stopped") (decimal steps ∷ [])

abbrev pub kind_text : Kind → List ℕ
kind_text kind.Main = codes "main"
kind_text kind.Multi = codes "multi"
kind_text kind.Single = codes "single"

abbrev pub standing_text : Standing → List ℕ
standing_text standing.Employed = codes "employed"
standing_text standing.Pooled = codes "pooled"
standing_text standing.Busy = codes "busy"
standing_text standing.Returning = codes "returning"

abbrev pub carrier_text : CarrierLine → List ℕ
carrier_text c = line (codes "carrier")
    (decimal c.number ∷ kind_text c.kind ∷ codes "owner" ∷ decimal c.owner ∷ standing_text c.word ∷
    decimal c.employer ∷ codes "base" ∷ decimal c.base ∷ codes "pages" ∷ decimal c.pages ∷ codes
    "allocated" ∷ decimal c.allocated ∷ codes "largest" ∷ decimal c.largest ∷ [])

abbrev pub totals_text : Totals → List ℕ
totals_text t = line (codes "total")
    (codes "carriers" ∷ decimal t.carriers ∷ codes "units" ∷ decimal t.units ∷ codes "live" ∷
    decimal t.live ∷ codes "queued" ∷ decimal t.queued ∷ codes "free" ∷ decimal t.free ∷ codes
    "header" ∷ decimal t.header ∷ [])

-- the logs of schedulers from that number on, each after a line with its number
abbrev pub logs_text : ℕ → List (List Entry) → List ℕ
logs_text i [] = []
logs_text i (log ∷ logs) = line (codes "scheduler") (decimal i ∷ []) ++ flat_map entry_text log
    ++ logs_text (i + 1) logs

-- the text of an outcome: the log of each scheduler, the carriers and the totals
abbrev pub outcome_text : Outcome → List ℕ
outcome_text o = logs_text 1 (logs_of o) ++ flat_map carrier_text o.carriers.items
    ++ totals_text o.totals

-- whether the entry is one of these
abbrev pub is_of : Counted → Entry → Bool
is_of counted.Alloc (entry.Alloc name p) = true
is_of counted.Alloc e = false
is_of counted.Fail (entry.AllocFail name need looked why) = true
is_of counted.Fail e = false
is_of counted.Free (entry.Free name) = true
is_of counted.Free e = false
is_of counted.Queued (entry.FreeQueued name to) = true
is_of counted.Queued e = false
is_of counted.Give (entry.Give name to) = true
is_of counted.Give e = false
is_of counted.Take (entry.Take name) = true
is_of counted.Take e = false

-- how many entries of the log are of these
abbrev pub count_of : Counted → List Entry → ℕ
count_of kind log = count_by (is_of kind) log

-- the line of a scheduler of a generated trace
abbrev pub counts_text : ℕ → List Entry → List ℕ
counts_text i log = line (codes "scheduler")
    (decimal i ∷ codes "alloc" ∷ decimal (count_of counted.Alloc log)
    ∷ codes "fail" ∷ decimal (count_of counted.Fail log)
    ∷ codes "free" ∷ decimal (count_of counted.Free log)
    ∷ codes "queued" ∷ decimal (count_of counted.Queued log)
    ∷ codes "give" ∷ decimal (count_of counted.Give log)
    ∷ codes "take" ∷ decimal (count_of counted.Take log) ∷ [])

-- the lines of schedulers from that number on
abbrev pub counted_text : ℕ → List (List Entry) → List ℕ
counted_text i [] = []
counted_text i (log ∷ logs) = counts_text i log ++ counted_text (i + 1) logs

-- the text of a generated trace, of which this is the outcome: what it was made from, the counts of
-- each scheduler's log, and the totals
abbrev pub summary_text : ℕ → ℕ → Outcome → List ℕ
summary_text seed count o = line (codes "generated") (decimal seed ∷ decimal count ∷ [])
    ++ counted_text 1 (logs_of o) ++ totals_text o.totals
