-- What a log says of an operation: an entry with its reports, as definitions and contracts see it,
-- and the entry as a log keeps it.
use Rattle.std.specs.Prelude.{ℕ, ◌<◌, List, [], ◌∷◌, Option, None, Some, IfSome, slice_get}
use Rattle.ea_model.specs.declared.entries.Entry as declared
use Rattle.ea_model.specs.declared.entries.Entry.TheVariants.{Alloc, AllocFail, Free, FreeQueued}
use Rattle.ea_model.specs.declared.entries.Entry.TheVariants.{FreeSkipped, ReallocHere}
use Rattle.ea_model.specs.declared.entries.Entry.TheVariants.{ReallocMoved, ReallocQueued}
use Rattle.ea_model.specs.declared.entries.Entry.TheVariants.{ReallocFail, ReallocSkipped, Give}
use Rattle.ea_model.specs.declared.entries.Entry.TheVariants.{GiveSkipped, Take, TakeAbsent, Info}
use Rattle.ea_model.specs.declared.entries.Entry.TheVariants.{Idle, Stopped}
use Rattle.ea_model.specs.declared.entries.Reports.{Reports}

-- an entry with its reports
abbrev pub Entry : Type 0
Entry = declared.Entry Reports

-- the allocator information, where its reports are there
abbrev pub informed : Option Reports → Entry
informed (Some r) = Info r
informed None = Idle

-- the entry whose reports, if it has any, stand at a place among these
abbrev pub told : List Reports → declared.Entry ℕ → Entry
told reports (Alloc name place) = Alloc name place
told reports (AllocFail name need looked why) = AllocFail name need looked why
told reports (Free name) = Free name
told reports (FreeQueued name to) = FreeQueued name to
told reports (FreeSkipped name) = FreeSkipped name
told reports (ReallocHere old fresh place) = ReallocHere old fresh place
told reports (ReallocMoved old fresh place) = ReallocMoved old fresh place
told reports (ReallocQueued old fresh place to) = ReallocQueued old fresh place to
told reports (ReallocFail old fresh need looked why) = ReallocFail old fresh need looked why
told reports (ReallocSkipped old fresh) = ReallocSkipped old fresh
told reports (Give name to) = Give name to
told reports (GiveSkipped name to) = GiveSkipped name to
told reports (Take name) = Take name
told reports (TakeAbsent name tries) = TakeAbsent name tries
told reports (Info at) = informed (slice_get reports at)
told reports Idle = Idle
told reports (Stopped steps) = Stopped steps

-- the entry with the place of its reports, if it has any, among those of a log
abbrev pub kept_at : ℕ → Entry → declared.Entry ℕ
kept_at at (Alloc name place) = Alloc name place
kept_at at (AllocFail name need looked why) = AllocFail name need looked why
kept_at at (Free name) = Free name
kept_at at (FreeQueued name to) = FreeQueued name to
kept_at at (FreeSkipped name) = FreeSkipped name
kept_at at (ReallocHere old fresh place) = ReallocHere old fresh place
kept_at at (ReallocMoved old fresh place) = ReallocMoved old fresh place
kept_at at (ReallocQueued old fresh place to) = ReallocQueued old fresh place to
kept_at at (ReallocFail old fresh need looked why) = ReallocFail old fresh need looked why
kept_at at (ReallocSkipped old fresh) = ReallocSkipped old fresh
kept_at at (Give name to) = Give name to
kept_at at (GiveSkipped name to) = GiveSkipped name to
kept_at at (Take name) = Take name
kept_at at (TakeAbsent name tries) = TakeAbsent name tries
kept_at at (Info reports) = Info at
kept_at at Idle = Idle
kept_at at (Stopped steps) = Stopped steps

-- its reports, if it has any
abbrev pub reports_in : Entry → List Reports
reports_in (Info reports) = reports ∷ []
reports_in e = []

-- where the reports of the entry stand, if it has any
abbrev pub place_of : declared.Entry ℕ → Option ℕ
place_of (Info at) = Some at
place_of e = None

-- the reports of the entry, if it has any, stand among that many
abbrev pub IsWithin : ℕ → declared.Entry ℕ → Type 0
IsWithin count entry = IfSome (place_of entry) (λ at. at < count)
