-- Requests, the calls that make them, and the book of a region (`IsBookOf`).
use Rattle.std.specs.Prelude.{◌≡◌, ℕ, ◌+◌, ◌<◌, ◌≤◌, ◌==◌, if◌then◌else◌, List, All, length, map}
use Rattle.std.specs.Prelude.{slice_index_or, sum_by}
use Rattle.ea_model.specs.Lists.{Items}
use Rattle.ea_segments.specs.declared.calls.Book.{Book}
use Rattle.ea_segments.specs.declared.calls.Call.{Call}
use Rattle.ea_segments.specs.declared.calls.Reply.{Reply}
use Rattle.ea_segments.specs.declared.calls.Request.{Request}
use Rattle.ea_segments.specs.declared.calls.Request.TheVariants.{Back, Take}
use Rattle.ea_segments.specs.Histories.{IsByOneOf, IsLegal, IsSoundThroughout, calls_of, stands}

-- one page at least is asked for
abbrev pub IsRequest : Request → Type 0
IsRequest (Take name pages) = 1 ≤ pages
IsRequest (Back name) = Unit {0}

-- the call by which scheduler i asked for that and got that reply
abbrev pub call_of : ℕ → Request → Reply → Call
call_of i (Take name pages) r = record { scheduler = i; name = name; pages = pages; reply = r }
call_of i (Back name) r = record { scheduler = i; name = name; pages = 0; reply = r }

-- what a call asked for
abbrev pub asked : Call → Request
asked c = if c.pages == 0 then Back c.name else Take c.name c.pages

-- the book of a region of that many pages of which schedulers made these requests: each reply is
-- the one that one thread gets at that point; the calls of each scheduler are its requests, all of
-- them, once each and in their order; and there are no others
pub record IsBookOf (total : ℕ) (sections : List (Items Request)) (book : Book) : Type 0 where
  pub legal : IsLegal total book.history.items
  pub sound : IsSoundThroughout total book.history.items
  pub asks : (k : ℕ) (d : Items Request) → k < length sections
      → map asked (calls_of (k + 1) book.history.items) ≡ (slice_index_or sections k d).items
  pub theirs : All (IsByOneOf (length sections)) book.history.items
  pub segments : book.segments ≡ length (stands book.history.items).held
  pub pages : book.pages ≡ sum_by (λ h. h.pages) (stands book.history.items).held
  pub free : book.free + book.pages ≡ total
