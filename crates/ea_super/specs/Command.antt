-- The language of the command `super`, inputs for one region that schedulers share
-- (`shared_region`).
-- This simulator's own: the sources do not speak of it.
use Rattle.std.specs.Prelude.{◌≡◌, ℕ, ◌*◌, true, List, map}
use Rattle.ea_frame.specs.Language.{Language}
use Rattle.ea_model.specs.Trace.{listed}
use Rattle.ea_model.specs.declared.settings.Config.{Config}
use Rattle.ea_model.specs.declared.units.TheConstants.{MEGABYTE_PAGES}
use Rattle.ea_segments.specs.Requests.{IsBookOf}
use Rattle.ea_segments.specs.declared.calls.Book.{Book}
use Rattle.ea_segments.specs.declared.calls.Request.{Request}
use Rattle.ea_super.specs.Language.{requests_in}
use Rattle.ea_super.specs.Text.{book_text}

-- the pages of the super carrier, all of which are one region
abbrev pub super_pages : Config → ℕ
super_pages c = c.scs * MEGABYTE_PAGES

-- the text is that of a book of a region of that many pages, of which each section's requests are
-- the calls of its scheduler
abbrev pub IsBookText : ℕ → List (List Request) → List ℕ → Type 0
IsBookText total sections text = (book : Book) × IsBookOf total (map listed sections) book
    × (text ≡ book_text book)

-- an input asks that its sections be played on the region, and its texts are those of the books
-- that this may give; nothing is promised beside the text
abbrev pub shared_region : Language
shared_region = record {
  Request = List (List Request);
  read = λ c input. requests_in input c.schedulers;
  runs = λ sections. true;
  Gives = λ c sections text. IsBookText (super_pages c) sections text;
  Promises = λ c. Unit {0};
}
