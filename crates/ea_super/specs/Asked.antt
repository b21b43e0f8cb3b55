-- The requests that were read: what holds of the size of each.
use Rattle.std.specs.Prelude.{◌≡◌, ℕ, Bool, true, nat_le, List, All, length, sum_by}
use Rattle.ea_model.specs.Lists.{Items}
use Rattle.ea_segments.specs.declared.calls.Request.{Request}
use Rattle.ea_segments.specs.declared.calls.Request.TheVariants.{Back, Take}
use Rattle.ea_super.specs.declared.lines.Line.{Line}
use Rattle.ea_super.specs.declared.lines.Line.TheVariants.{Asks}

-- whether a request asks for a page at least, or for none
abbrev pub asks_pages : Request → Bool
asks_pages (Take name pages) = nat_le 1 pages
asks_pages (Back name) = true

abbrev pub AsksPages : List Request → Type 0
AsksPages qs = All (λ q. asks_pages q ≡ true) qs

-- a line does, if it has a request
abbrev pub IsAsked : Line → Type 0
IsAsked (Asks request) = asks_pages request ≡ true
IsAsked line = Unit {0}

-- how many requests these sections have
abbrev pub count_in : List (Items Request) → ℕ
count_in ss = sum_by (λ s. length s.items) ss
