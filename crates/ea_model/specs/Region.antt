-- A region of pages, and the runs of it that no segment covers. It defines the lowest run that is
-- long enough, and how segments are taken and given back.
-- This simulator's own: the sources leave it undecided.
use Rattle.std.specs.Prelude.{◌≡◌, ◌⊎◌, ℕ, ◌+◌, ◌-◌, ◌<◌, ◌≤◌, max, Bool, true, false, ◌&&◌}
use Rattle.std.specs.Prelude.{if◌then◌else◌}
use Rattle.std.specs.Prelude.{nat_lt, nat_le, List, [], ◌∷◌, ◌++◌, Option, None, Some, find}
use Rattle.std.specs.Prelude.{option_map, All, Any}
use Rattle.std.specs.List.{flat_map}
use Rattle.std.specs.Option.{option_or}
use Rattle.ea_model.specs.declared.carriers.Segment.{Segment}
use Rattle.ea_model.specs.Keyed.{entered}

-- pages from `first` on, up to `end`, and the taken segments by rising base
pub record Region : Type 0 where
  pub first : ℕ
  pub end : ℕ
  pub taken : List Segment

-- the pages from a up to b, as a list of at most one segment
abbrev pub stretch : ℕ → ℕ → List Segment
stretch a b = if nat_lt a b then record { base = a; pages = b - a } ∷ [] else []

-- the maximal runs from `at` up to `end` that no segment covers, of segments by rising base
abbrev pub runs : ℕ → ℕ → List Segment → List Segment
runs at end [] = stretch at end
runs at end (s ∷ ss) = stretch at s.base ++ runs (s.base + s.pages) end ss

-- the free runs of a region, by rising base
abbrev pub runs_of : Region → List Segment
runs_of r = runs r.first r.end r.taken

-- where the lowest run of at least that many pages begins
abbrev pub lowest_run : ℕ → List Segment → Option ℕ
lowest_run pages rs = option_map (λ r. r.base) (find (λ r. nat_le pages r.pages) rs)

-- where the last pages of the highest run of at least that many begin
unfoldable pub highest_end : ℕ → List Segment → Option ℕ
highest_end pages [] = None
highest_end pages (r ∷ rs) = option_or (highest_end pages rs)
    (if nat_le pages r.pages then Some (r.base + r.pages - pages) else None)

-- where a segment of that many pages is placed: whether segments fall
abbrev pub place_in : Bool → ℕ → List Segment → Option ℕ
place_in true pages rs = highest_end pages rs
place_in false pages rs = lowest_run pages rs

-- s among the segments, by its base
abbrev pub with_segment : Segment → List Segment → List Segment
with_segment s ss = entered (λ t. t.base) s ss

-- whether the page lies in the segment
abbrev pub covers : ℕ → Segment → Bool
covers page s = nat_le s.base page && nat_lt page (s.base + s.pages)

-- the segments without the pages of one of them from the page on
abbrev pub cut_from : ℕ → List Segment → List Segment
cut_from page ss = flat_map (λ s. if covers page s then stretch s.base page else s ∷ []) ss

-- the segments have pages and lie one after another from `at` up to `end`
abbrev pub Laid : ℕ → ℕ → List Segment → Type 0
Laid at end [] = at ≤ end
Laid at end (s ∷ ss) = (at ≤ s.base) × (0 < s.pages) × Laid (s.base + s.pages) end ss

-- the n pages or units from a on and the m from b on have none in common
abbrev pub AreApart : ℕ → ℕ → ℕ → ℕ → Type 0
AreApart a n b m = (a + n ≤ b) ⊎ (b + m ≤ a)

-- the segment and the pages have none in common
abbrev pub SegmentApart : ℕ → ℕ → Segment → Type 0
SegmentApart base pages s = AreApart s.base s.pages base pages

-- none of the pages is taken
abbrev pub AreFree : ℕ → ℕ → List Segment → Type 0
AreFree base pages taken = All (SegmentApart base pages) taken

-- the pages, one at least, are the whole or the tail of the segment
pub record IsTailOf (base pages : ℕ) (s : Segment) : Type 0 where
  pub within : s.base ≤ base
  pub some : 0 < pages
  pub to_end : base + pages ≡ s.base + s.pages

-- the pages are the whole or the tail of one taken segment
abbrev pub IsTail : ℕ → ℕ → List Segment → Type 0
IsTail base pages taken = Any (IsTailOf base pages) taken
