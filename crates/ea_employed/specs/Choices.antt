-- The choice that a search among an instance's carriers returns.
use Rattle.std.specs.Prelude.{◌≡◌, ℕ, ◌+◌, ◌*◌, ◌<◌, ◌≤◌, List, Option}
use Rattle.std.specs.Prelude.{length, option_map, slice_index_or}
use Rattle.ea_model.specs.declared.carriers.Candidate.{Candidate}
use Rattle.ea_model.specs.declared.units.TheConstants.{PAGE_UNITS}
use Rattle.ea_model.specs.Content.{Content, gaps_of, gap_at}
use Rattle.ea_employed.specs.declared.choice.Choice.{Choice}

-- the gap alone
abbrev pub candidate_of : Option Choice → Option Candidate
candidate_of found = option_map (λ x. x.candidate) found

-- the candidate is a whole gap of the content, of at least `need` units
pub record IsChosenIn (need : ℕ) (c : Content) (x : Candidate) : Type 0 where
  pub number : x.number ≡ c.number
  pub address : x.address ≡ PAGE_UNITS * c.base + x.offset
  pub gap : gap_at (gaps_of c) x.offset ≡ x.size
  pub fits : need ≤ x.size

-- the candidate is one of the content at the index
pub record IsChoice (need : ℕ) (cs : List Content) (found : Choice) : Type 0 where
  pub content : Content
  pub within : found.index < length cs
  pub is : slice_index_or cs found.index content ≡ content
  pub chosen : IsChosenIn need content found.candidate
