-- Where carriers are in plain memory: carriers in a list, by their numbers (`place_at`).
use Rattle.std.specs.Prelude.{ℕ, Bool, List, get_or, set}
use Rattle.ea_model.specs.Content.{Content}
use Rattle.ea_machine.specs.Owners.{CarrierAt}
use Rattle.ea_machine.specs.Owners as owners
use Rattle.ea_machine.specs.Lists.{counts}
use Rattle.ea_machine.specs.Rows.{Answer}
use Rattle.ea_machine.specs.Rows as rows
use Rattle.ea_mem_shared.specs.declared.carriers.Place.{Place}
use Rattle.ea_mem_shared.specs.declared.carriers.Place.TheVariants.{Absent, Employed, Pooled, Busy}
use Rattle.ea_mem_shared.specs.declared.carriers.Place.TheVariants.{Returning}

module _ {C : Type 0} (content : C → Content) where
  -- where a carrier is, with the content that the value at home stands for
  abbrev pub placed : Place C → CarrierAt
  placed Absent = owners.Absent
  placed (Employed i) = owners.Employed i
  placed (Pooled i g x) = owners.Pooled i g (content x)
  placed (Busy i) = owners.Busy i
  placed (Returning i x) = owners.Returning i (content x)

-- where the carrier of a number is, among places from 0 on
abbrev pub place_at : List CarrierAt → ℕ → CarrierAt
place_at places number = get_or places number owners.Absent

-- whether a search of the pool counts the carrier
abbrev pub is_in_search : CarrierAt → Bool
is_in_search place = counts (owners.word_of place)

abbrev pub counts_at : List CarrierAt → ℕ → Bool
counts_at places number = is_in_search (place_at places number)

-- places after a try: it leaves another one where it is won
abbrev pub after_try : Answer → ℕ → CarrierAt → List CarrierAt → List CarrierAt
after_try (rows.Won x) number place places = set places number place
after_try _ number place places = places
