-- Blocks and gaps at the spots of an instance, and what a strategy finds among them. They also say
-- that all carrier numbers are in use (`AllUsed`).
use Rattle.std.specs.Prelude.{◌≡◌, ◌≢◌, ℕ, ◌+◌, ◌<◌, ◌≤◌, true, List, All, None, Some, filter}
use Rattle.ea_model.specs.declared.carriers.Spot.{Spot}
use Rattle.ea_model.specs.declared.carriers.Place.{Place}
use Rattle.ea_model.specs.declared.settings.Settings.{Settings}
use Rattle.ea_model.specs.declared.units.TheConstants.{NUMBERS}
use Rattle.ea_model.specs.Content.{Content, gaps_of, gap_at, is_empty_multi}
use Rattle.ea_model.specs.Strategies.{candidates, inspected_by, may_miss}
use Rattle.ea_model.specs.Instance.{Instance, content_of, block_in, first_number, is_used}

-- a gap of at least `need` units begins at the spot
abbrev pub HasGap : ℕ → ℕ → ℕ → List Content → Type 0
HasGap need number offset cs = (c : Content) × (content_of cs number ≡ Some c)
    × (need ≤ gap_at (gaps_of c) offset)

-- the spot is another one
abbrev pub IsOther : ℕ → ℕ → Spot → Type 0
IsOther number offset spot = spot.carrier ≡ number → spot.offset ≢ offset

-- the block of the name begins at a place where none began, and other blocks stay
pub record IsPlaced (old new : List Content) (name : ℕ) (place : Place) : Type 0 where
  pub fresh : block_in old (record { carrier = place.carrier; offset = place.offset }) ≡ None
  pub begins : block_in new (record { carrier = place.carrier; offset = place.offset }) ≡ Some
      (record { name = name; offset = place.offset; size = place.size })
  pub others : (at : Spot) → IsOther place.carrier place.offset at
      → block_in new at ≡ block_in old at

-- the same blocks begin at the same spots
abbrev pub HaveSameBlocks : List Content → List Content → Type 0
HaveSameBlocks old new = (at : Spot) → block_in new at ≡ block_in old at

-- nothing that the strategy inspects has that many units, nor, where it may miss a gap, has a
-- multiblock carrier without blocks
abbrev pub FindsNone : Settings → ℕ → List Content → Type 0
FindsNone s need cs =
    All (λ x. x.size < need) (inspected_by s.strategy s.mbsd (candidates cs))
    × (may_miss s.strategy ≡ true
    → All (λ x. x.size < need) (candidates (filter is_empty_multi cs)))

-- all carrier numbers of the instance are in use
abbrev pub AllUsed : Instance → Type 0
AllUsed i = (n : ℕ) → first_number i.number ≤ n → n < first_number i.number + NUMBERS
    → is_used n i.own ≡ true
