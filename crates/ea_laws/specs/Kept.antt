-- The carriers of an instance: those that it owns, those that it employs, where they lie, and what
-- holds of them at every moment. `IsOrderly` is an instance in order, whoever owns the carriers
-- that it employs; `Stands` is what else holds at every moment.
use Rattle.std.specs.Prelude.{◌≡◌, ◌⊎◌, ℕ, ◌+◌, ◌*◌, ◌%◌, ◌/◌, ◌<◌, ◌≤◌, true, List, [], ◌∷◌, All}
use Rattle.std.specs.Prelude.{AllPairs, Some}
use Rattle.ea_model.specs.declared.carriers.BlockAt.{BlockAt}
use Rattle.ea_model.specs.declared.carriers.Kind.TheVariants.{Single}
use Rattle.ea_model.specs.declared.carriers.OwnCarrier.{OwnCarrier}
use Rattle.ea_model.specs.declared.settings.Settings.{Settings}
use Rattle.ea_model.specs.declared.units.TheConstants.{HEADER_UNITS, MAX_PAGES, MAX_SCHEDULERS}
use Rattle.ea_model.specs.declared.units.TheConstants.{MAX_UNITS, MIN_BLOCK, NUMBERS, PAGE_UNITS}
use Rattle.ea_model.specs.Content.{Content, Tiled}
use Rattle.ea_model.specs.Keyed.{IsBelow}
use Rattle.ea_model.specs.Settings.{IsValid}
use Rattle.ea_model.specs.Instance.{Instance, employed, segments, first_number, own_at, own_of}
use Rattle.ea_model.specs.Region.{AreApart, Laid}
use Rattle.ea_laws.specs.Kinds.{is_shared}

abbrev pub number_of : Content → ℕ
number_of c = c.number

abbrev pub own_number : OwnCarrier → ℕ
own_number o = o.number

-- the contents, and the own carriers, stand by rising number
abbrev pub IsRising : List Content → Type 0
IsRising cs = AllPairs (IsBelow number_of) cs

abbrev pub IsRisingOwn : List OwnCarrier → Type 0
IsRisingOwn os = AllPairs (IsBelow own_number) os

-- the number is from `low` on and below `high`
abbrev pub HasNumberIn : ℕ → ℕ → OwnCarrier → Type 0
HasNumberIn low high o = (low ≤ o.number) × (o.number < high)

abbrev pub HasPages : OwnCarrier → Type 0
HasPages o = 1 ≤ o.pages

-- a carrier has whole pages, one at least
abbrev pub IsWhole : Content → Type 0
IsWhole c = (c.units % PAGE_UNITS ≡ 0) × (1 ≤ c.units / PAGE_UNITS)

-- a carrier ends within the largest super carrier
abbrev pub IsLow : Content → Type 0
IsLow c = PAGE_UNITS * c.base + c.units ≤ MAX_UNITS

-- a carrier has whole pages, may have many blocks, these lie in order, and it lies low enough
pub record IsLaidOut (c : Content) : Type 0 where
  pub whole : IsWhole c
  pub shared : is_shared c.kind ≡ true
  pub tiled : Tiled HEADER_UNITS c.units c.blocks
  pub low : IsLow c

-- a singleblock carrier of that many units has one block, directly behind its header, and none once
-- that was released
abbrev pub HasOneBlock : ℕ → List BlockAt → Type 0
HasOneBlock units [] = Unit {0}
HasOneBlock units (b ∷ []) = (b.offset ≡ HEADER_UNITS) × (MIN_BLOCK ≤ b.size) × (b.size % 2 ≡ 0)
    × (HEADER_UNITS + b.size ≤ units)
HasOneBlock units (b ∷ c ∷ bs) = ⊥

-- a singleblock carrier has whole pages and its block, and lies low enough
pub record IsLaidOutAlone (c : Content) : Type 0 where
  pub whole : IsWhole c
  pub single : c.kind ≡ Single
  pub block : HasOneBlock c.units c.blocks
  pub low : IsLow c

-- two carriers have no unit in common
abbrev pub ContentsApart : Content → Content → Type 0
ContentsApart c d = AreApart (PAGE_UNITS * c.base) c.units (PAGE_UNITS * d.base) d.units

-- the carriers that instance `number` owns, whose region has the pages from `first` up to `end`:
-- their numbers rise and are the instance's own, and their segments lie in the region, which ends
-- within the largest super carrier
pub record IsKept (settings : Settings) (number first end : ℕ) (own : List OwnCarrier) : Type 0
  where
    pub valid : IsValid settings
    pub instance : (1 ≤ number) × (number ≤ MAX_SCHEDULERS)
    pub rising : IsRisingOwn own
    pub numbers : All (HasNumberIn (first_number number) (first_number number + NUMBERS)) own
    pub pages : All HasPages own
    pub within : end ≤ MAX_PAGES
    pub laid : Laid first end (segments own)

-- a carrier of another instance: its number and its pages are none of this one's
pub record IsForeign (number first end : ℕ) (o : OwnCarrier) : Type 0 where
  pub other : HasNumberIn (first_number number) (first_number number + NUMBERS) o → ⊥
  pub numbered : (1 ≤ o.number) × (o.number ≤ NUMBERS * MAX_SCHEDULERS)
  pub outside : (o.base + o.pages ≤ first) ⊎ (end ≤ o.base)

-- the instance owns the carrier
abbrev pub IsOwn : List OwnCarrier → OwnCarrier → Type 0
IsOwn own o = own_at own o.number ≡ Some o

-- it owns it, or another one does
abbrev pub IsSomeones : Instance → OwnCarrier → Type 0
IsSomeones i o = IsOwn i.own o ⊎ IsForeign i.number i.first i.end o

-- an instance in order, whoever owns the carriers that it employs: it keeps those that it owns,
-- their segments lie apart in its region, and it employs carriers of many blocks and of one, each
-- number once, which are laid out
pub record IsOrderly (i : Instance) : Type 0 where
  pub kept : IsKept i.settings i.number i.first i.end i.own
  pub rising : IsRising i.contents
  pub rising_singles : IsRising i.singles
  pub once : IsRising (employed i)
  pub laid : All IsLaidOut i.contents
  pub alone : All IsLaidOutAlone i.singles

-- an instance is in order; the carriers that it employs lie apart, and each is its own as it knows
-- it or another instance's; a singleblock carrier is its own, and so is each where carriers don't
-- migrate
pub record Stands (i : Instance) : Type 0 where
  pub orderly : IsOrderly i
  pub apart : AllPairs ContentsApart (employed i)
  pub someones : All (λ c. IsSomeones i (own_of c)) i.contents
  pub owned : All (λ c. IsOwn i.own (own_of c)) i.singles
  pub home : i.settings.acul ≡ 0 → All (λ c. IsOwn i.own (own_of c)) i.contents
