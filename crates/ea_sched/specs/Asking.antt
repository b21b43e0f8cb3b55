-- What the local work of a scheduler asks for, of its instance and of the names that it holds.
use Rattle.std.specs.Prelude.{◌≡◌, ℕ, ◌+◌, ◌%◌, ◌^◌, ◌<◌, ◌≤◌, Bool, true, false, List}
use Rattle.std.specs.Prelude.{[], ◌∷◌, None, IfSome, IsSome, drop, length}
use Rattle.ea_model.specs.declared.operations.Op.{Op}
use Rattle.ea_model.specs.declared.operations.Op.TheVariants.{Alloc, Free, Realloc}
use Rattle.ea_model.specs.declared.operations.Op.TheVariants.{Give, Take, Info, Idle}
use Rattle.ea_model.specs.declared.units.TheConstants.{MAX_BYTES, MIN_BLOCK}
use Rattle.ea_model.specs.Instance.{Instance, block_in, employed, has_content, own_at}
use Rattle.ea_model.specs.Instance.{owner_of}
use Rattle.ea_machine.specs.declared.asks.Ask.{Ask}
use Rattle.ea_machine.specs.declared.nodes.Named.{Named}
use Rattle.ea_machine.specs.declared.nodes.Node.{Node}
use Rattle.ea_machine.specs.Nodes.{named_at, spot_named}
use Rattle.ea_names.specs.Holding.{Holding, has_place}
use Rattle.ea_sched.specs.declared.state.Scheduler.{Scheduler}
use Rattle.ea_sound.specs.Walking.{CanAllGo, worked}

-- an operation is left
abbrev pub HasMore : Scheduler → Type 0
HasMore s = s.done < length s.text.now

-- a carrier more can be counted
abbrev pub CanCount : Instance → Type 0
CanCount i = i.created + 1 < 2 ^ 32

-- a name that has a place and isn't held
pub record IsFreshIn (names : Holding) (name : ℕ) : Type 0 where
  pub place : has_place names.places name ≡ true
  pub fresh : spot_named name names.held ≡ None

-- a name up to the greatest one; where carriers don't migrate, its block lies at its spot in the
-- instance if `me` owns its carrier, and then the instance does
pub record IsHereIn (i : Instance) (migrates : Bool) (me greatest : ℕ) (x : Named) : Type 0 where
  pub name : x.name ≤ greatest
  pub block : migrates ≡ false → owner_of x.spot.carrier ≡ me
      → IsSome (block_in (employed i) x.spot)
  pub own : migrates ≡ false → owner_of x.spot.carrier ≡ me → IsSome (own_at i.own x.spot.carrier)

-- a name with a place that the scheduler doesn't hold
abbrev pub IsFresh : Scheduler → ℕ → Type 0
IsFresh s name = IsFreshIn s.names name

-- the block of a name lies in its carrier, if the instance employs that
abbrev pub Lies : Instance → Named → Type 0
Lies i x = has_content x.spot.carrier (employed i) ≡ true → IsSome (block_in (employed i) x.spot)

module _ (i : Instance) (s : Scheduler) where
  -- a name of the trace; where carriers don't migrate, its block is here if the scheduler owns its
  -- carrier
  abbrev pub IsHere : Named → Type 0
  IsHere x = IsHereIn i s.migrates s.number s.names.greatest x

  -- a place is asked for as operations ask for one
  pub record IsAsked (ask : Ask) : Type 0 where
    pub even : ask.need % 2 ≡ 0
    pub least : MIN_BLOCK ≤ ask.need
    pub fresh : IsFresh s ask.name
    pub old : IfSome ask.old IsHere

  -- the name of an operation is one of the trace, and its block is here if it is held
  abbrev pub HasName : ℕ → Type 0
  HasName name = (name ≤ s.names.greatest) × IfSome (named_at name s.names.held) IsHere

  -- the operation may be the next one
  abbrev pub Suits : Op → Type 0
  Suits (Alloc name bytes) = IsFresh s name × (bytes ≤ MAX_BYTES)
  Suits (Free name) = HasName name
  Suits (Realloc old fresh bytes) = HasName old × IfSome (named_at old s.names.held) (Lies i)
      × IsFresh s fresh × (bytes ≤ MAX_BYTES)
  Suits (Give name to) = name ≤ s.names.greatest
  Suits (Take name tries) = Unit {0}
  Suits Info = Unit {0}
  Suits Idle = Unit {0}

  -- the next operation may be the next one, if one is left
  abbrev pub SuitsNext : Type 0
  SuitsNext = (o : Op) (ops : List Op) → drop s.done s.text.now ≡ o ∷ ops → Suits o

-- these nodes of its walk may be worked off, and then the next operation may be the next one
pub record CanWorkOff (s : Scheduler) (nodes : List Node) : Type 0 where
  pub passed : s.migrates ≡ false → CanAllGo s.number s.instance nodes
  pub next : s.migrates ≡ false → (worked s.number s.instance nodes).hand ≡ None
      → SuitsNext (worked s.number s.instance nodes).instance s
  pub next_on : s.migrates ≡ true → nodes ≡ [] → SuitsNext s.instance s
