-- What every scheduler is in the middle of, at every moment of every run. Words of proofs: no
-- clause of `run` names them.
use Rattle.std.specs.Prelude.{◌≡◌, ◌≢◌, ◌⊎◌, ℕ, ◌+◌, ◌<◌, ◌≤◌, true, false, List, [], ◌∷◌, Option}
use Rattle.std.specs.Prelude.{None, Some, Ok, All, AllPairs}
use Rattle.ea_model.specs.declared.carriers.Kind.TheVariants.{Multi}
use Rattle.ea_model.specs.declared.operations.Op.{Op}
use Rattle.ea_model.specs.declared.operations.Op.TheVariants as op
use Rattle.ea_model.specs.declared.units.TheConstants.{LIST_LIMIT, SEARCH_LIMIT}
use Rattle.ea_model.specs.Content.{Content, can_go}
use Rattle.ea_model.specs.Instance.{chosen_spot, plan, owner_of}
use Rattle.ea_model.specs.Keyed.{IsBelow}
use Rattle.ea_model.specs.Units.{need_of}
use Rattle.ea_laws.specs.Kept.{Stands}
use Rattle.ea_machine.specs.declared.nodes.Node.TheVariants.{Block, Carrier}
use Rattle.ea_machine.specs.declared.owners.OwnerWord.{OwnerWord}
use Rattle.ea_machine.specs.declared.owners.OwnerWord.TheVariants as word
use Rattle.ea_machine.specs.declared.stages.Stage.{Stage}
use Rattle.ea_machine.specs.declared.stages.Stage.TheVariants.{Begin, Routed, Collecting, Searching}
use Rattle.ea_machine.specs.declared.stages.Stage.TheVariants.{Fetching, Creating, Giving, Taking}
use Rattle.ea_machine.specs.declared.stages.Stage.TheVariants.{Ended, Ready}
use Rattle.ea_machine.specs.declared.stages.Route.{Route}
use Rattle.ea_machine.specs.declared.stages.Route.TheVariants.{Looking, Trying, Settling}
use Rattle.ea_machine.specs.declared.stages.Route.TheVariants.{Abandoning, Sending, Clearing}
use Rattle.ea_machine.specs.declared.stages.Route.TheVariants.{Pushing, Linking}
use Rattle.ea_machine.specs.declared.parts.Part.{Part}
use Rattle.ea_machine.specs.declared.parts.Part.TheVariants.{Own, Traitors, Pool}
use Rattle.ea_machine.specs.Searches.{goes_on}
use Rattle.ea_machine.specs.Actor.{Actor}
use Rattle.ea_machine.specs.declared.tasks.Task.{Task}
use Rattle.ea_machine.specs.declared.tasks.Task.TheVariants.{Freeing, Moving}
use Rattle.ea_machine.specs.declared.tasks.Why.{Why}
use Rattle.ea_machine.specs.declared.tasks.Why.TheVariants.{Walk, For}
use Rattle.ea_machine.specs.declared.asks.Ask.{Ask}
use Rattle.ea_sound.specs.Entries.{LogsEach}
use Rattle.ea_sound.specs.Names.{allocated, only, to_make}
use Rattle.ea_machine.specs.Nodes.{first_node, named_at, name_of}
use Rattle.ea_machine.specs.declared.nodes.Named.{Named}
use Rattle.ea_machine.specs.Owners.{CarrierAt, Absent, Employed, Pooled, Busy, Returning, word_of}
use Rattle.ea_sound.specs.Places.{MayStay}
use Rattle.ea_machine.specs.Setup.{Setup, greatest_number, is_scheduler, migration}
use Rattle.ea_machine.specs.Shared.{Shared}
use Rattle.ea_sound.specs.Sound.{HasNothing}
use Rattle.ea_machine.specs.State.{State}
use Rattle.ea_sound.specs.Blocks.{EmploysMain}
use Rattle.ea_sound.specs.Listed.{LooksAt}
use Rattle.ea_sound.specs.Rule.{Kept}

-- the operation whose block is on its route
abbrev pub OfTask : Task → List Op → Type 0
OfTask (Freeing name) (op.Free n ∷ ops) = name ≡ n
OfTask (Moving old fresh place) (op.Realloc o n bytes ∷ ops) = (old ≡ o) × (fresh ≡ n)
OfTask task ops = ⊥

abbrev pub OfWhy : Why → List Op → Type 0
OfWhy Walk ops = Unit {0}
OfWhy (For task) ops = OfTask task ops

-- the operation that asks for a place
abbrev pub OfAsk : Ask → List Op → Type 0
OfAsk ask (op.Alloc name bytes ∷ ops) =
    (ask.name ≡ name) × (ask.need ≡ need_of bytes) × (ask.old ≡ None)
OfAsk ask (op.Realloc old name bytes ∷ ops) = (ask.name ≡ name) × (ask.need ≡ need_of bytes)
    × ((h : Named) × (ask.old ≡ Some h) × (h.name ≡ old))
OfAsk ask ops = ⊥

abbrev pub OldHeld : Option Named → List Named → Type 0
OldHeld None held = Unit {0}
OldHeld (Some old) held = named_at old.name held ≡ Some old

-- the carrier of a block in the hand of a scheduler has an employer, and isn't busy by the
-- scheduler
abbrev pub HasEmployer : ℕ → CarrierAt → Type 0
HasEmployer me Absent = ⊥
HasEmployer me (Employed i) = Unit {0}
HasEmployer me (Pooled i largest x) = Unit {0}
HasEmployer me (Busy i) = i ≢ me
HasEmployer me (Returning i x) = ⊥

-- it has another employer
abbrev pub HasOther : ℕ → CarrierAt → Type 0
HasOther me Absent = ⊥
HasOther me (Employed i) = i ≢ me
HasOther me (Pooled i largest x) = i ≢ me
HasOther me (Busy i) = i ≢ me
HasOther me (Returning i x) = ⊥

-- the word that was seen, pooled by the scheduler, still stands
abbrev pub StillPooled : ℕ → OwnerWord → CarrierAt → Type 0
StillPooled me seen p = (word_of p ≡ seen)
    × ((largest : ℕ) × (seen ≡ word.Pooled me largest))

-- an operation that takes a name has a try
abbrev pub HasTry : Op → Type 0
HasTry (op.Take name tries) = 1 ≤ tries
HasTry o = Unit {0}

-- where a route may rest
abbrev pub FitsRoute : Setup → Shared → ℕ → Route Content → Type 0
FitsRoute e s me (Looking hand) =
    HasEmployer me (s.places hand.spot.carrier) × (migration e ≡ true)
FitsRoute e s me (Trying hand seen) = StillPooled me seen (s.places hand.spot.carrier)
    ⊎ HasOther me (s.places hand.spot.carrier)
FitsRoute e s me (Settling x) = (x.kind ≡ Multi) × (migration e ≡ true)
FitsRoute e s me (Abandoning x) = (x.kind ≡ Multi) × (x.blocks ≢ []) × (migration e ≡ true)
FitsRoute e s me (Sending x) = (x.kind ≡ Multi) × (x.blocks ≡ []) × (owner_of x.number ≢ me)
    × (migration e ≡ true)
FitsRoute e s me (Clearing x) = (can_go x.kind ≡ true) × (x.blocks ≡ [])
    × (owner_of x.number ≡ me) × (migration e ≡ true)
FitsRoute e s me (Pushing (Block name spot) to) = (to ≢ me) × (is_scheduler e to ≡ true)
FitsRoute e s me (Pushing (Carrier number) to) = (to ≡ owner_of number) × (to ≢ me)
FitsRoute e s me (Linking node to) = Unit {0}

-- what is asked for is the operation's, and the name stands nowhere
pub record Asked (e : Setup) (w : State) (a : Actor) (ask : Ask) : Type 0 where
  pub of : OfAsk ask a.todo
  pub old : OldHeld ask.old a.held
  pub fresh : allocated e (only ask.name) w ≡ 0

-- a part of a search has a number left, and not too many; and no more words were counted than may
-- be
abbrev pub HasLeft : Setup → Part → Type 0
HasLeft e (Own left) = (0 < left) × (left ≤ LIST_LIMIT)
HasLeft e (Traitors left) = (0 < left) × (left ≤ LIST_LIMIT)
HasLeft e (Pool left looked) = (0 < left) × (left ≤ greatest_number e) × (looked ≤ SEARCH_LIMIT)

-- where a scheduler may be in its operation
abbrev pub Fits : Setup → State → ℕ → Actor → Stage Content → Type 0
Fits e w me a Begin = Unit {0}
Fits e w me a (Routed route why gone) = FitsRoute e w.shared me route × OfWhy why a.todo
Fits e w me a (Collecting number) = owner_of number ≡ me
Fits e w me a (Searching ask at part) = Asked e w a ask × HasLeft e part
    × (goes_on part ≡ true) × (chosen_spot a.instance ask.need ≡ None) × (migration e ≡ true)
    × LooksAt e a.lists at part
Fits e w me a (Fetching ask at part seen) = Asked e w a ask × HasLeft e part
    × (chosen_spot a.instance ask.need ≡ None) × (migration e ≡ true)
    × ((i largest : ℕ) × (seen ≡ word.Pooled i largest) × (ask.need ≤ largest))
    × LooksAt e a.lists at part
Fits e w me a (Creating ask p) = Asked e w a ask × (plan a.instance ask.need ≡ Ok p)
    × (migration e ≡ true) × ((p.single ≡ true) ⊎ (chosen_spot a.instance ask.need ≡ None))
Fits e w me a (Giving given to) = (named_at given.name a.held ≡ Some given)
    × ((ops : List Op) × (a.todo ≡ op.Give given.name to ∷ ops))
Fits e w me a (Taking name tries left) =
    (left ≤ tries) × ((ops : List Op) × (a.todo ≡ op.Take name tries ∷ ops))
Fits e w me a Ended = a.todo ≡ []
Fits e w me a Ready = ⊥

-- the next node of a walk is the first of its rest; a scheduler is where its operation allows, what
-- it employs may stay, and its log is that of the operations done; a name that is still to be made
-- stands nowhere; held and given names stand by rising name; where carriers don't migrate, each
-- instance employs what it owns; each employs its main carrier; and each operation that takes a
-- name has a try
pub record Present (e : Setup) (w : State) : Type 0 where
  pub walking : (i : ℕ) → (w.actors i).next ≡ first_node (w.shared.rests i)
  pub fits : (i : ℕ) → Fits e w i (w.actors i) (w.actors i).stage
  pub contents : (i : ℕ) → All (MayStay i) (w.actors i).instance.contents
  pub singles : (i : ℕ) → All (MayStay i) (w.actors i).instance.singles
  pub history : (i : ℕ) → LogsEach e w i
  pub later : (n : ℕ) → allocated e (only n) w + to_make e n w ≤ 1
  pub held : (i : ℕ) → AllPairs (IsBelow name_of) (w.actors i).held
  pub given : AllPairs (IsBelow name_of) w.shared.given
  pub nobody : (i : ℕ) → is_scheduler e i ≡ false → HasNothing i w
  pub stands : migration e ≡ false → (i : ℕ) → is_scheduler e i ≡ true
      → Stands (w.actors i).instance
  pub main : (i : ℕ) → is_scheduler e i ≡ true → EmploysMain e i (w.actors i).instance
  pub tries : (i : ℕ) → All HasTry (e.texts i)

-- the whole rule
pub record Rule (e : Setup) (w : State) : Type 0 where
  pub kept : Kept e w
  pub present : Present e w
