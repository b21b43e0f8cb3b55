-- What every moment of every run keeps. Each balance holds for every weight, so it says that two
-- collections are the same: under a weight that counts one thing it counts that thing. Words of
-- proofs: no clause of `run` names them (docs/proof.md).
use Rattle.std.specs.Prelude.{◌≡◌, ◌≢◌, ℕ, ◌+◌, ◌*◌, ◌/◌, ◌≤◌, Bool, true, false, [], All}
use Rattle.ea_model.specs.declared.carriers.Kind.TheVariants.{Multi}
use Rattle.ea_model.specs.declared.carriers.OwnCarrier.{OwnCarrier}
use Rattle.ea_model.specs.declared.carriers.Spot.{Spot}
use Rattle.ea_model.specs.declared.units.TheConstants.{PAGE_UNITS}
use Rattle.ea_model.specs.Content.{Content, gaps_of, largest}
use Rattle.ea_model.specs.Instance.{Instance, owner_of}
use Rattle.ea_laws.specs.Kept.{IsLaidOut, IsOrderly}
use Rattle.ea_machine.specs.declared.nodes.Node.{Node}
use Rattle.ea_machine.specs.declared.stages.Stage.TheVariants.{Ended}
use Rattle.ea_machine.specs.Actor.{Actor}
use Rattle.ea_machine.specs.Owners.{CarrierAt, Absent, Employed, Pooled, Busy, Returning}
use Rattle.ea_machine.specs.Setup.{Setup, first_page, is_scheduler, migration}
use Rattle.ea_machine.specs.State.{State}
use Rattle.ea_machine.specs.Sums.{sum_over, total, total_at}
use Rattle.ea_sound.specs.Contents.{AtHome, InHand, actor_sum, seats, slots, sum_everywhere}
use Rattle.ea_sound.specs.Names.{allocated, of_content, of_hand, of_mark, of_named, of_node, only}
use Rattle.ea_sound.specs.NodePlaces.{of_carrier_actor, of_carrier_mark, of_link, of_unlinked}
use Rattle.ea_sound.specs.Places.{IsMultiOrOwn}
use Rattle.ea_sound.specs.Ranges.{IsLaidOutAsKind}
use Rattle.ea_model.specs.Settings.{most_count}

-- the names that stand with a scheduler: held, passed by its walk, or in its hand
abbrev pub names_of : (ℕ → Spot → ℕ) → Actor → ℕ
names_of f a = sum_over (of_named f) a.held + sum_over (of_node f) a.passed + of_hand f a.stage

-- the names of the blocks at a scheduler
abbrev pub blocks_of : (ℕ → Spot → ℕ) → Actor → ℕ
blocks_of f a = actor_sum (of_content f) (of_content f) a

-- all names that stand
abbrev pub all_names : Setup → (ℕ → Spot → ℕ) → State → ℕ
all_names e f w =
    total (seats e) (names_of f) w.actors + total (seats e) (sum_over (of_mark f)) w.shared.queues
    + total (seats e) (sum_over (of_mark f)) w.shared.rests + sum_over (of_named f) w.shared.given

-- the names that stand are those of the blocks, each at its spot, and no name has two blocks
pub record Names (e : Setup) (w : State) : Type 0 where
  pub balance : (f : ℕ → Spot → ℕ) → all_names e f w ≡ allocated e f w
  pub once : (n : ℕ) → allocated e (only n) w ≤ 1

-- each node that isn't linked stands where one scheduler is about to link it
pub record Unlinked (e : Setup) (w : State) : Type 0 where
  pub balance : (u : ℕ → Node → ℕ)
      → total_at (seats e) (λ i. sum_over (of_unlinked u i)) w.shared.queues
      + total_at (seats e) (λ i. sum_over (of_unlinked u i)) w.shared.rests
      ≡ total (seats e) (λ (a : Actor). of_link u a.stage) w.actors

-- a carrier that returns, with its owner
abbrev pub returning_at : (ℕ → ℕ → ℕ) → ℕ → CarrierAt → ℕ
returning_at g number Absent = 0
returning_at g number (Employed i) = 0
returning_at g number (Pooled i largest x) = 0
returning_at g number (Busy i) = 0
returning_at g number (Returning i x) = g i number

-- the nodes of carriers are those of the Returning ones, at their owner or on the way to it
pub record Returns (e : Setup) (w : State) : Type 0 where
  pub balance : (g : ℕ → ℕ → ℕ) → total_at (seats e) (of_carrier_actor g) w.actors
      + total_at (seats e) (λ i. sum_over (of_carrier_mark g i)) w.shared.queues
      + total_at (seats e) (λ i. sum_over (of_carrier_mark g i)) w.shared.rests
      ≡ total_at (slots e) (returning_at g) w.shared.places
  pub to_owner : (c i : ℕ) (x : Content) → w.shared.places c ≡ Returning i x
      → (i ≡ owner_of c) × (x.blocks ≡ [])

-- the contents at a scheduler by their numbers, a busy one and those that are employed
abbrev pub numbers_of : (b k : ℕ → ℕ → ℕ) → ℕ → Actor → ℕ
numbers_of b k i a = actor_sum (λ x. b i x.number) (λ x. k i x.number) a

-- the carriers that are busy or employed by their words
abbrev pub employed_at : (b k : ℕ → ℕ → ℕ) → ℕ → CarrierAt → ℕ
employed_at b k number Absent = 0
employed_at b k number (Employed i) = k i number
employed_at b k number (Pooled i largest x) = 0
employed_at b k number (Busy i) = b i number
employed_at b k number (Returning i x) = 0

-- the numbers of an instance's own carriers
abbrev pub own_numbers : (ℕ → ℕ → ℕ) → ℕ → Actor → ℕ
own_numbers k i a = sum_over (λ (o : OwnCarrier). k i o.number) a.instance.own

-- where contents are to be: by the words, or with migration off with the owners
abbrev pub placed_by : Setup → (b k : ℕ → ℕ → ℕ) → State → Bool → ℕ
placed_by e b k w true = total_at (slots e) (employed_at b k) w.shared.places
placed_by e b k w false = total_at (seats e) (own_numbers k) w.actors

-- a content by its owner, its number and where it lies; an own carrier likewise
abbrev pub of_owner : (ℕ → ℕ → ℕ → ℕ → ℕ) → Content → ℕ
of_owner m x = m x.owner x.number x.base x.units

abbrev pub of_own : (ℕ → ℕ → ℕ → ℕ → ℕ) → ℕ → Actor → ℕ
of_own m i a =
    sum_over (λ (o : OwnCarrier). m i o.number o.base (PAGE_UNITS * o.pages)) a.instance.own

-- each content is where its carrier's word says, and the own carriers of the instances are those of
-- all contents
pub record Placed (e : Setup) (w : State) : Type 0 where
  pub contents : (b k : ℕ → ℕ → ℕ) → total_at (seats e) (numbers_of b k) w.actors
      ≡ placed_by e b k w (migration e)
  pub own : (m : ℕ → ℕ → ℕ → ℕ → ℕ) → sum_everywhere e (of_owner m) w
      ≡ total_at (seats e) (of_own m) w.actors
  pub pooled : (c i g : ℕ) (x : Content) → w.shared.places c ≡ Pooled i g x
      → (x.number ≡ c) × (x.kind ≡ Multi) × (x.blocks ≢ []) × (g ≡ largest (gaps_of x))
      × (is_scheduler e i ≡ true)
  pub returning : (c i : ℕ) (x : Content) → w.shared.places c ≡ Returning i x
      → (x.number ≡ c) × (x.kind ≡ Multi)
  pub off : migration e ≡ false → (c : ℕ) → w.shared.places c ≡ Absent
  pub beyond : (c : ℕ) → slots e ≤ c → w.shared.places c ≡ Absent

-- an instance has the settings of the run, its number and its region, and a count that they let it
-- have, and it employs carriers
pub record Standing (e : Setup) (i : ℕ) (j : Instance) : Type 0 where
  pub settings : j.settings ≡ e.settings
  pub number : j.number ≡ i
  pub first : j.first ≡ first_page e i
  pub end : j.end ≡ first_page e i + e.pages
  pub count : j.count ≤ most_count e.settings
  pub order : IsOrderly j

-- who is no scheduler has no carrier, and does nothing
pub record HasNoCarrier (a : Actor) : Type 0 where
  pub own : a.instance.own ≡ []
  pub contents : a.instance.contents ≡ []
  pub singles : a.instance.singles ≡ []
  pub stage : a.stage ≡ Ended

-- a content at an instance: its pages are in the region of its owner, whose number it has, and only
-- a multiblock carrier is away from its owner
pub record Belongs (e : Setup) (i : ℕ) (x : Content) : Type 0 where
  pub owner : x.owner ≡ owner_of x.number
  pub low : first_page e x.owner ≤ x.base
  pub high : x.base + x.units / PAGE_UNITS ≤ first_page e x.owner + e.pages
  pub stays : IsMultiOrOwn i x

-- where contents lie, and what is in them
pub record Ranges (e : Setup) (w : State) : Type 0 where
  pub instances : (i : ℕ) → is_scheduler e i ≡ true → Standing e i (w.actors i).instance
  pub nobody : (i : ℕ) → is_scheduler e i ≡ false → HasNoCarrier (w.actors i)
  pub contents : (i : ℕ) → All (Belongs e i) (w.actors i).instance.contents
  pub singles : (i : ℕ) → All (Belongs e i) (w.actors i).instance.singles
  pub in_hand : (i : ℕ) → InHand (Belongs e i) (Belongs e i) (w.actors i).stage
  pub hand_laid : (i : ℕ) → InHand IsLaidOut IsLaidOutAsKind (w.actors i).stage
  pub home : (c : ℕ) → AtHome (λ x. Belongs e x.owner x) (w.shared.places c)
  pub home_laid : (c : ℕ) → AtHome IsLaidOut (w.shared.places c)

-- what a step keeps whatever its scheduler is in the middle of
pub record Kept (e : Setup) (w : State) : Type 0 where
  pub ranges : Ranges e w
  pub names : Names e w
  pub unlinked : Unlinked e w
  pub placed : Placed e w
  pub returns : Returns e w
