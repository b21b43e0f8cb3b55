-- Where carriers are. `PlacesCarriers` is this part of a sound state; `RecordsGaps` says that the
-- largest gap of a pooled carrier is recorded.
-- Source: Erlang/OTP, 'Carrier Migration', section 'Migration': the employer of a pooled carrier
-- does its deallocations, and the owner alone deallocates a carrier.
use Rattle.std.specs.Prelude.{◌≡◌, ◌≢◌, ◌⊎◌, ℕ, ◌<◌, ◌≤◌, Bool, true, false, ◌&&◌, ◌==◌, [], Some}
use Rattle.std.specs.Prelude.{All}
use Rattle.ea_model.specs.declared.carriers.Kind.TheVariants.{Main, Multi}
use Rattle.ea_model.specs.declared.carriers.OwnCarrier.{OwnCarrier}
use Rattle.ea_model.specs.Content.{Content, gaps_of, is_vacant, largest}
use Rattle.ea_model.specs.Instance.{Instance, content_of, first_number, own_of, owner_of}
use Rattle.ea_model.specs.Trace.{IsScheduler}
use Rattle.ea_laws.specs.Kept.{IsRising}
use Rattle.ea_machine.specs.Owners.{CarrierAt, Absent, Employed, Pooled, Busy, Returning}
use Rattle.ea_machine.specs.Setup.{Setup, greatest_number, migration}
use Rattle.ea_machine.specs.State.{State}
use Rattle.ea_machine.specs.Outcome.{place_of}
use Rattle.ea_machine.specs.Sums.{one_if, sum_over}
use Rattle.ea_sound.specs.Contents.{AtHome, InHand, actor_sum, sum_everywhere}

-- one of the carrier numbers
abbrev pub IsNumber : Setup → ℕ → Type 0
IsNumber setup number = (1 ≤ number) × (number ≤ greatest_number setup)

-- 1 for a content with the number
abbrev pub has_number : ℕ → Content → ℕ
has_number number x = one_if (x.number == number)

-- 0 for any content
abbrev pub none : Content → ℕ
none x = 0

-- how many contents with the number an instance employs, one in its hand that is about to leave it
-- among them
abbrev pub employed_count : ℕ → State → ℕ → ℕ
employed_count number state i = actor_sum none (has_number number) (state.actors i)

-- how many it has busy in its hand
abbrev pub busy_count : ℕ → State → ℕ → ℕ
busy_count number state i = actor_sum (has_number number) none (state.actors i)

-- whether a carrier is there
abbrev pub is_there : CarrierAt → Bool
is_there Absent = false
is_there (Employed i) = true
is_there (Pooled i largest x) = true
is_there (Busy i) = true
is_there (Returning i x) = true

-- each carrier is in one place. Its content is with its employer, once; with the scheduler for
-- which it is busy, in its hand; or at home, where it is pooled or returning, by its own number.
-- One that is absent has no content
pub record AreInOnePlace (setup : Setup) (state : State) : Type 0 where
  pub one : (number : ℕ) → sum_everywhere setup (has_number number) state
      ≡ one_if (is_there (place_of setup state number))
  pub employed : (number i : ℕ) → place_of setup state number ≡ Employed i
      → IsScheduler setup.schedulers i × (employed_count number state i ≡ 1)
  pub busy : (number i : ℕ) → place_of setup state number ≡ Busy i
      → IsScheduler setup.schedulers i × (busy_count number state i ≡ 1)
  pub pooled : (number i g : ℕ) (x : Content) → place_of setup state number ≡ Pooled i g x
      → IsScheduler setup.schedulers i × (x.number ≡ number)
  pub returning : (number i : ℕ) (x : Content) → place_of setup state number ≡ Returning i x
      → (i ≡ owner_of number) × (x.number ≡ number)
  pub beyond : (number : ℕ) → (IsNumber setup number → ⊥) → place_of setup state number ≡ Absent
  pub unmoved : migration setup ≡ false → (number : ℕ) → state.shared.places number ≡ Absent

-- a carrier is a multiblock one, or it is with its owner
abbrev pub IsMultiOrOwn : ℕ → Content → Type 0
IsMultiOrOwn i x = (x.kind ≡ Multi) ⊎ (x.owner ≡ i)

-- the carrier stays with the instance: it has a block or is the main one, and if it isn't a
-- multiblock one, the instance owns it
abbrev pub MayStay : ℕ → Content → Type 0
MayStay i x = (is_vacant x ≡ false) × IsMultiOrOwn i x

abbrev pub IsMulti : Content → Type 0
IsMulti x = x.kind ≡ Multi

-- main and singleblock carriers are with their owner alone; one that is busy, pooled or returning
-- is a multiblock carrier. A carrier without blocks, other than the main one, is on its way from
-- its employer, in its hand
pub record StayWithOwners (state : State) : Type 0 where
  pub contents : (i : ℕ) → All (MayStay i) (state.actors i).instance.contents
  pub singles : (i : ℕ) → All (MayStay i) (state.actors i).instance.singles
  pub in_hand : (i : ℕ) → InHand IsMulti (IsMultiOrOwn i) (state.actors i).stage
  pub home : (number : ℕ) → AtHome IsMulti (state.shared.places number)

-- a content, or an own carrier, of that instance, with that number, base and pages
abbrev pub same_own : OwnCarrier → OwnCarrier → Bool
same_own o p = (o.number == p.number) && ((o.base == p.base) && (o.pages == p.pages))

abbrev pub owned_as : ℕ → OwnCarrier → Content → ℕ
owned_as i o x = one_if ((x.owner == i) && same_own (own_of x) o)

-- an instance owns the carriers that it created and that are there, with their base and pages, and
-- no other, wherever their contents are. Own carriers and contents stand by rising number
pub record OwnTheirCarriers (setup : Setup) (state : State) : Type 0 where
  pub exactly : (i : ℕ) (o : OwnCarrier)
      → sum_over (λ p. one_if (same_own p o)) (state.actors i).instance.own
      ≡ sum_everywhere setup (owned_as i o) state
  pub contents : (i : ℕ) → IsRising (state.actors i).instance.contents
  pub singles : (i : ℕ) → IsRising (state.actors i).instance.singles

-- the main carrier of an instance is among the contents that it employs
abbrev pub HasMain : ℕ → Instance → Type 0
HasMain i instance = (x : Content) × (content_of instance.contents (first_number i) ≡ Some x)
    × (x.kind ≡ Main)

-- where the settings ask for a main carrier, it is there, and stays with its owner
abbrev pub KeepsMains : Setup → State → Type 0
KeepsMains setup state = 0 < setup.settings.mmbcs → (i : ℕ) → IsScheduler setup.schedulers i
    → HasMain i (state.actors i).instance

pub record PlacesCarriers (setup : Setup) (state : State) : Type 0 where
  pub one : AreInOnePlace setup state
  pub stay : StayWithOwners state
  pub own : OwnTheirCarriers setup state
  pub main : KeepsMains setup state

-- a pooled carrier has a block, and its recorded largest gap is the largest gap that it has
abbrev pub RecordsGaps : State → Type 0
RecordsGaps state = (number i g : ℕ) (x : Content) → state.shared.places number ≡ Pooled i g x
    → (x.kind ≡ Multi) × (x.blocks ≢ []) × (g ≡ largest (gaps_of x))
