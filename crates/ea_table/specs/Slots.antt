-- The slots of the table: one for each carrier number, with the content that is at home there. A
-- content is put into a slot, and taken out of it, by a seat that has claimed the slot. A `Move` is
-- what a row does with slots.
use Rattle.std.specs.Prelude.{◌≡◌, ◌≢◌, ◌⊎◌, ℕ, ◌-◌, ◌*◌, ◌≤◌, Bool, true, false, List}
use Rattle.std.specs.Prelude.{Option, None, Some, length}
use mathlib.Core.Option.{some}
use mathlib.Core.Option as maybe
use lib.ListN.{get_elem?}
use Rattle.atomic_table.specs.Table.{Act, gives, keeps, takes}
use Rattle.ea_model.specs.declared.units.TheConstants.{NUMBERS}
use Rattle.ea_model.specs.Content.{Content, is_nil}
use Rattle.ea_model.specs.Instance.{owner_of}
use Rattle.ea_machine.specs.Owners.{CarrierAt, Absent, Employed, Pooled, Busy, Returning}
use Rattle.ea_machine.specs.Rows.{Abandon, Answer, BusyTry, Clear, FetchTry, Home, Row, SendHome}
use Rattle.ea_machine.specs.Rows.{Settle, Won}
use Rattle.ea_machine.specs.Shared.{Shared}

-- what is in a slot
abbrev pub Slot : Type 0
Slot = Option Content

-- where the slot of a carrier is among all
abbrev pub slot_at : ℕ → ℕ
slot_at number = number - 1

-- the scheduler has the carrier, or the number is its own and no carrier has it: nobody else puts a
-- content into the slot, or takes one out
abbrev pub Has : ℕ → ℕ → CarrierAt → Type 0
Has i number Absent = owner_of number ≡ i
Has i number (Employed j) = j ≡ i
Has i number (Pooled j largest x) = ⊥
Has i number (Busy j) = j ≡ i
Has i number (Returning j x) = ⊥

module _ (homes : List (maybe.Option Slot)) where
  -- the slot of the carrier is at home, with this in it
  abbrev pub IsHome : ℕ → Slot → Type 0
  IsHome number x = get_elem? homes (slot_at number) ≡ some (some x)

  -- it is at home and empty, or the scheduler has claimed it
  abbrev pub IsEmpty : (ℕ → ℕ) → ℕ → ℕ → Type 0
  IsEmpty claim_of i number = IsHome number None ⊎ (claim_of i ≡ number)

  -- by where the carrier is: the slot has its content, if that is at home, and is empty else
  abbrev pub IsSlot : (ℕ → ℕ) → ℕ → CarrierAt → Type 0
  IsSlot claim_of number Absent = IsEmpty claim_of (owner_of number) number
  IsSlot claim_of number (Employed i) = IsEmpty claim_of i number
  IsSlot claim_of number (Pooled i largest x) = IsHome number (Some x)
  IsSlot claim_of number (Busy i) = IsEmpty claim_of i number
  IsSlot claim_of number (Returning i x) = IsHome number (Some x)

  -- the slots have the contents that are at home. Each scheduler has claimed the slot of one
  -- carrier that it has, or none, which is 0
  pub record Houses (n : ℕ) (claim_of : ℕ → ℕ) (s : Shared) : Type 0 where
    pub count : length homes ≡ NUMBERS * n
    pub each : (number : ℕ) → 1 ≤ number → number ≤ NUMBERS * n
        → IsSlot claim_of number (s.places number)
    pub claims : (i : ℕ) → claim_of i ≢ 0
        → (claim_of i ≤ NUMBERS * n) × Has i (claim_of i) (s.places (claim_of i))

-- what a row does with slots
pub data Move : Type 0 where
  -- the seat has those that it had
  Stays : Move
  -- it claims that of a carrier, and has the content in it
  Claims : (number : ℕ) (content : Content) → Move
  -- it gives back the one that it claimed
  Yields : Move

-- by whether a busy carrier that is settled has no blocks: then its employer has the content
abbrev pub settled_move : Bool → Move
settled_move true = Stays
settled_move false = Yields

abbrev pub move_of : Row → Answer → Move
move_of (BusyTry number seen) (Won x) = Claims number x
move_of (FetchTry number seen) (Won x) = Claims number x
move_of (Clear number) (Home (Some x)) = Claims number x
move_of (Settle x) got = settled_move (is_nil x.blocks)
move_of (Abandon x) got = Yields
move_of (SendHome x) got = Yields
move_of row got = Stays

-- the act of a step of the table
abbrev pub act_of : Move → Act Slot
act_of Stays = keeps
act_of (Claims number x) = takes (slot_at number) (Some x)
act_of Yields = gives

-- the carrier whose slot the scheduler has claimed then, by the one before
abbrev pub claim_by : Move → ℕ → ℕ
claim_by Stays was = was
claim_by (Claims number x) was = number
claim_by Yields was = 0
