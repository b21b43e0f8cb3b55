-- What the calls on carriers do: the rows that write an owner word, or try for one, and what they
-- do with the slot of the carrier.
use Rattle.std.specs.Prelude.{◌≡◌, ◌≢◌, ◌⊎◌, ℕ, List, [], ◌∷◌, Some}
use Rattle.atomic_table.specs.Table.{Me}
use Rattle.ea_model.specs.Content.{Content}
use Rattle.ea_model.specs.Settings.{IsValidConfig}
use Rattle.ea_model.specs.Trace.{IsValidTrace}
use Rattle.ea_machine.specs.declared.owners.OwnerWord.{OwnerWord}
use Rattle.ea_machine.specs.declared.owners.OwnerWord.TheVariants as word
use Rattle.ea_machine.specs.Machine.{run, wants}
use Rattle.ea_machine.specs.Owners.{CarrierAt, word_of}
use Rattle.ea_machine.specs.Rows.{Answer, BusyTry, Done, FetchTry, Nothing, Row}
use Rattle.ea_machine.specs.Shared.{Shared, at_place}
use Rattle.ea_machine.specs.Table.{answer, effect}
use Rattle.ea_shared.specs.Carriers.{home_of, told_by}
use Rattle.ea_shared.specs.declared.tried.Tried.{Tried}
use Rattle.ea_table.specs.declared.views.View.{View}
use Rattle.ea_table.specs.Ruling.{IsSingle, Reads, acting, actor_in, older_after, setup_in}
use Rattle.ea_table.specs.Slots.{Claims, Has, Move, Slot, Stays, Yields, move_of, slot_at}

-- what is shared is so in each reached state in which the scheduler stands as its seat knows
abbrev pub Wherever : View → (Shared → Type 0) → Type 0
Wherever v P = (turns : List ℕ)
    → IsValidConfig v.config → IsValidTrace v.config.schedulers v.trace
    → (run (setup_in v) turns).actors (acting v).number ≡ actor_in v
    → P (run (setup_in v) turns).shared

-- the row that the scheduler of the seat wants
abbrev pub row_in : View → Row
row_in v = wants (actor_in v)

-- the seat has claimed the slot of that carrier and no other, and this is in it
pub record HasSlot (carrier : ℕ) (x : Slot) (m : Me Slot View) : Type 0 where
  pub single : IsSingle m.0
  pub claim : (acting m.0).claim ≡ carrier
  pub slots : m.1 ≡ (slot_at carrier, x) ∷ []

-- a step of a seat may do this with the slot of a carrier, which it moves from one place to another
abbrev pub MovesSlot : Me Slot View → ℕ → CarrierAt → CarrierAt → Move → Type 0
MovesSlot m carrier before after Stays =
    Has (acting m.0).number carrier before × Has (acting m.0).number carrier after
MovesSlot m carrier before after (Claims number x) = (number ≡ carrier) × (home_of before ≡ Some x)
    × Has (acting m.0).number carrier after × ((acting m.0).claim ≡ 0)
MovesSlot m carrier before after Yields =
    (x : Content) × (home_of after ≡ Some x) × HasSlot carrier (Some x) m

-- the row writes the owner word of the carrier, whatever that was: then the carrier is at that
-- place, and the link word that the scheduler keeps is as it was
pub record Writes (me : ℕ) (row : Row) (carrier : ℕ) (place : CarrierAt) : Type 0 where
  pub goes : row ≢ Nothing
  pub blind : (s : Shared) (found : ℕ) → Reads me row s found
  pub older : (found was : ℕ) → older_after row found was ≡ was
  pub places : (s : Shared) → effect me row s ≡ at_place carrier place s

-- the scheduler wants a row that stores the word, and the seat has the slot of the carrier, or the
-- slot the content, as the row asks
pub record Stores (carrier : ℕ) (word : OwnerWord) (m : Me Slot View) : Type 0 where
  pub single : IsSingle m.0
  pub place : CarrierAt
  pub is : word_of place ≡ word
  pub writes : Writes (acting m.0).number (row_in m.0) carrier place
  pub slot : Wherever m.0 (λ s. MovesSlot m carrier (s.places carrier) place
      (move_of (row_in m.0) (answer (acting m.0).number (row_in m.0) s)))

-- the scheduler has the carrier, and wants a row that puts the content of it home, with the word
pub record Brings (carrier : ℕ) (x : Content) (word : OwnerWord) (v : View) : Type 0 where
  pub place : CarrierAt
  pub is : word_of place ≡ word
  pub home : home_of place ≡ Some x
  pub writes : Writes (acting v).number (row_in v) carrier place
  pub answers : (s : Shared) → answer (acting v).number (row_in v) s ≡ Done
  pub yields : (got : Answer) → move_of (row_in v) got ≡ Yields
  pub has : Wherever v (λ s. Has (acting v).number carrier (s.places carrier))

-- the row is a try for the carrier at the word seen, which stores the other word where it is won
abbrev pub IsTry : ℕ → Row → ℕ → OwnerWord → OwnerWord → Type 0
IsTry me row carrier seen to = ((row ≡ BusyTry carrier seen) × (to ≡ word.Busy me))
    ⊎ ((row ≡ FetchTry carrier seen) × (to ≡ word.Employed me))

-- what a try tells
abbrev pub told : Tried Content → Answer
told r = told_by (λ x. x) r
