-- The entry of a write or a read: what comes of an access.
use Rattle.std.specs.Prelude.{ℕ, Bool, true, false, List, get_or}
use Rattle.ea_machine.specs.Setup.{Setup}
use Rattle.ea_machine.specs.State.{State}
use Rattle.ea_contents.specs.declared.access.Access.{Access}
use Rattle.ea_contents.specs.declared.access.Access.TheVariants.{Read, Write}
use Rattle.ea_contents.specs.declared.access.AccessEntry.{AccessEntry}
use Rattle.ea_contents.specs.declared.access.AccessEntry.TheVariants.{Found, ReadOutside, ReadSkipped}
use Rattle.ea_contents.specs.declared.access.AccessEntry.TheVariants.{WriteOutside, WriteSkipped, Wrote}
use Rattle.ea_contents.specs.Model.{holds, is_within, lists_written}

-- its entry, by whether the name is held and the index is within its words
abbrev pub write_entry : Bool → Bool → ℕ → ℕ → AccessEntry
write_entry true true name index = Wrote name index
write_entry true false name index = WriteOutside name index
write_entry false within name index = WriteSkipped name

abbrev pub read_entry : Bool → Bool → ℕ → ℕ → ℕ → AccessEntry
read_entry true true name index value = Found name index value
read_entry true false name index value = ReadOutside name index
read_entry false within name index value = ReadSkipped name

-- the lists after a write, by the same
abbrev pub lists_if : Bool → Bool → (ℕ → List ℕ) → ℕ → ℕ → ℕ → ℕ → List ℕ
lists_if true true lists name index value = lists_written lists name index value
lists_if true false lists name index value = lists
lists_if false within lists name index value = lists

module _ (setup : Setup) (w : State) (i : ℕ) (lists : ℕ → List ℕ) where
  -- what came of a write or a read of scheduler i in a state
  abbrev pub entry_of : Access → AccessEntry
  entry_of (Write name index value) =
      write_entry (holds w i name) (is_within setup w name index) name index
  entry_of (Read name index) =
      read_entry (holds w i name) (is_within setup w name index) name index
      (get_or (lists name) index 0)

  -- and the lists then
  abbrev pub lists_by : Access → ℕ → List ℕ
  lists_by (Write name index value) =
      lists_if (holds w i name) (is_within setup w name index) lists name index value
  lists_by (Read name index) = lists
