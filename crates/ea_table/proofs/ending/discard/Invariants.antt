use Rattle.std.proofs.Common.{◌≡◌, ℕ, ◌<◌, ◌≤◌, true, false, slice_index_or}
use Rattle.std.specs.Mem.Slots.{slots_filled, slots_len}
use Rattle.ea_table.proofs.ending.discard.Given as goal

abbrev pub invariant-loop-slot : goal.invariant-loop-slot
invariant-loop-slot l = record {
  end : l.slot-end ≡ slots_len l.closed.slots;
  taken : (k : ℕ) → k < l.slot → slice_index_or (slots_filled l.closed.slots) k false ≡ false;
  full : (k : ℕ) → l.slot ≤ k → k < slots_len l.closed.slots
      → slice_index_or (slots_filled l.closed.slots) k false ≡ true;
}
