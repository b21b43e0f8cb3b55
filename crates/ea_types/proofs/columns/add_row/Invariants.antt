use Rattle.std.proofs.Common.{◌≡◌, ℕ, ◌<◌, ◌≤◌, [], ◌∷◌, ◌++◌, length, get_or}
use Rattle.ea_types.proofs.columns.add_row.Given as goal

abbrev pub invariant-loop-item : goal.invariant-loop-item
invariant-loop-item g l = record {
  able : (goal.iterator-loop-item g).can_next l.item-iterator;
  ends : (goal.iterator-loop-item g).is_finite l.item-iterator;
  all : l.yielded ++ l.item-iterator.rest.items ≡ l.fn.row.items;
  many : length l.columns ≡ length l.fn.columns;
  place : length l.yielded ≡ l.place;
  done : (k : ℕ) (d : _) (x : _) → k < l.place → (get_or l.columns k d).items
      ≡ (get_or l.fn.columns k d).items ++ get_or l.fn.row.items k x ∷ [];
  later : (k : ℕ) (d : _) → l.place ≤ k → get_or l.columns k d ≡ get_or l.fn.columns k d;
}
