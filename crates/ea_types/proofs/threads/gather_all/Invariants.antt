use Rattle.std.proofs.Common.{◌≡◌, ℕ, ◌<◌, ◌≤◌, ◌++◌, length, get_or}
use Rattle.ea_model.specs.declared.outcome.Outcome.{Outcome}
use Rattle.ea_model.specs.declared.trace.Trace.{Trace}
use Rattle.ea_table.specs.Threads.{IsOfRun}
use Rattle.ea_types.proofs.threads.gather_all.Given as goal

abbrev pub invariant-loop-board : goal.invariant-loop-board
invariant-loop-board l = record {
  all : l.yielded ++ l.board-iterator.rest.items ≡ l.fn.boards.items;
  place : length l.yielded ≡ l.place;
  count : length l.finished.items ≡ length l.fn.finished.items;
  later : (k : ℕ) (d : _) → l.place ≤ k
      → get_or l.finished.items k d ≡ get_or l.fn.finished.items k d;
  many : length l.outcomes.items ≡ l.place;
  printed : (k : ℕ) (t : Trace) (o : Outcome) → k < l.place
      → IsOfRun l.fn.config (get_or l.fn.traces k t) (get_or l.outcomes.items k o);
}
