use Rattle.std.proofs.Common.{◌≡◌, ℕ, ◌+◌, ◌-◌, get_or, length}
use Rattle.ea_super.proofs.takers.Takers.note.Given as goal

abbrev pub invariant-loop-self : goal.invariant-loop-self
invariant-loop-self l =
    (k : ℕ) → get_or l.self.sections.items k 0 ≡ get_or l.initial.self.sections.items k 0

abbrev pub decreases-loop-self : goal.decreases-loop-self
decreases-loop-self l = l.place + 1 - length l.self.sections.items
