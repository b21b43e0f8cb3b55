use Rattle.std.proofs.Common.{◌≡◌, ◌≤◌, ◌*◌, All, length, sum_by}
use Rattle.ea_segments.specs.Requests.{IsRequest}
use Rattle.ea_trials_schedulers.proofs.region.sections_of.Given as goal

abbrev pub invariant-loop-before : goal.invariant-loop-before
invariant-loop-before l = (l.before ≤ l.many) × (length l.sections.items ≡ l.before)
    × (sum_by (λ s. length s.items) l.sections.items ≡ l.before * (2 * l.rounds))
    × All (λ s. All IsRequest s.items) l.sections.items
