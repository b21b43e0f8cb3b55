use Rattle.std.proofs.Common.{◌≡◌, ◌≤◌, ◌*◌, All, length}
use Rattle.ea_segments.specs.Requests.{IsRequest}
use Rattle.ea_trials_schedulers.proofs.region.section_of.Given as goal

abbrev pub invariant-loop-round : goal.invariant-loop-round
invariant-loop-round l = (l.round ≤ l.rounds) × (length l.section.items ≡ 2 * l.round)
    × All IsRequest l.section.items
