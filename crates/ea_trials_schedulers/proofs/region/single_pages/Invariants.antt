use Rattle.std.proofs.Common.{◌≡◌, ◌≤◌, All, length}
use Rattle.ea_segments.specs.Requests.{IsRequest}
use Rattle.ea_trials_schedulers.proofs.region.single_pages.Given as goal

abbrev pub invariant-loop-name : goal.invariant-loop-name
invariant-loop-name l = (l.name ≤ l.many) × (length l.section.items ≡ l.name)
    × All IsRequest l.section.items
