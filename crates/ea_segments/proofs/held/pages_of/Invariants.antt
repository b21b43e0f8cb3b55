use Rattle.std.proofs.Common.{◌≡◌, ◌+◌, ◌≤◌, ℕ, drop}
use Rattle.std.specs.Prelude.{sum_by}
use Rattle.ea_model.specs.Region.{Laid}
use Rattle.ea_segments.specs.declared.held.Held.{Held}
use Rattle.ea_segments.specs.Histories.{segments}
use Rattle.ea_segments.proofs.held.pages_of.Given as goal

abbrev pub invariant-loop-segment : goal.invariant-loop-segment
invariant-loop-segment l = record {
  laid : (at : ℕ) × (l.pages ≤ at) × Laid at l.end (segments (drop l.segment-index l.held));
  rest : l.pages + sum_by (λ (h : Held). h.pages) (drop l.segment-index l.held)
      ≡ sum_by (λ (h : Held). h.pages) l.held;
}
