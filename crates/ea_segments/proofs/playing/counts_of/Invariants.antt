use Rattle.std.proofs.Common.{◌≡◌, ◌≤◌, ◌++◌, drop, length, map}
use Rattle.std.specs.Prelude.{sum_by}
use Rattle.ea_model.specs.Lists.{Items}
use Rattle.ea_model.specs.declared.units.TheConstants.{MAX_OPS}
use Rattle.ea_segments.specs.declared.calls.Request.{Request}
use Rattle.ea_segments.proofs.playing.counts_of.Given as goal

abbrev pub invariant-loop-section : goal.invariant-loop-section
invariant-loop-section l = record {
  counts : l.counts.items ++ map (λ (s : Items Request). length s.items)
      (drop l.section-index l.sections)
      ≡ map (λ (s : Items Request). length s.items) l.sections;
  few : sum_by (λ (s : Items Request). length s.items) (drop l.section-index l.sections)
      ≤ MAX_OPS;
}
