-- The bins have places for all gaps.
use Rattle.std.proofs.Common.{ℕ, ◌+◌, ◌-◌, ◌*◌, ◌≤◌, List, [], ◌∷◌, length}
use Rattle.std.proofs.Common.{All, ap, sym, inl, inr, arith}
use Rattle.std.specs.Prelude.{Option, None, Some, is_some, sum_by}
use Rattle.std.proofs.lemmas.Bool.{cases_lt}
use Rattle.std.proofs.lemmas.List.{length-append, length-map}
use Rattle.std.proofs.lemmas.List.Elements.{All-head, All-tail}
use Rattle.std.proofs.lemmas.List.Sorted.{length_permutation}
use Rattle.std.proofs.lemmas.List.Sums.{sum_by-cons}
use Rattle.ea_model.specs.declared.carriers.BlockAt.{BlockAt}
use Rattle.ea_model.specs.declared.settings.Strategy.{Strategy}
use Rattle.ea_model.specs.Content.{Content, gap, gaps, gaps_of, IsGapSize, Tiled}
use Rattle.ea_cset.specs.Carriers.{Carriers}
use Rattle.ea_goodfit.specs.Gaps.{HeldGaps}
use Rattle.ea_laws.specs.Kept.{IsLaidOut}
use Rattle.ea_laws.proofs.Chosen.{gap_none, gap_some}
use Rattle.ea_employed.specs.Binned.{HaveRoom}
use Rattle.ea_employed.specs.Listed.{all_gaps, IsListed}
use Rattle.ea_employed.proofs.Gaps.{at_base, own_gaps, own_and_more, own_shared}

-- a gap has 6 units at least
gap-count : (a b : ℕ) → a ≤ b → IsGapSize (b - a) → 6 * length (gap a b) ≤ b - a
gap-count a b le size =
    elim (cases_lt a b) [
      | inl lt ↦ omega (arith, ap length (gap_some a b lt), size.whole (omega arith))
      | inr ge ↦ omega (arith, ap length (gap_none a b ge))
    ]

gap-one : (a b : ℕ) → length (gap a b) ≤ 1
gap-one a b =
    elim (cases_lt a b) [
      | inl lt ↦ omega (arith, ap length (gap_some a b lt))
      | inr ge ↦ omega (arith, ap length (gap_none a b ge))
    ]

-- and so has each block between two of them
gaps-count : (at end : ℕ) (bs : List BlockAt) → Tiled at end bs
    → 12 * length (gaps at end bs) + at ≤ end + 6
gaps-count at end [] t = omega (arith, t.0, gap-count at end t.0 t.1, gap-one at end)
gaps-count at end (b ∷ bs) t =
    omega (
      arith,
      length-append (gap at b.offset) (gaps (b.offset + b.size) end bs),
      gap-count at b.offset t.0 t.1,
      gap-one at b.offset,
      t.0,
      t.2,
      gaps-count (b.offset + b.size) end bs t.4,
    )

-- so carriers have one gap at most for each 12 of their units
pub gaps-few : (cs : List Content) → All IsLaidOut cs
    → 12 * length (all_gaps cs) ≤ sum_by (λ c. c.units) cs
gaps-few [] sound = omega arith
gaps-few (c ∷ cs) sound =
    let here = All-head IsLaidOut c cs sound in
    omega (
      arith,
      ap length (own_and_more c cs),
      length-append (own_gaps c) (all_gaps cs),
      ap length (own_shared c here.shared),
      length-map (gaps_of c) (at_base c.base),
      gaps-count 8 c.units c.blocks here.tiled,
      sum_by-cons (λ (x : Content). x.units) c cs,
      gaps-few cs (All-tail IsLaidOut c cs sound),
    )

-- and the bins, where there are any, have room for one more
pub has-room : (s : Strategy) (units : ℕ) (cs : List Content) (set : Carriers)
    (bins : Option HeldGaps) → IsListed s units cs set bins → All IsLaidOut cs → HaveRoom bins
has-room s units cs set None l sound = tt
has-room s units cs set (Some b) l sound =
    omega (
      arith,
      l.places,
      l.few (ap is_some (sym l.fit)),
      gaps-few cs sound,
      length_permutation b.held (all_gaps cs) l.gaps,
    )
