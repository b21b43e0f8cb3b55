-- A carrier that is laid out stays so where its blocks change, and one that is planned is.
use Rattle.std.proofs.Common.{◌≡◌, ℕ, ◌%◌, ◌≤◌, List, [], ◌∷◌, refl, arith}
use Rattle.std.specs.Prelude.{Ok, not, ◌==◌}
use Rattle.std.proofs.lemmas.Bool.{cond_both}
use Rattle.ea_model.specs.declared.carriers.BlockAt.{BlockAt}
use Rattle.ea_model.specs.declared.carriers.CarrierPlan.{CarrierPlan}
use Rattle.ea_model.specs.Content.{Content, gap_at, gaps_of, placed, released, taken_of}
use Rattle.ea_model.specs.Instance.{Instance, created_single, plan}
use Rattle.ea_model.specs.Keyed.{without}
use Rattle.ea_laws.specs.Kept.{HasOneBlock, IsKept, IsLaidOut, IsLaidOutAlone}
use Rattle.ea_laws.proofs.BlockLists.{gap_at-whole, offset_of, taken_of-enters, Tiled-inserted}
use Rattle.ea_laws.proofs.BlockLists.{Tiled-released}
use Rattle.ea_laws.proofs.Keeping.{IsLaidOut-made, plan-IsPlanned}

-- a block is placed in a gap that is large enough
pub placed-IsLaidOut : (c : Content) (offset need name : ℕ) → IsLaidOut c
    → need ≤ gap_at (gaps_of c) offset → 6 ≤ need → need % 2 ≡ 0
    → IsLaidOut (placed c offset need name)
placed-IsLaidOut c offset need name s fits least even =
    let g = gap_at (gaps_of c) offset in
    let x : BlockAt = record { name = name; offset = offset; size = taken_of g need } in
    record {
      whole = s.whole;
      shared = s.shared;
      tiled = Tiled-inserted 8 c.units x c.blocks s.tiled
          (taken_of-enters x g need fits least even (gap_at-whole 8 c.units offset c.blocks s.tiled)
          refl);
      low = s.low;
    }

-- a block is released
pub released-IsLaidOut : (c : Content) (offset : ℕ) → IsLaidOut c → IsLaidOut (released c offset)
released-IsLaidOut c offset s =
    record {
      whole = s.whole;
      shared = s.shared;
      tiled = Tiled-released 8 c.units offset c.blocks s.tiled;
      low = s.low;
    }

-- a block alone that is released
one_less : (units offset : ℕ) (bs : List BlockAt) → HasOneBlock units bs
    → HasOneBlock units (without offset_of offset bs)
one_less units offset [] h = h
one_less units offset (b ∷ []) h =
    cond_both (not (b.offset == offset)) (b ∷ []) [] (HasOneBlock units) (λ _. h) (λ _. tt)
one_less units offset (b ∷ c ∷ bs) h = absurd h

pub released-IsLaidOutAlone : (c : Content) (offset : ℕ) → IsLaidOutAlone c
    → IsLaidOutAlone (released c offset)
released-IsLaidOutAlone c offset laid = record {
  whole = laid.whole;
  single = laid.single;
  block = one_less c.units offset c.blocks laid.block;
  low = laid.low;
}

-- a planned singleblock carrier with its block
pub created_single-IsLaidOutAlone : (i : Instance) (need name : ℕ) (p : CarrierPlan)
    → IsKept i.settings i.number i.first i.end i.own → plan i need ≡ Ok p → 6 ≤ need
    → need % 2 ≡ 0 → IsLaidOutAlone (created_single i.number p need name)
created_single-IsLaidOutAlone i need name p kept asked least even =
    let made = IsLaidOut-made i need p kept asked in
    record {
      whole = made.whole;
      single = refl;
      block = (refl, least, even, omega (arith, (plan-IsPlanned i need p asked).enough));
      low = made.low;
    }
