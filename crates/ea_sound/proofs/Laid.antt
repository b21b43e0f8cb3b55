-- The blocks of carriers that are laid out, and their units.
use Rattle.std.proofs.Common.{◌+◌, ◌≡◌, ℕ, List, [], ◌∷◌, inl, inr, arith}
use Rattle.std.specs.Prelude.{AllPairs}
use Rattle.ea_model.specs.declared.carriers.BlockAt.{BlockAt}
use Rattle.ea_model.specs.Content.{allocated, free_units, gaps_of, Content}
use Rattle.ea_model.specs.Keyed.{IsBelow}
use Rattle.ea_model.proofs.Pairs.{pairs_nil}
use Rattle.ea_laws.specs.Kept.{HasOneBlock, IsLaidOut, IsLaidOutAlone, IsWhole}
use Rattle.ea_sound.specs.Ranges.{IsLaidOutAsKind}
use Rattle.ea_laws.proofs.BlockLists.{offset_of, Tiled-rising}
use Rattle.ea_laws.proofs.Tiling.{allocated-free, one-Ordered, Ordered-free}

-- its blocks stand by rising offset
pub laid-rising : (c : Content) → IsLaidOut c → AllPairs (IsBelow offset_of) c.blocks
laid-rising c laid = Tiled-rising 8 c.units c.blocks laid.tiled

one_rising : (units : ℕ) (bs : List BlockAt) → HasOneBlock units bs
    → AllPairs (IsBelow offset_of) bs
one_rising units [] h = pairs_nil (IsBelow offset_of)
one_rising units (b ∷ []) h = λ i j d lt within. absurd (omega (arith, lt, within))
one_rising units (b ∷ c ∷ bs) h = absurd h

pub alone-rising : (c : Content) → IsLaidOutAlone c → AllPairs (IsBelow offset_of) c.blocks
alone-rising c laid = one_rising c.units c.blocks laid.block

-- its header, its blocks and its gaps are all its units
pub laid-units : (c : Content) → IsLaidOut c
    → 8 + allocated c.blocks + free_units (gaps_of c) ≡ c.units
laid-units c laid = allocated-free 8 c.units c.blocks laid.tiled

pub alone-units : (c : Content) → IsLaidOutAlone c
    → 8 + allocated c.blocks + free_units (gaps_of c) ≡ c.units
alone-units c laid = Ordered-free 8 c.units c.blocks
    (one-Ordered c.units c.blocks (omega (arith, laid.whole.1)) laid.block)

pub as_kind-whole : (c : Content) → IsLaidOutAsKind c → IsWhole c
as_kind-whole c laid = elim laid [ inl many ↦ many.whole | inr one ↦ one.whole ]
