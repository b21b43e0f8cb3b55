-- Blocks of carriers that lie apart have no unit in common.
use Rattle.std.proofs.Common.{ℕ, ◌+◌, ◌*◌, ◌≤◌, List, [], ◌∷◌, get_or, inl, inr, arith}
use Rattle.std.specs.Prelude.{All, AllPairs}
use Rattle.std.proofs.lemmas.List.Elements.{All-nil, All-cons, All-head, All-tail, All-append}
use Rattle.std.proofs.lemmas.List.Elements.{All-map, All-weaker}
use Rattle.std.proofs.lemmas.List.Kept.{AllPairs-cons}
use Rattle.ea_model.specs.declared.carriers.BlockAt.{BlockAt}
use Rattle.ea_model.specs.declared.carriers.Extent.{Extent}
use Rattle.ea_model.specs.Content.{Content}
use Rattle.ea_model.proofs.Pairs.{pairs_append, pairs_head, pairs_map, pairs_nil, pairs_tail}
use Rattle.ea_laws.proofs.Tiling.{Ordered, Ordered-allocated}
use Rattle.ea_laws.specs.InOrder.{ExtentsApart, extents, extents_in}
use Rattle.ea_laws.specs.Kept.{ContentsApart}

-- the blocks of a carrier lie one after another, behind its header
abbrev pub IsOrdered : Content → Type 0
IsOrdered c = Ordered 8 c.units c.blocks

-- the block lies between the ends
abbrev pub IsWithin : ℕ → ℕ → BlockAt → Type 0
IsWithin at end b = (at ≤ b.offset) × (b.offset + b.size ≤ end)

pub blocks_within : (at end : ℕ) (bs : List BlockAt) → Ordered at end bs → All (IsWithin at end) bs
blocks_within at end [] t = All-nil (IsWithin at end)
blocks_within at end (b ∷ bs) t =
    All-cons (IsWithin at end) b bs
    (t.0, omega (arith, Ordered-allocated (b.offset + b.size) end bs t.2))
    (All-weaker (IsWithin (b.offset + b.size) end) (IsWithin at end)
    (λ x h. (omega (arith, h.0, t.0), h.1)) bs (blocks_within (b.offset + b.size) end bs t.2))

-- the block a ends where b begins, or before
abbrev IsAhead : BlockAt → BlockAt → Type 0
IsAhead a b = a.offset + a.size ≤ b.offset

blocks_ahead : (at end : ℕ) (bs : List BlockAt) → Ordered at end bs → AllPairs IsAhead bs
blocks_ahead at end [] t = pairs_nil IsAhead
blocks_ahead at end (b ∷ bs) t =
    AllPairs-cons IsAhead b bs
    (All-weaker (IsWithin (b.offset + b.size) end) (IsAhead b) (λ x h. h.0) bs
    (blocks_within (b.offset + b.size) end bs t.2))
    (blocks_ahead (b.offset + b.size) end bs t.2)

abbrev extent_of : Content → BlockAt → Extent
extent_of c b = record { first = 512 * c.base + b.offset; units = b.size }

in_carrier : (c : Content) → IsOrdered c → AllPairs ExtentsApart (extents_in c)
in_carrier c sound = pairs_map ExtentsApart (extent_of c) c.blocks
    (λ i j d lt within. inl
    (omega (arith, blocks_ahead 8 c.units c.blocks sound i j d lt within)))

-- what holds of each block's units
extents_All : (P : Extent → Type 0) (cs : List Content)
    → All (λ c. All (λ b. P (extent_of c b)) c.blocks) cs → All P (extents cs)
extents_All P [] a = All-nil P
extents_All P (c ∷ cs) a =
    let each : Content → Type 0 = λ d. All (λ b. P (extent_of d b)) d.blocks in
    All-append P (extents_in c) (extents cs)
    (All-map P (extent_of c) c.blocks (All-head each c cs a))
    (extents_All P cs (All-tail each c cs a))

across : (c d : Content) (b e : BlockAt) → ContentsApart c d → IsWithin 8 c.units b
    → IsWithin 8 d.units e → ExtentsApart (extent_of c b) (extent_of d e)
across c d b e away h k =
    elim away [ inl p ↦ inl (omega (arith, h.1)) | inr q ↦ inr (omega (arith, k.1)) ]

-- a block of a carrier, and those of a carrier that lies apart
across_All : (c d : Content) (b : BlockAt) → IsWithin 8 c.units b → ContentsApart c d → IsOrdered d
    → All (λ e. ExtentsApart (extent_of c b) (extent_of d e)) d.blocks
across_All c d b h away sound =
    All-weaker (IsWithin 8 d.units) (λ e. ExtentsApart (extent_of c b) (extent_of d e))
    (λ e k. across c d b e away h k) d.blocks (blocks_within 8 d.units d.blocks sound)

pub blocks-disjoint : (cs : List Content) → All IsOrdered cs → AllPairs ContentsApart cs
    → AllPairs ExtentsApart (extents cs)
blocks-disjoint [] sound apart = pairs_nil ExtentsApart
blocks-disjoint (c ∷ cs) sound apart =
    let here = All-head IsOrdered c cs sound in
    let rest = All-tail IsOrdered c cs sound in
    let away = pairs_head ContentsApart c cs apart in
    let others : (b : BlockAt) → IsWithin 8 c.units b
    → All (ExtentsApart (extent_of c b)) (extents cs) =
    λ b h. extents_All (ExtentsApart (extent_of c b)) cs
    (λ i d within. across_All c (get_or cs i d) b h (away i d within) (rest i d within)) in
    pairs_append ExtentsApart (extents_in c) (extents cs) (in_carrier c here)
    (blocks-disjoint cs rest (pairs_tail ContentsApart c cs apart))
    (All-map (λ r. All (ExtentsApart r) (extents cs)) (extent_of c) c.blocks
    (All-weaker (IsWithin 8 c.units) (λ b. All (ExtentsApart (extent_of c b)) (extents cs)) others
    c.blocks (blocks_within 8 c.units c.blocks here)))
