-- Blocks that lie one after another.
use Rattle.std.proofs.Common.{◌≡◌, ℕ, ◌+◌, ◌-◌, ◌*◌, ◌<◌, ◌≤◌, List, [], ◌∷◌, ◌++◌, length, arith}
use Rattle.std.proofs.lemmas.List.Sums.{sum_by-cons, sum_by-append}
use Rattle.ea_model.specs.declared.carriers.BlockAt.{BlockAt}
use Rattle.ea_model.specs.declared.carriers.Gap.{Gap}
use Rattle.ea_model.specs.Content.{gap, gaps, allocated, free_units, Tiled}
use Rattle.ea_laws.specs.Kept.{HasOneBlock}

-- the blocks lie one after another from `at` up to `end`
abbrev pub Ordered : ℕ → ℕ → List BlockAt → Type 0
Ordered at end [] = at ≤ end
Ordered at end (b ∷ bs) = (at ≤ b.offset) × (0 < b.size) × Ordered (b.offset + b.size) end bs

pub Tiled-Ordered : (at end : ℕ) (bs : List BlockAt) → Tiled at end bs → Ordered at end bs
Tiled-Ordered at end [] t = t.0
Tiled-Ordered at end (b ∷ bs) t =
    (t.0, omega (arith, t.2), Tiled-Ordered (b.offset + b.size) end bs t.4)

pub one-Ordered : (units : ℕ) (bs : List BlockAt) → 8 ≤ units → HasOneBlock units bs
    → Ordered 8 units bs
one-Ordered units [] some h = some
one-Ordered units (b ∷ []) some h =
    (omega (arith, h.0), omega (arith, h.1), omega (arith, h.0, h.3))
one-Ordered units (b ∷ c ∷ bs) some h = absurd h

-- the blocks and gaps fit between the ends
pub Ordered-allocated : (at end : ℕ) (bs : List BlockAt) → Ordered at end bs
    → at + allocated bs ≤ end
Ordered-allocated at end [] t = omega arith
Ordered-allocated at end (b ∷ bs) t =
    omega (
      arith,
      sum_by-cons (λ (x : BlockAt). x.size) b bs,
      t.0,
      Ordered-allocated (b.offset + b.size) end bs t.2,
    )

pub Tiled-allocated : (at end : ℕ) (bs : List BlockAt) → Tiled at end bs → at + allocated bs ≤ end
Tiled-allocated at end bs t = Ordered-allocated at end bs (Tiled-Ordered at end bs t)

free_units-append : (xs ys : List Gap) → free_units (xs ++ ys) ≡ free_units xs + free_units ys
free_units-append xs ys = sum_by-append (λ (g : Gap). g.size) xs ys

free_units-gap : (a b : ℕ) → free_units (gap a b) ≡ b - a
free_units-gap a b = grind arith

-- blocks and gaps are all that lies between the ends
pub Ordered-free : (at end : ℕ) (bs : List BlockAt) → Ordered at end bs
    → at + allocated bs + free_units (gaps at end bs) ≡ end
Ordered-free at end [] t = omega (arith, free_units-gap at end, t)
Ordered-free at end (b ∷ bs) t =
    let rest : List Gap = gaps (b.offset + b.size) end bs in
    omega (
      arith,
      sum_by-cons (λ (x : BlockAt). x.size) b bs,
      free_units-append (gap at b.offset) rest,
      free_units-gap at b.offset,
      Ordered-free (b.offset + b.size) end bs t.2,
      t.0,
    )

pub allocated-free : (at end : ℕ) (bs : List BlockAt) → Tiled at end bs
    → at + allocated bs + free_units (gaps at end bs) ≡ end
allocated-free at end bs t = Ordered-free at end bs (Tiled-Ordered at end bs t)

-- each block has 6 units at least
pub Tiled-length : (at end : ℕ) (bs : List BlockAt) → Tiled at end bs → at + 6 * length bs ≤ end
Tiled-length at end [] t = omega arith
Tiled-length at end (b ∷ bs) t = omega (arith, Tiled-length (b.offset + b.size) end bs t.4)
