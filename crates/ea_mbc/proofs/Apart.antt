-- Gaps that lie apart begin in different slots.
use Rattle.std.proofs.Common.{◌≢◌, ℕ, ◌+◌, ◌-◌, ◌<◌, ◌≤◌, List, [], ◌∷◌, ◌++◌, All, sym}
use Rattle.std.proofs.Common.{subst, inl, inr, arith}
use Rattle.std.proofs.lemmas.Bool.{cases_lt}
use Rattle.std.proofs.lemmas.List.Elements.{All-nil, All-cons, All-weaker}
use Rattle.ea_model.specs.declared.carriers.BlockAt.{BlockAt}
use Rattle.ea_model.specs.declared.carriers.Gap.{Gap}
use Rattle.ea_model.specs.Content.{gap, gaps, Tiled}
use Rattle.ea_laws.proofs.Chosen.{gap_some, gap_none}
use Rattle.ea_laws.proofs.Tiling.{Tiled-length}
use Rattle.ea_mbc.specs.Indexed.{slot_of, AreApart}

-- of two offsets as far apart the later one lies in a later slot
slot-below : (a b : ℕ) → a + 12 ≤ b → slot_of a < slot_of b
slot-below a b h = omega arith

AreApart-earlier : (at to end : ℕ) (gs : List Gap) → at ≤ to → AreApart to end gs
    → AreApart at end gs
AreApart-earlier at to end [] le a = tt
AreApart-earlier at to end (g ∷ gs) le a = (omega (arith, a.0), a.1, a.2, a.3)

one_apart : (a b to end : ℕ) (rest : List Gap) → 6 ≤ b - a → b ≤ end → b + 6 ≤ to
    → AreApart to end rest → AreApart a end (record { offset = a; size = b - a } ∷ rest)
one_apart a b to end rest whole within before more = (
  omega arith,
  omega arith,
  omega arith,
  AreApart-earlier (a + (b - a) + 6) to end rest (omega arith) more,
)

front_apart : (a b to end : ℕ) (rest : List Gap) → (a < b → 6 ≤ b - a) → b ≤ end → b + 6 ≤ to
    → a ≤ to → AreApart to end rest → AreApart a end (gap a b ++ rest)
front_apart a b to end rest whole within before le more =
    elim (cases_lt a b) [
      | inl lt ↦ subst (λ xs. AreApart a end (xs ++ rest)) (sym (gap_some a b lt))
          (one_apart a b to end rest (whole lt) within before more)
      | inr ge ↦ subst (λ xs. AreApart a end (xs ++ rest)) (sym (gap_none a b ge))
          (AreApart-earlier a to end rest le more)
    ]

last_apart : (at end : ℕ) → (at < end → 6 ≤ end - at) → AreApart at end (gap at end)
last_apart at end whole =
    elim (cases_lt at end) [
      | inl lt ↦ subst (AreApart at end) (sym (gap_some at end lt))
          (one_apart at end (end + 6) end [] (whole lt) (omega arith) (omega arith) tt)
      | inr ge ↦ subst (AreApart at end) (sym (gap_none at end ge)) tt
    ]

-- the gaps between blocks lie apart
pub gaps-AreApart : (at end : ℕ) (bs : List BlockAt) → Tiled at end bs
    → AreApart at end (gaps at end bs)
gaps-AreApart at end [] t = last_apart at end (λ lt. t.1.whole (omega arith))
gaps-AreApart at end (b ∷ bs) t =
    let to : ℕ = b.offset + b.size in
    let within = Tiled-length to end bs t.4 in
    front_apart at b.offset to end (gaps to end bs) (λ lt. t.1.whole (omega arith))
    (omega (arith, within)) (omega (arith, t.2)) (omega (arith, t.0))
    (gaps-AreApart to end bs t.4)

-- no gap begins before all of them do
all_behind : (at end : ℕ) (gs : List Gap) → AreApart at end gs → All (λ h. at ≤ h.offset) gs
all_behind at end [] a = All-nil (λ (h : Gap). at ≤ h.offset)
all_behind at end (g ∷ gs) a =
    All-cons (λ (h : Gap). at ≤ h.offset) g gs a.0
    (All-weaker (λ (h : Gap). g.offset + g.size + 6 ≤ h.offset) (λ (h : Gap). at ≤ h.offset)
    (λ h le. omega (arith, a.0)) gs (all_behind (g.offset + g.size + 6) end gs a.3))

-- each has units
pub all_whole : (at end : ℕ) (gs : List Gap) → AreApart at end gs → All (λ g. 0 < g.size) gs
all_whole at end [] a = All-nil (λ (g : Gap). 0 < g.size)
all_whole at end (g ∷ gs) a =
    All-cons (λ (h : Gap). 0 < h.size) g gs (omega (arith, a.1))
    (all_whole (g.offset + g.size + 6) end gs a.3)

-- it begins in another slot
abbrev pub IsElsewhere : Gap → Gap → Type 0
IsElsewhere g h = slot_of h.offset ≢ slot_of g.offset

-- a gap among others
module _ (g : Gap) (rest : List Gap) where
  pub apart-within : (at end : ℕ) (front : List Gap) → AreApart at end (front ++ g ∷ rest)
      → (at ≤ g.offset) × (6 ≤ g.size) × (g.offset + g.size ≤ end)
  apart-within at end [] a = (a.0, a.1, a.2)
  apart-within at end (x ∷ front) a =
      let more = apart-within (x.offset + x.size + 6) end front a.3 in
      (omega (arith, a.0, more.0), more.1, more.2)

  -- without it the others lie apart
  apart_less : (at end : ℕ) (front : List Gap) → AreApart at end (front ++ g ∷ rest)
      → AreApart at end (front ++ rest)
  apart_less at end [] a =
      AreApart-earlier at (g.offset + g.size + 6) end rest (omega (arith, a.0)) a.3
  apart_less at end (x ∷ front) a =
      (a.0, a.1, a.2, apart_less (x.offset + x.size + 6) end front a.3)

  -- no other begins in its slot
  pub apart-elsewhere : (at end : ℕ) (front : List Gap) → AreApart at end (front ++ g ∷ rest)
      → All (IsElsewhere g) (front ++ rest)
  apart-elsewhere at end [] a =
      All-weaker (λ (h : Gap). g.offset + g.size + 6 ≤ h.offset) (IsElsewhere g)
      (λ h le same. let lt = slot-below g.offset h.offset (omega (arith, a.1)) in omega arith) rest
      (all_behind (g.offset + g.size + 6) end rest a.3)
  apart-elsewhere at end (x ∷ front) a =
      let to : ℕ = x.offset + x.size + 6 in
      let within = apart-within to end front a.3 in
      let lt = slot-below x.offset g.offset (omega (arith, a.1, within.0)) in
      All-cons (IsElsewhere g) x (front ++ rest) (λ same. omega arith)
      (apart-elsewhere to end front a.3)

-- without some of them the others lie apart
pub apart-without : (at end : ℕ) (front gone rest : List Gap)
    → AreApart at end (front ++ (gone ++ rest)) → AreApart at end (front ++ rest)
apart-without at end front [] rest a = a
apart-without at end front (g ∷ gone) rest a =
    apart-without at end front gone rest (apart_less g (gone ++ rest) at end front a)
