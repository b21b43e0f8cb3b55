-- The chosen gap is a gap that fits, and none is chosen where none fits.
use Rattle.std.proofs.Common.{◌≡◌, ℕ, ◌+◌, ◌-◌, ◌<◌, ◌≤◌, ◌↔◌, true, List, [], ◌∷◌, ◌++◌, refl, sym}
use Rattle.std.proofs.Common.{◌∙◌, subst, inl, inr, arith, append-nil}
use Rattle.std.specs.Prelude.{None, IfSome, IsNone, nat_le, All}
use Rattle.std.proofs.lemmas.Bool.{cases_lt, leb-true}
use Rattle.std.proofs.lemmas.List.Elements.{All-nil, All-cons, All-append, All-weaker, All-filter}
use Rattle.std.proofs.lemmas.List.Elements.{filter_passes, All-same}
use Rattle.ea_model.specs.declared.carriers.BlockAt.{BlockAt}
use Rattle.ea_model.specs.declared.carriers.Gap.{Gap}
use Rattle.ea_model.specs.declared.carriers.Inner.{Inner}
use Rattle.ea_model.specs.Content.{gap, gaps, gap_at, Tiled}
use Rattle.ea_model.specs.Choice.{before, first, fitting, choice}
use Rattle.ea_model.proofs.First.{first-All, first-none, large-none, none-large}
use Rattle.ea_laws.proofs.BlockLists.{gap_at-step}

pub gap_some : (a b : ℕ) → a < b → gap a b ≡ record { offset = a; size = b - a } ∷ []
gap_some a b h = grind arith

pub gap_none : (a b : ℕ) → b ≤ a → gap a b ≡ []
gap_none a b h = grind arith

-- g is the gap of gs that begins at its offset, and that is not before `at`
pub record Begins (at : ℕ) (gs : List Gap) (g : Gap) : Type 0 where
  pub behind : at ≤ g.offset
  pub size : gap_at gs g.offset ≡ g.size

begins_first : (a b : ℕ) (rest : List Gap) → a < b → gap_at (gap a b ++ rest) a ≡ b - a
begins_first a b rest h = grind arith

front_Begins : (a b : ℕ) (rest : List Gap) → All (Begins a (gap a b ++ rest)) (gap a b)
front_Begins a b rest =
    let P : Gap → Type 0 = Begins a (gap a b ++ rest) in
    elim (cases_lt a b) [
      | inl h ↦ All-same P (gap a b) (record { offset = a; size = b - a } ∷ []) (gap_some a b h)
          (All-cons P (record { offset = a; size = b - a }) []
          (record { behind = omega arith; size = begins_first a b rest h }) (All-nil P))
      | inr h ↦ All-same P (gap a b) [] (gap_none a b h) (All-nil P)
    ]

Begins_behind : (a b next : ℕ) (rest : List Gap) → a < next → b ≤ next → (g : Gap)
    → Begins next rest g → Begins a (gap a b ++ rest) g
Begins_behind a b next rest below le g h =
    elim (gap_at-step a b g.offset rest) [
      | inl p ↦ absurd (omega (arith, h.behind))
      | inr q ↦ record { behind = omega (arith, h.behind); size = q ∙ h.size }
    ]

-- each gap is the one that begins at its offset
pub gaps-Begins : (at end : ℕ) (bs : List BlockAt) → Tiled at end bs
    → All (Begins at (gaps at end bs)) (gaps at end bs)
gaps-Begins at end [] t = subst (λ gs. All (Begins at gs) (gap at end)) (append-nil (gap at end))
    (front_Begins at end [])
gaps-Begins at end (b ∷ bs) t =
    let rest : List Gap = gaps (b.offset + b.size) end bs in
    All-append (Begins at (gap at b.offset ++ rest)) (gap at b.offset) rest
    (front_Begins at b.offset rest)
    (All-weaker (Begins (b.offset + b.size) rest) (Begins at (gap at b.offset ++ rest))
    (Begins_behind at b.offset (b.offset + b.size) rest (omega arith) (omega arith)) rest
    (gaps-Begins (b.offset + b.size) end bs t.4))

-- the chosen gap is one that fits
pub choice-fits : (inner : Inner) (need : ℕ) (gs : List Gap)
    → IfSome (choice inner need gs) (λ g. need ≤ g.size)
choice-fits inner need gs =
    first-All (λ g. need ≤ g.size) (before inner) None (fitting need gs) tt
    (All-weaker (λ g. nat_le need g.size ≡ true) (λ g. need ≤ g.size)
    (λ g f. leb-true need g.size f) (fitting need gs) (filter_passes (λ g. nat_le need g.size) gs))

-- the chosen gap is the one that begins at its offset
pub choice-sized : (inner : Inner) (need at end : ℕ) (bs : List BlockAt) → Tiled at end bs
    → IfSome (choice inner need (gaps at end bs)) (λ g. gap_at (gaps at end bs) g.offset ≡ g.size)
choice-sized inner need at end bs t =
    let gs : List Gap = gaps at end bs in
    first-All (λ g. gap_at gs g.offset ≡ g.size) (before inner) None (fitting need gs) tt
    (All-weaker (Begins at gs) (λ g. gap_at gs g.offset ≡ g.size) (λ g h. h.size) (fitting need gs)
    (All-filter (λ g. nat_le need g.size) (Begins at gs) gs (gaps-Begins at end bs t)))

-- none is chosen exactly where no gap fits
pub choice-none : (inner : Inner) (need : ℕ) (gs : List Gap)
    → IsNone (choice inner need gs) ↔ All (λ g. g.size < need) gs
choice-none inner need gs = (
  λ h. none-large (λ (g : Gap). g.size) need gs (first-none (before inner) (fitting need gs) h),
  λ h. subst (λ xs. IsNone (first (before inner) xs))
      (sym (large-none (λ (g : Gap). g.size) need gs h)) refl,
)
