-- A carrier whose block gets other units in place.
use Rattle.std.proofs.Common.{◌≡◌, ℕ, ◌+◌, ◌*◌, ◌%◌, ◌/◌, ◌<◌, ◌≤◌}
use Rattle.std.proofs.Common.{List, [], ◌∷◌, sym, ap, ◌∙◌, refl, subst}
use Rattle.std.proofs.Common.{inl, inr, arith}
use Rattle.std.specs.Prelude.{Option, Some, None}
use Rattle.std.proofs.lemmas.Bool.{cases_eq}
use Rattle.ea_model.specs.declared.carriers.BlockAt.{BlockAt}
use Rattle.ea_model.specs.declared.reallocation.Decision.{Decision}
use Rattle.ea_model.specs.declared.reallocation.Decision.TheVariants.{Stay, ShrinkHere, GrowHere}
use Rattle.ea_model.specs.declared.reallocation.Decision.TheVariants.{ShrinkCarrier, Move}
use Rattle.ea_model.specs.declared.reallocation.Where.TheVariants.{Multi, Single}
use Rattle.ea_model.specs.declared.settings.Settings.{Settings}
use Rattle.ea_model.specs.Content.{Content, Tiled, block_at, gap_behind, resized}
use Rattle.ea_model.specs.Decision.{decision, size_after}
use Rattle.ea_model.specs.Instance.{Instance, content_of, decision_at, size_at, where_at, where_in}
use Rattle.ea_model.specs.declared.carriers.Spot.{Spot}
use Rattle.ea_model.specs.Keyed.{changed_at}
use Rattle.ea_model.specs.Units.{pages_for}
use Rattle.ea_model.proofs.Rising.{changed_here, item_past}
use Rattle.ea_laws.specs.Kept.{HasOneBlock, IsLaidOut, IsLaidOutAlone}
use Rattle.ea_laws.proofs.BlockLists.{offset_of}
use Rattle.ea_laws.proofs.Owned.{with_units}
use Rattle.ea_laws.proofs.Resized.{grown-tiled, renamed-tiled, shrunk-tiled, with_size}

-- the content where the block at the offset has the units that are decided and this name
abbrev pub content_after : Decision → ℕ → ℕ → ℕ → Content → Content
content_after Stay offset size name c = resized c offset size name
content_after ShrinkHere offset size name c = resized c offset size name
content_after GrowHere offset size name c = resized c offset size name
content_after (ShrinkCarrier pages) offset size name c =
    with_units pages (resized c offset size name)
content_after Move offset size name c = c

-- what is decided of a block of `old` units in a multiblock carrier that is to have `fresh`
abbrev pub InMulti : ℕ → ℕ → ℕ → Decision → Type 0
InMulti old fresh behind Stay = Unit {0}
InMulti old fresh behind ShrinkHere = fresh + 6 ≤ old
InMulti old fresh behind GrowHere = (old < fresh) × (fresh ≤ old + behind)
InMulti old fresh behind (ShrinkCarrier pages) = ⊥
InMulti old fresh behind Move = Unit {0}

pub in_multi : (s : Settings) (old fresh behind : ℕ)
    → InMulti old fresh behind (decision s old fresh (Multi behind))
in_multi s old fresh behind = grind arith

-- and of one in a singleblock carrier
abbrev pub InSingle : ℕ → ℕ → ℕ → Decision → Type 0
InSingle old fresh units Stay = (fresh ≡ old) × (8 + fresh ≤ units)
InSingle old fresh units ShrinkHere = (fresh < old) × (8 + fresh ≤ units)
InSingle old fresh units GrowHere = (old < fresh) × (8 + fresh ≤ units)
InSingle old fresh units (ShrinkCarrier pages) =
    (pages ≡ pages_for (8 + fresh)) × (pages < pages_for units) × (fresh < old)
InSingle old fresh units Move = Unit {0}

pub in_single : (s : Settings) (old fresh units : ℕ)
    → InSingle old fresh units (decision s old fresh (Single units))
in_single s old fresh units = grind arith

-- a block alone that gets a size that fits
pub one_resized : (units more offset size name : ℕ) (b : BlockAt) (bs : List BlockAt)
    → HasOneBlock units bs → block_at bs offset ≡ Some b → 6 ≤ size → size % 2 ≡ 0
    → 8 + size ≤ more → HasOneBlock more (changed_at offset_of (with_size size name) offset bs)
one_resized units more offset size name b [] h found least even fits = tt
one_resized units more offset size name b (x ∷ []) h found least even fits =
    elim (cases_eq x.offset offset) [
      | inl e ↦ subst (HasOneBlock more)
          (sym (changed_here offset_of (with_size size name) offset x [] e))
          (h.0, least, even, fits)
      | inr n ↦ absurd
          (let e : None ≡ Some b = sym (item_past offset_of offset x [] n) ∙ found in cc)
    ]
one_resized units more offset size name b (x ∷ y ∷ bs) h found least even fits = absurd h

module _ (s : Settings) (c : Content) (b : BlockAt) (offset need name : ℕ)
    (found : block_at c.blocks offset ≡ Some b) (least : 6 ≤ need) (even : need % 2 ≡ 0) where
  -- in a multiblock carrier
  module _ (laid : IsLaidOut c) where
    abbrev behind : ℕ
    behind = gap_behind c offset

    with_tiled : (size : ℕ) → Tiled 8 c.units (resized c offset size name).blocks
        → IsLaidOut (resized c offset size name)
    with_tiled size tiled = record {
      whole = laid.whole;
      shared = laid.shared;
      tiled = tiled;
      low = laid.low;
    }

    multi_by : (d : Decision) → InMulti b.size need behind d
        → IsLaidOut (content_after d offset (size_after d b.size need (Multi behind)) name c)
    multi_by Stay h = with_tiled b.size (renamed-tiled c offset name b laid.tiled found)
    multi_by ShrinkHere h =
        with_tiled need (shrunk-tiled c offset need name b laid.tiled found h even least)
    multi_by GrowHere h =
        with_tiled _ (grown-tiled c offset need name b laid.tiled found h.0 even h.1)
    multi_by (ShrinkCarrier pages) h = absurd h
    multi_by Move h = laid

    pub resized-IsLaidOut : (d : Decision) → decision s b.size need (Multi behind) ≡ d
        → IsLaidOut (content_after d offset (size_after d b.size need (Multi behind)) name c)
    resized-IsLaidOut d e = multi_by d
        (subst (InMulti b.size need behind) e (in_multi s b.size need behind))

  -- in a singleblock carrier
  module _ (laid : IsLaidOutAlone c) where
    -- its block has units that fit
    pub single-resized : (size : ℕ) → 6 ≤ size → size % 2 ≡ 0 → 8 + size ≤ c.units
        → IsLaidOutAlone (resized c offset size name)
    single-resized size some whole fits = record {
      whole = laid.whole;
      single = laid.single;
      block = one_resized c.units c.units offset size name b c.blocks laid.block found some whole
          fits;
      low = laid.low;
    }

    -- it has fewer pages, one at least
    pub single-shortens : (pages : ℕ)
        → decision s b.size need (Single c.units) ≡ ShrinkCarrier pages
        → (1 ≤ pages) × (pages < c.units / 512) × (8 + need ≤ 512 * pages)
    single-shortens pages e =
        let h = subst (InSingle b.size need c.units) e (in_single s b.size need c.units) in (
          omega (arith, h.0),
          omega (arith, h.1, laid.whole.0),
          omega (arith, h.0),
        )

    single_by : (d : Decision) → decision s b.size need (Single c.units) ≡ d
        → InSingle b.size need c.units d
        → IsLaidOutAlone (content_after d offset (size_after d b.size need (Single c.units)) name c)
    single_by Stay e h = subst (λ n. IsLaidOutAlone (resized c offset n name)) h.0
        (single-resized need least even h.1)
    single_by ShrinkHere e h = single-resized need least even h.1
    single_by GrowHere e h = single-resized need least even h.1
    single_by (ShrinkCarrier pages) e h =
        let less = single-shortens pages e in
        record {
          whole = (omega arith, omega (arith, less.0));
          single = laid.single;
          block = one_resized c.units (512 * pages) offset need name b c.blocks laid.block found
              least even less.2;
          low = omega (arith, less.1, laid.low, laid.whole.0);
        }
    single_by Move e h = laid

    pub resized-IsLaidOutAlone : (d : Decision) → decision s b.size need (Single c.units) ≡ d
        → IsLaidOutAlone (content_after d offset (size_after d b.size need (Single c.units)) name c)
    resized-IsLaidOutAlone d e = single_by d e
        (subst (InSingle b.size need c.units) e (in_single s b.size need c.units))

-- only a singleblock carrier has fewer pages
alone_by : (i : Instance) (spot : Spot) (need pages : ℕ) (o : Option Content)
    → content_of i.contents spot.carrier ≡ o → decision_at i spot need ≡ ShrinkCarrier pages
    → o ≡ None
alone_by i spot need pages None e d = refl
alone_by i spot need pages (Some c) e d =
    let old = size_at i spot in
    let gap = gap_behind c spot.offset in
    let multi : where_at i spot ≡ Multi gap =
    ap (λ o. where_in spot.offset o (content_of i.singles spot.carrier)) e in
    absurd (subst (InMulti old need gap)
    (sym (ap (decision i.settings old need) multi) ∙ d) (in_multi i.settings old need gap))

pub shortened-alone : (i : Instance) (spot : Spot) (need pages : ℕ)
    → decision_at i spot need ≡ ShrinkCarrier pages → content_of i.contents spot.carrier ≡ None
shortened-alone i spot need pages d =
    alone_by i spot need pages (content_of i.contents spot.carrier) refl d
