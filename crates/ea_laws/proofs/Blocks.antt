-- What each change of an instance does to its blocks.
use Rattle.std.proofs.Common.{◌≡◌, ℕ, ◌≤◌, true, List, [], ◌∷◌, sym, ap, ◌∙◌, subst, refl, inl, inr}
use Rattle.std.specs.Prelude.{Option, Some, None, Ok}
use Rattle.std.proofs.lemmas.Bool.{cases_eq}
use Rattle.ea_model.specs.declared.carriers.BlockAt.{BlockAt}
use Rattle.ea_model.specs.declared.carriers.CarrierPlan.{CarrierPlan}
use Rattle.ea_model.specs.declared.carriers.Kind.TheVariants.{Multi}
use Rattle.ea_model.specs.declared.carriers.Spot.{Spot}
use Rattle.ea_model.specs.Content.{Content, Tiled, block_at, gap_at, gaps_of, is_vacant, placed}
use Rattle.ea_model.specs.Content.{released, taken_of}
use Rattle.ea_model.specs.Employment.{dismissing}
use Rattle.ea_model.specs.Instance.{Instance, block_in, changed, content_of}
use Rattle.ea_model.specs.Instance.{created_content, created_single, creating, creating_single}
use Rattle.ea_model.specs.Instance.{employed, place_at, placing_at, plan, releasing_at}
use Rattle.ea_model.specs.Instance.{single_place, size_for, with_content}
use Rattle.ea_model.proofs.Rising.{changed_none, item_at-All, item_at-gone, item_at-new}
use Rattle.ea_model.proofs.Rising.{item_at-old, item_at-stays, item_here, item_past, none-other}
use Rattle.ea_laws.proofs.BlockLists.{offset_of, IsFront-gap}
use Rattle.ea_laws.specs.Spots.{HasGap, HaveSameBlocks, IsOther, IsPlaced}
use Rattle.ea_laws.specs.Kept.{number_of, IsLaidOut, Stands}
use Rattle.ea_laws.proofs.Changed.{block_in-here, block_in-others, placed-keeps, released-keeps}
use Rattle.ea_laws.proofs.Contents.{absent-none, block_among, same-with, same-without}
use Rattle.ea_laws.proofs.Employed.{employed-changed, employed-dismissed, employed-created}
use Rattle.ea_laws.proofs.Employed.{employed-placed, employed-single}
use Rattle.ea_laws.proofs.Standing.{employed-multi, employed-rising, planned-absent, planned-new}

-- a block at the front of a gap begins where none began, and others stay
placed_in : (cs : List Content) (c : Content) (spot : Spot) (need name : ℕ)
    → content_of cs spot.carrier ≡ Some c → Tiled 8 c.units c.blocks
    → need ≤ gap_at (gaps_of c) spot.offset → 6 ≤ need
    → IsPlaced cs (changed (λ d. placed d spot.offset need name) spot.carrier cs) name
    (record {
      carrier = spot.carrier;
      offset = spot.offset;
      size = taken_of (gap_at (gaps_of c) spot.offset) need;
    })
placed_in cs c spot need name there tiled fits least =
    let front = IsFront-gap c spot.offset need tiled fits least in
    let size : ℕ = taken_of (gap_at (gaps_of c) spot.offset) need in
    let x : BlockAt = record { name = name; offset = spot.offset; size = size } in
    let keeps = placed-keeps spot.offset need name in
    let f : Content → Content = λ d. placed d spot.offset need name in
    record {
      fresh = ap (block_among spot.offset) there ∙ front.fresh;
      begins =
          block_in-here f keeps spot.carrier cs c spot there refl
          ∙ item_at-new offset_of x c.blocks
          (none-other offset_of spot.offset c.blocks front.fresh);
      others = λ at other. block_in-others f keeps spot.carrier cs c spot.offset at there
          (λ offset n. item_at-old offset_of offset x c.blocks n) other;
    }

pub placing-IsPlaced : (i : Instance) (spot : Spot) (need name : ℕ) → Stands i
    → HasGap need spot.carrier spot.offset i.contents → 6 ≤ need
    → IsPlaced (employed i) (employed (placing_at i spot need name)) name (place_at i spot need)
placing-IsPlaced i spot need name st (c, there, fits) least =
    let sound = item_at-All number_of IsLaidOut spot.carrier c i.contents st.orderly.laid there in
    let sized : taken_of (gap_at (gaps_of c) spot.offset) need
    ≡ size_for (content_of i.contents spot.carrier) spot.offset need = sym
    (ap (λ o. size_for o spot.offset need) there) in
    subst (λ cs. IsPlaced (employed i) cs name (place_at i spot need))
    (sym (employed-placed i spot need name c (employed-rising i st) there))
    (subst (λ m. IsPlaced (employed i)
    (changed (λ d. placed d spot.offset need name) spot.carrier (employed i)) name
    (record { carrier = spot.carrier; offset = spot.offset; size = m })) sized
    (placed_in (employed i) c spot need name (employed-multi i spot.carrier c st there) sound.tiled
    fits least))

-- a release leaves the other blocks
others_in : (cs : List Content) (spot : Spot) (o : Option Content)
    → content_of cs spot.carrier ≡ o → (at : Spot) → IsOther spot.carrier spot.offset at
    → block_in (changed (λ c. released c spot.offset) spot.carrier cs) at ≡ block_in cs at
others_in cs spot None e at other = ap (λ ds. block_in ds at)
    (changed_none number_of (λ c. released c spot.offset) spot.carrier cs
    (none-other number_of spot.carrier cs e))
others_in cs spot (Some c) e at other =
    block_in-others (λ d. released d spot.offset) (released-keeps spot.offset) spot.carrier cs c
    spot.offset at e (λ offset n. item_at-stays offset_of offset spot.offset c.blocks n) other

pub releasing-others : (i : Instance) (spot at : Spot) → IsOther spot.carrier spot.offset at
    → block_in (employed (releasing_at i spot)) at ≡ block_in (employed i) at
releasing-others i spot at other =
    ap (λ cs. block_in cs at)
    (employed-changed (λ c. released c spot.offset) (released-keeps spot.offset) spot.carrier i)
    ∙ others_in (employed i) spot (content_of (employed i) spot.carrier) refl at other

-- no block begins there after it
gone_in : (cs : List Content) (spot : Spot) (o : Option Content)
    → content_of cs spot.carrier ≡ o
    → block_in (changed (λ c. released c spot.offset) spot.carrier cs) spot ≡ None
gone_in cs spot None e =
    ap (λ ds. block_in ds spot)
    (changed_none number_of (λ c. released c spot.offset) spot.carrier cs
    (none-other number_of spot.carrier cs e))
    ∙ ap (block_among spot.offset) e
gone_in cs spot (Some c) e =
    block_in-here (λ d. released d spot.offset) (released-keeps spot.offset) spot.carrier cs c spot
    e refl
    ∙ item_at-gone offset_of spot.offset c.blocks

pub releasing-gone : (i : Instance) (spot : Spot)
    → block_in (employed (releasing_at i spot)) spot ≡ None
releasing-gone i spot =
    ap (λ cs. block_in cs spot)
    (employed-changed (λ c. released c spot.offset) (released-keeps spot.offset) spot.carrier i)
    ∙ gone_in (employed i) spot (content_of (employed i) spot.carrier) refl

-- a carrier without blocks that is dismissed takes none away
pub dismissing-same : (i : Instance) (number : ℕ) (c : Content) → Stands i
    → content_of (employed i) number ≡ Some c → is_vacant c ≡ true
    → HaveSameBlocks (employed i) (employed (dismissing i number))
dismissing-same i number c st there vacant at =
    ap (λ cs. block_in cs at) (employed-dismissed i number (employed-rising i st))
    ∙ same-without number c (employed i) there vacant at

-- a multiblock carrier that is created brings no block and takes none away
pub creating-same : (i : Instance) (need : ℕ) (p : CarrierPlan) → Stands i → plan i need ≡ Ok p
    → HaveSameBlocks (employed i) (employed (creating i p))
creating-same i need p st asked at =
    ap (λ cs. block_in cs at) (employed-created i p (planned-new i need p st asked))
    ∙ same-with (created_content i.number Multi p) (employed i)
    (planned-absent i need p st asked) refl at

-- a singleblock carrier that is created brings its block
with_single : (cs : List Content) (x : Content) (b : BlockAt) → content_of cs x.number ≡ None
    → x.blocks ≡ b ∷ []
    → IsPlaced cs (with_content x cs) b.name
    (record { carrier = x.number; offset = b.offset; size = b.size })
with_single cs x b absent one =
    let new = item_at-new number_of x cs (none-other number_of x.number cs absent) in
    record {
      fresh = ap (block_among b.offset) absent;
      begins = ap (block_among b.offset) new ∙ ap (λ bs. block_at bs b.offset) one
          ∙ found_alone b;
      others = λ at other. elim (cases_eq at.carrier x.number) [
        | inl same ↦
            ap (block_among at.offset) (ap (content_of (with_content x cs)) same ∙ new)
            ∙ ap (λ bs. block_at bs at.offset) one
            ∙ item_past offset_of at.offset b [] (λ e. other same (sym e))
            ∙ sym (ap (block_among at.offset) (ap (content_of cs) same ∙ absent))
        | inr n ↦ ap (block_among at.offset) (item_at-old number_of at.carrier x cs n)
      ];
    } where
      found_alone : (b : BlockAt) → block_at (b ∷ []) b.offset ≡ Some b
      found_alone b = item_here offset_of b.offset b [] refl

pub creating_single-IsPlaced : (i : Instance) (need name : ℕ) (p : CarrierPlan) → Stands i
    → plan i need ≡ Ok p
    → IsPlaced (employed i) (employed (creating_single i p need name)) name (single_place p need)
creating_single-IsPlaced i need name p st asked =
    subst (λ cs. IsPlaced (employed i) cs name (single_place p need))
    (sym (employed-single i p need name (planned-new i need p st asked)))
    (with_single (employed i) (created_single i.number p need name)
    (record { name = name; offset = 8; size = need })
    (absent-none p.number (employed i) (planned-absent i need p st asked)) refl)
