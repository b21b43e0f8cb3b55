-- The bins after a change of the carriers.
use Rattle.std.proofs.Common.{◌≡◌, ◌≢◌, ℕ, ◌+◌, ◌*◌, ◌-◌, ◌%◌, ◌^◌, ◌<◌, ◌≤◌, List, [], ◌∷◌}
use Rattle.std.proofs.Common.{◌++◌, map, All, append_assoc, sym, ap, ◌∙◌, subst, arith, inl, inr}
use Rattle.std.specs.Prelude.{Option, Some, IfSome}
use Rattle.std.specs.List.Sorted.{IsPermutation}
use Rattle.std.proofs.lemmas.List.{map-append}
use Rattle.std.proofs.lemmas.List.Sorted.{All-permutation, IsPermutation-sym, IsPermutation-trans}
use Rattle.ea_model.specs.declared.carriers.Candidate.{Candidate}
use Rattle.ea_model.specs.Content.{Content, gap, gaps, gaps_of, gap_at, gap_before, gap_behind}
use Rattle.ea_model.specs.Content.{gap_up_to, largest, placed, released, taken_of}
use Rattle.ea_model.specs.Instance.{changed, content_of, with_content, without_content}
use Rattle.ea_model.specs.declared.carriers.Gap as model
use Rattle.ea_mbc.specs.Gaps.{Replaced}
use Rattle.ea_goodfit.specs.declared.gaps.BinnedGap.{BinnedGap}
use Rattle.ea_goodfit.specs.Gaps.{HeldGaps}
use Rattle.ea_laws.specs.Kept.{number_of, ContentsApart, IsLaidOut}
use Rattle.ea_laws.proofs.Apart.{apart-changed, changed-All, turned-apart}
use Rattle.ea_model.proofs.Merged.{entered-with}
use Rattle.ea_laws.proofs.Candidates.{gaps_Inside, Inside}
use Rattle.ea_laws.proofs.Changed.{KeepsPlace, placed-keeps, released-keeps}
use Rattle.ea_laws.proofs.Laid.{placed-IsLaidOut, released-IsLaidOut}
use Rattle.ea_model.proofs.Options.{if_some, same-some}
use Rattle.ea_model.proofs.Rising.{All-entered, item_at-All}
use Rattle.std.proofs.lemmas.Bool.{cases_eq}
use Rattle.std.proofs.lemmas.List.Elements.{All-head, All-tail}
use Rattle.ea_employed.specs.Binned.{Hold}
use Rattle.ea_employed.specs.Laid.{AreLaid}
use Rattle.ea_employed.proofs.Changing.{IsPlacing, IsReleasing}
use Rattle.ea_goodfit.specs.Gaps.{gap_from, CanCut, CanJoin}
use Rattle.ea_employed.specs.Listed.{all_gaps}
use Rattle.ea_mbc.specs.declared.carrier.Freed.{Freed}
use Rattle.ea_mbc.specs.declared.carrier.Placed.{Placed}
use Rattle.ea_employed.proofs.Gaps.{at_base, at_gap, gap_from-some, gaps-replaced}
use Rattle.ea_employed.proofs.Gaps.{gaps-with, gaps-without, empty_gaps, largest_gap}
use Rattle.ea_employed.proofs.Listed.{first-alone, DifferIn}
use Rattle.ea_employed.proofs.Located.{gaps-distinct}

-- bins that hold gaps hold them in any order
pub Hold-permuted : (bins : Option HeldGaps) (xs ys : List BinnedGap) → IsPermutation xs ys
    → Hold bins xs
    → Hold bins ys
Hold-permuted bins xs ys m h =
    if_some bins (λ b. IsPermutation b.held xs) (λ b. IsPermutation b.held ys)
    (λ b held. IsPermutation-trans b.held xs ys held m) h

-- a carrier without blocks and its one gap
module _ (x : Content) (sound : IsLaidOut x) (none : x.blocks ≡ []) (address fit : ℕ)
    (at : address ≡ 512 * x.base + 8) (fits : fit ≡ largest (gaps_of x)) where
  own_gap : all_gaps (x ∷ []) ≡ gap_from address fit
  own_gap =
      empty_gaps x sound.shared none ∙ ap (λ a. gap_from a (largest (gaps_of x))) (sym at)
      ∙ ap (gap_from address) (sym fits)

  with_own : (cs : List Content)
      → IsPermutation (all_gaps (with_content x cs)) (gap_from address fit ++ all_gaps cs)
  with_own cs =
      subst (λ gs. IsPermutation (all_gaps (with_content x cs)) (gs ++ all_gaps cs)) own_gap
      (gaps-with x cs)

  -- its gap enters the bins with it
  pub entered-gaps : (cs new : List Content) (bins : Option HeldGaps) → new ≡ with_content x cs
      → Hold bins (gap_from address fit ++ all_gaps cs) → Hold bins (all_gaps new)
  entered-gaps cs new bins is h =
      subst (λ ys. Hold bins (all_gaps ys)) (sym is)
      (Hold-permuted bins (gap_from address fit ++ all_gaps cs) (all_gaps (with_content x cs))
      (IsPermutation-sym (all_gaps (with_content x cs)) (gap_from address fit ++ all_gaps cs)
      (with_own cs)) h)

  -- it has few enough units
  pub entered-size : fit + 1 < 2 ^ 32
  entered-size =
      let one : gaps_of x ≡ gap 8 x.units = ap (gaps 8 x.units) none in
      omega (arith, fits ∙ ap largest one ∙ largest_gap 8 x.units, sound.low)

  -- no other gap begins there
  pub entered-free : (cs : List Content) (bins : Option HeldGaps) → AreLaid cs
      → All (ContentsApart x) cs → Hold bins (all_gaps cs) → 0 < fit
      → IfSome bins (λ b. All (λ g. g.address ≢ address) b.held)
  entered-free cs bins laid apart h some =
      let now = with_content x cs in
      let alone : All (λ (g : BinnedGap). g.address ≢ address) (all_gaps cs) =
      first-alone (all_gaps now) (record { address = address; size = fit }) (all_gaps cs)
      (gaps-distinct now (All-entered number_of IsLaidOut x cs sound laid.sound)
      (entered-with number_of ContentsApart turned-apart x cs laid.apart apart))
      (subst (λ gs. IsPermutation (all_gaps now) (gs ++ all_gaps cs))
      (gap_from-some address fit some) (with_own cs)) in
      if_some bins (λ b. IsPermutation b.held (all_gaps cs))
      (λ b. All (λ g. g.address ≢ address) b.held)
      (λ b held. All-permutation (λ g. g.address ≢ address) (all_gaps cs) b.held
      (IsPermutation-sym b.held (all_gaps cs) held) alone) h

  -- and leaves them with it
  pub left-gaps : (n : ℕ) (cs : List Content) (bins : Option HeldGaps) → AreLaid cs
      → content_of cs n ≡ Some x → Hold bins (all_gaps cs)
      → Hold bins (gap_from address fit ++ all_gaps (without_content n cs))
  left-gaps n cs bins laid there h =
      Hold-permuted bins (all_gaps cs) (gap_from address fit ++ all_gaps (without_content n cs))
      (subst (λ gs. IsPermutation (all_gaps cs) (gs ++ all_gaps (without_content n cs))) own_gap
      (gaps-without n x cs laid.rising there)) h

  pub left-held : (n : ℕ) (cs : List Content) (bins : Option HeldGaps) → AreLaid cs
      → content_of cs n ≡ Some x → Hold bins (all_gaps cs)
      → IfSome bins (λ b. (rest : List BinnedGap)
      × IsPermutation b.held (gap_from address fit ++ rest))
  left-held n cs bins laid there h =
      let rest = all_gaps (without_content n cs) in
      if_some bins (λ b. IsPermutation b.held (gap_from address fit ++ rest))
      (λ b. (rest : List BinnedGap) × IsPermutation b.held (gap_from address fit ++ rest))
      (λ b held. (rest, held)) (left-gaps n cs bins laid there h)

mid_All : {A : Type 0} (P : A → Type 0) (front : List A) (x : A) (behind : List A)
    → All P ((front ++ x ∷ []) ++ behind) → P x
mid_All P [] x behind a = All-head P x behind a
mid_All P (y ∷ front) x behind a =
    mid_All P front x behind (All-tail P y ((front ++ x ∷ []) ++ behind) a)

up_to_more : (offset : ℕ) (g : model.Gap) (gs : List model.Gap) → gap_up_to gs offset ≤ offset
    → gap_up_to (g ∷ gs) offset ≤ offset
up_to_more offset g gs more =
    elim (cases_eq (g.offset + g.size) offset) [ inl e ↦ grind arith | inr n ↦ grind arith ]

-- a gap that ends at an offset is no larger
gap_up_to-le : (gs : List model.Gap) (offset : ℕ) → gap_up_to gs offset ≤ offset
gap_up_to-le [] offset = omega arith
gap_up_to-le (g ∷ gs) offset = up_to_more offset g gs (gap_up_to-le gs offset)

-- of the gaps `old` one is cut: a block takes its front
pub record IsCut (old new : List BinnedGap) (address whole size : ℕ) : Type 0 where
  pub some : 0 < whole
  pub within : size ≤ whole
  pub fits : address + whole < 2 ^ 32
  pub bounded : whole + 1 < 2 ^ 32
  pub rest : List BinnedGap
  pub was : IsPermutation old (gap_from address whole ++ rest)
  pub is : IsPermutation new (gap_from (address + size) (whole - size) ++ rest)
  pub free : size < whole → All (λ g. g.address ≢ address + size) rest

module _ (old new : List BinnedGap) (address whole size : ℕ)
    (cut : IsCut old new address whole size)
    (bins : Option HeldGaps) (held : Hold bins old) where
  pub can-cut : IfSome bins (λ b. CanCut b.held address whole size)
  can-cut =
      if_some bins (λ b. IsPermutation b.held old) (λ b. CanCut b.held address whole size)
      (λ b h. record {
        some = cut.some;
        within = cut.within;
        fits = cut.fits;
        bounded = cut.bounded;
        rest = cut.rest;
        order = IsPermutation-trans b.held old (gap_from address whole ++ cut.rest) h cut.was;
        free = cut.free;
      }) held

  pub cut-noted : (left : Option HeldGaps)
      → ((rest : List BinnedGap) → Hold bins (gap_from address whole ++ rest)
      → Hold left (gap_from (address + size) (whole - size) ++ rest))
      → Hold left new
  cut-noted left note =
      let made : List BinnedGap = gap_from (address + size) (whole - size) ++ cut.rest in
      Hold-permuted left made new (IsPermutation-sym new made cut.is)
      (note cut.rest (Hold-permuted bins old (gap_from address whole ++ cut.rest) cut.was held))

-- of the gaps `old` two become one with the block between them
pub record IsJoin (old new : List BinnedGap) (address before size after : ℕ) : Type 0 where
  pub within : before ≤ address
  pub fits : address + size + after < 2 ^ 32
  pub bounded : before + size + after + 1 < 2 ^ 32
  pub rest : List BinnedGap
  pub was : IsPermutation old
      (gap_from (address - before) before ++ (gap_from (address + size) after ++ rest))
  pub is : IsPermutation new (gap_from (address - before) (before + size + after) ++ rest)
  pub free : All (λ g. g.address ≢ address - before) rest

module _ (old new : List BinnedGap) (address before size after : ℕ)
    (join : IsJoin old new address before size after) (bins : Option HeldGaps)
    (held : Hold bins old) where
  pub can-join : IfSome bins (λ b. CanJoin b.held address before size after)
  can-join =
      if_some bins (λ b. IsPermutation b.held old) (λ b. CanJoin b.held address before size after)
      (λ b h. record {
        within = join.within;
        fits = join.fits;
        bounded = join.bounded;
        rest = join.rest;
        order = IsPermutation-trans b.held old
            (gap_from (address - before) before ++ (gap_from (address + size) after ++ join.rest))
            h join.was;
        free = join.free;
      }) held

  pub join-noted : (left : Option HeldGaps)
      → ((rest : List BinnedGap)
      → Hold bins (gap_from (address - before) before
      ++ (gap_from (address + size) after ++ rest))
      → Hold left (gap_from (address - before) (before + size + after) ++ rest))
      → Hold left new
  join-noted left note =
      let made : List BinnedGap = gap_from (address - before) (before + size + after) ++ join.rest
      in
      Hold-permuted left made new (IsPermutation-sym new made join.is)
      (note join.rest (Hold-permuted bins old
      (gap_from (address - before) before ++ (gap_from (address + size) after ++ join.rest))
      join.was held))

-- a change of one carrier's gaps
module _ (f : Content → Content) (k : KeepsPlace f) (n : ℕ) (item : Content) (cs : List Content)
    (there : content_of cs n ≡ Some item) (laid : AreLaid cs) (sound : IsLaidOut (f item)) where
  here : IsLaidOut item
  here = item_at-All number_of IsLaidOut n item cs laid.sound there

  differ : DifferIn (all_gaps (changed f n cs))
  differ =
      gaps-distinct (changed f n cs) (changed-All IsLaidOut f n cs laid.rising laid.sound
      (λ c at. subst (λ d. IsLaidOut (f d)) (same-some (content_of cs n) item c there at) sound))
      (apart-changed f k n cs laid.apart)

  -- what a block at the front of a gap takes of all gaps
  module _ (address offset whole size : ℕ) (e : address ≡ 512 * item.base + offset)
      (within : size ≤ whole)
      (r : Replaced (gaps_of item) (gaps_of (f item))
      (record { offset = offset; size = whole } ∷ [])
      (gap (offset + size) (offset + whole))) where
    abbrev gone : model.Gap
    gone = record { offset = offset; size = whole }

    inside : Inside 8 item.units gone
    inside =
        mid_All (Inside 8 item.units) r.front gone r.behind
        (subst (All (Inside 8 item.units)) r.was (gaps_Inside 8 item.units item.blocks here.tiled))

    replaced : (rest : List BinnedGap)
        × IsPermutation (all_gaps cs) (map (at_base item.base) (gone ∷ []) ++ rest)
        × IsPermutation (all_gaps (changed f n cs))
        (map (at_base item.base) (gap (offset + size) (offset + whole)) ++ rest)
    replaced =
        gaps-replaced f n item cs laid.rising there (k.number item) (k.base item) (k.kind item)
        here.shared (gone ∷ []) (gap (offset + size) (offset + whole)) r.front r.behind r.was r.is

    was : map (at_base item.base) (gone ∷ []) ≡ gap_from address whole
    was =
        ap (λ a. record { address = a; size = whole } ∷ []) (sym e)
        ∙ sym (gap_from-some address whole inside.some)

    is : map (at_base item.base) (gap (offset + size) (offset + whole))
        ≡ gap_from (address + size) (whole - size)
    is =
        let from : 512 * item.base + (offset + size) ≡ address + size = omega arith in
        let left : offset + whole - (offset + size) ≡ whole - size = omega arith in
        at_gap item.base (offset + size) (offset + whole)
        ∙ ap (λ a. gap_from a (offset + whole - (offset + size))) from
        ∙ ap (gap_from (address + size)) left

    cut_now : IsPermutation (all_gaps (changed f n cs))
        (gap_from (address + size) (whole - size) ++ replaced.0)
    cut_now =
        subst (λ gs. IsPermutation (all_gaps (changed f n cs)) (gs ++ replaced.0)) is replaced.2

    pub is-cut : IsCut (all_gaps cs) (all_gaps (changed f n cs)) address whole size
    is-cut = record {
      some = inside.some;
      within = within;
      fits = omega (arith, e, inside.within, here.low);
      bounded = omega (arith, inside.within, here.low);
      rest = replaced.0;
      was = subst (λ gs. IsPermutation (all_gaps cs) (gs ++ replaced.0)) was replaced.1;
      is = cut_now;
      free = λ lt. first-alone (all_gaps (changed f n cs))
          (record { address = address + size; size = whole - size }) replaced.0 differ
          (subst (λ gs. IsPermutation (all_gaps (changed f n cs)) (gs ++ replaced.0))
          (gap_from-some (address + size) (whole - size) (omega arith)) cut_now);
    }

  -- what a block that is released joins of all gaps
  module _ (address offset before size after : ℕ) (e : address ≡ 512 * item.base + offset)
      (within : before ≤ offset)
      (r : Replaced (gaps_of item) (gaps_of (f item))
      (gap (offset - before) offset ++ gap (offset + size) (offset + size + after))
      (record { offset = offset - before; size = before + size + after } ∷ [])) where
    abbrev two : List model.Gap
    two = gap (offset - before) offset ++ gap (offset + size) (offset + size + after)

    abbrev made : model.Gap
    made = record { offset = offset - before; size = before + size + after }

    joined_inside : Inside 8 (f item).units made
    joined_inside =
        mid_All (Inside 8 (f item).units) r.front made r.behind
        (subst (All (Inside 8 (f item).units)) r.is
        (gaps_Inside 8 (f item).units (f item).blocks sound.tiled))

    joined : (rest : List BinnedGap)
        × IsPermutation (all_gaps cs) (map (at_base item.base) two ++ rest)
        × IsPermutation (all_gaps (changed f n cs)) (map (at_base item.base) (made ∷ []) ++ rest)
    joined =
        gaps-replaced f n item cs laid.rising there (k.number item) (k.base item) (k.kind item)
        here.shared two (made ∷ []) r.front r.behind r.was r.is

    parts : map (at_base item.base) two
        ≡ gap_from (address - before) before ++ gap_from (address + size) after
    parts =
        let low : 512 * item.base + (offset - before) ≡ address - before = omega arith in
        let high : 512 * item.base + (offset + size) ≡ address + size = omega arith in
        let low_size : offset - (offset - before) ≡ before = omega arith in
        let high_size : offset + size + after - (offset + size) ≡ after = omega arith in
        map-append (at_base item.base) (gap (offset - before) offset)
        (gap (offset + size) (offset + size + after))
        ∙ ap (λ gs. gs ++ map (at_base item.base) (gap (offset + size) (offset + size + after)))
        (at_gap item.base (offset - before) offset
        ∙ ap (λ a. gap_from a (offset - (offset - before))) low
        ∙ ap (gap_from (address - before)) low_size)
        ∙ ap (λ gs. gap_from (address - before) before ++ gs)
        (at_gap item.base (offset + size) (offset + size + after)
        ∙ ap (λ a. gap_from a (offset + size + after - (offset + size))) high
        ∙ ap (gap_from (address + size)) high_size)

    abbrev whole_gap : BinnedGap
    whole_gap = record { address = address - before; size = before + size + after }

    one : map (at_base item.base) (made ∷ []) ≡ whole_gap ∷ []
    one =
        let low : 512 * item.base + (offset - before) ≡ address - before = omega arith in
        ap (λ a. record { address = a; size = before + size + after } ∷ []) low

    joined_now : IsPermutation (all_gaps (changed f n cs)) (whole_gap ∷ joined.0)
    joined_now =
        subst (λ gs. IsPermutation (all_gaps (changed f n cs)) (gs ++ joined.0)) one joined.2

    pub is-join : IsJoin (all_gaps cs) (all_gaps (changed f n cs)) address before size after
    is-join = record {
      within = omega (arith, e, within);
      fits = omega (arith, e, within, joined_inside.within, k.units item, here.low);
      bounded = omega (arith, joined_inside.within, k.units item, here.low);
      rest = joined.0;
      was = subst (IsPermutation (all_gaps cs))
          (append_assoc (gap_from (address - before) before) (gap_from (address + size) after)
          joined.0)
          (subst (λ gs. IsPermutation (all_gaps cs) (gs ++ joined.0)) parts joined.1);
      is = subst (λ gs. IsPermutation (all_gaps (changed f n cs)) (gs ++ joined.0))
          (sym (gap_from-some (address - before) (before + size + after) joined_inside.some))
          joined_now;
      free = first-alone (all_gaps (changed f n cs)) whole_gap joined.0 differ joined_now;
    }

taken-le : (g need : ℕ) → need ≤ g → taken_of g need ≤ g
taken-le g need le = grind arith

-- a placement cuts the gap that was chosen
pub placing-IsCut : (need name : ℕ) (x : Candidate) (p : Placed) (cs new : List Content)
    → AreLaid cs
    → need % 2 ≡ 0 → 6 ≤ need → IsPlacing need name x p cs new
    → IsCut (all_gaps cs) (all_gaps new) x.address x.size p.size
placing-IsCut need name x p cs new laid even least w =
    let c = w.content in
    let f : Content → Content = λ d. placed d x.offset need name in
    let here = item_at-All number_of IsLaidOut x.number c cs laid.sound w.there in
    let fits : need ≤ gap_at (gaps_of c) x.offset =
    subst (λ m. need ≤ m) (sym w.chosen.gap) w.chosen.fits in
    let taken = subst (λ m. Replaced (gaps_of c) (gaps_of (f c))
    (record { offset = x.offset; size = m } ∷ []) (gap (x.offset + p.size) (x.offset + m)))
    w.chosen.gap w.taken in
    subst (λ ys. IsCut (all_gaps cs) (all_gaps ys) x.address x.size p.size) (sym w.is)
    (is-cut f (placed-keeps x.offset need name) x.number c cs w.there laid
    (placed-IsLaidOut c x.offset need name here fits least even) x.address x.offset x.size p.size
    w.chosen.address (omega (arith, w.size, taken-le x.size need w.chosen.fits)) taken)

-- a release joins the gaps beside the block
pub releasing-IsJoin : (number offset address : ℕ) (j : Freed) (cs new : List Content) → AreLaid cs
    → IsReleasing number offset address j cs new
    → IsJoin (all_gaps cs) (all_gaps new) address j.before j.size j.after
releasing-IsJoin number offset address j cs new laid w =
    let c = w.content in
    let f : Content → Content = λ d. released d offset in
    let here = item_at-All number_of IsLaidOut number c cs laid.sound w.there in
    let a = gap_before c offset in
    let b = gap_behind c offset in
    let joins : ℕ → ℕ → Type 0 =
    λ m o. IsJoin (all_gaps cs) (all_gaps (changed f number cs)) address m j.size o in
    subst (λ ys. IsJoin (all_gaps cs) (all_gaps ys) address j.before j.size
    j.after) (sym w.is)
    (subst (λ m. joins m j.after) (sym w.before) (subst (joins a) (sym w.after)
    (is-join f (released-keeps offset) number c cs w.there laid (released-IsLaidOut c offset here)
    address offset a j.size b w.place (gap_up_to-le (gaps_of c) offset) w.joined)))
