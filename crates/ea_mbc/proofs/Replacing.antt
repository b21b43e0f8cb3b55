-- What a block that is put or released makes of the gaps.
use Rattle.std.proofs.Common.{◌≡◌, ◌≢◌, ℕ, ◌+◌, ◌-◌, ◌<◌, ◌≤◌, List, [], ◌∷◌, ◌++◌, append_assoc}
use Rattle.std.proofs.Common.{append-nil, refl, sym, ap, ◌∙◌, subst, inl, inr, arith}
use Rattle.std.specs.Prelude.{Some}
use Rattle.std.proofs.lemmas.Bool.{cases_eq}
use Rattle.ea_model.specs.declared.carriers.BlockAt.{BlockAt}
use Rattle.ea_model.specs.declared.carriers.Gap.{Gap}
use Rattle.ea_model.specs.Content.{Content, gap, gaps, gaps_of, gap_at, gap_up_to}
use Rattle.ea_model.specs.Content.{gap_before, gap_behind, block_at, end_of, inserted, Tiled}
use Rattle.ea_mbc.specs.Gaps.{Replaced, GapTaken, GapsJoined}
use Rattle.ea_laws.proofs.BlockLists.{offset_of, gap_at-step, gap_at-behind, only_gap}
use Rattle.ea_laws.proofs.BlockLists.{without-behind, block_at-past}
use Rattle.ea_model.specs.Keyed.{without}
use Rattle.ea_model.proofs.Rising.{entered_here, entered_past, without_here, without_past}
use Rattle.ea_model.proofs.Rising.{item_at-key}
use Rattle.ea_laws.proofs.Resized.{first_at, behind_first, gaps-first, gap_at-first}
use Rattle.ea_laws.proofs.Resized.{gap_at-past, none_there, same_block, end_of-block, regroup}
use Rattle.ea_mbc.proofs.Beside.{gap_up_to-step, gap_up_to-first, before-within}
use Rattle.ea_laws.proofs.Chosen.{gap_some, gap_none}

-- more gaps before the others
Replaced-more : (more xs ys gone made : List Gap) → Replaced xs ys gone made
    → Replaced (more ++ xs) (more ++ ys) gone made
Replaced-more more xs ys gone made r =
    record {
      front = more ++ r.front;
      behind = r.behind;
      was = ap (λ zs. more ++ zs) r.was ∙ regroup more r.front gone r.behind;
      is = ap (λ zs. more ++ zs) r.is ∙ regroup more r.front made r.behind;
    }

-- ys are the gaps xs with a block of that many units at the front of the gap of g units at the
-- offset
abbrev Taken : List Gap → List Gap → ℕ → ℕ → ℕ → Type 0
Taken xs ys offset size g = Replaced xs ys (record { offset = offset; size = g } ∷ [])
    (gap (offset + size) (offset + g))

-- ys are the gaps xs with the block of that many units at the offset, and the gaps before and
-- behind it, as one gap
abbrev Joined : List Gap → List Gap → ℕ → ℕ → ℕ → ℕ → Type 0
Joined xs ys offset before size behind = Replaced xs ys
    (gap (offset - before) offset ++ gap (offset + size) (offset + size + behind))
    (record { offset = offset - before; size = before + size + behind } ∷ [])

whole_gap : (a b size : ℕ) → a < b → size ≡ b - a
    → gap a b ≡ record { offset = a; size = size } ∷ []
whole_gap a b size h e = subst (λ n. gap a b ≡ record { offset = a; size = n } ∷ []) (sym e)
    (gap_some a b h)

-- the gap from `at` up to `to` without a block of `size` units at its front
front_taken : (at to offset size g : ℕ) (rest : List Gap) → at < to → offset ≡ at → g ≡ to - at
    → Taken (gap at to ++ rest) (gap at offset ++ (gap (offset + size) to ++ rest)) offset size g
front_taken at to offset size g rest lt e h =
    let ends : to ≡ offset + g = omega arith in
    record {
      front = [];
      behind = rest;
      was = ap (λ xs. xs ++ rest)
          (subst (λ a. gap a to ≡ record { offset = offset; size = g } ∷ []) e
          (whole_gap offset to g (omega arith) (omega arith)));
      is = ap (λ xs. xs ++ (gap (offset + size) to ++ rest)) (gap_none at offset (omega arith))
          ∙ ap (λ n. gap (offset + size) n ++ rest) ends;
    }

-- the gap of g units makes room for a block at its front
pub inserted-Replaced : (at end g : ℕ) (x : BlockAt) (bs : List BlockAt) → Tiled at end bs
    → g ≡ gap_at (gaps at end bs) x.offset → 0 < g
    → Taken (gaps at end bs) (gaps at end (inserted x bs)) x.offset x.size g
inserted-Replaced at end g x [] t e some =
    let only = only_gap at end x.offset t.0 (omega arith) in
    subst (λ xs. Taken xs (gap at x.offset ++ gap (x.offset + x.size) end) x.offset x.size g)
    (append-nil (gap at end))
    (subst (λ xs. Taken (gap at end ++ []) (gap at x.offset ++ xs) x.offset x.size g)
    (append-nil (gap (x.offset + x.size) end))
    (front_taken at end x.offset x.size g [] (omega arith) only.0 (e ∙ only.1)))
inserted-Replaced at end g x (b ∷ bs) t e some =
    let rest : List Gap = gaps (b.offset + b.size) end bs in
    elim (gap_at-step at b.offset x.offset rest) [
      | inl p ↦ subst (λ ys. Taken (gap at b.offset ++ rest) (gaps at end ys) x.offset x.size g)
          (sym (entered_here offset_of x b bs (omega arith)))
          (front_taken at b.offset x.offset x.size g rest p.0 p.1 (e ∙ p.2))
      | inr q ↦
          let reach = gap_at-behind (b.offset + b.size) end x.offset bs t.4 (omega arith) in
          subst (λ ys. Taken (gap at b.offset ++ rest) (gaps at end ys) x.offset x.size g)
          (sym (entered_past offset_of x b bs (omega (arith, reach))))
          (Replaced-more (gap at b.offset) rest (gaps (b.offset + b.size) end (inserted x bs)) _ _
          (inserted-Replaced (b.offset + b.size) end g x bs t.4 (e ∙ q) some))
    ]

-- two gaps and what lies between them are one gap
one_gap : (a offset stop n before size behind : ℕ) (rest : List Gap) → offset < stop
    → before ≡ offset - a → a ≤ offset → stop ≡ offset + size → n ≡ stop + behind
    → Joined (gap a offset ++ (gap stop n ++ rest)) (gap a n ++ rest) offset before size behind
one_gap a offset stop n before size behind rest lt b le s e =
    let start : a ≡ offset - before = omega arith in
    let ends : n ≡ offset + size + behind = omega arith in
    record {
      front = [];
      behind = rest;
      was = sym (append_assoc (gap a offset) (gap stop n) rest)
          ∙ ap (λ xs. xs ++ rest) (ap (λ m. gap m offset ++ gap stop n) start
          ∙ ap (λ m. gap (offset - before) offset ++ gap m n) s
          ∙ ap (λ m. gap (offset - before) offset ++ gap (offset + size) m) ends);
      is = ap (λ xs. xs ++ rest) (ap (λ m. gap m n) start
          ∙ whole_gap (offset - before) n (before + size + behind) (omega arith) (omega arith));
    }

pub before_past : (at end offset : ℕ) (b : BlockAt) (bs : List BlockAt) → b.offset ≢ offset
    → gap_up_to (gaps at end (b ∷ bs)) offset ≡ gap_up_to (gaps (b.offset + b.size) end bs) offset
before_past at end offset b bs n = elim
    (gap_up_to-step at b.offset offset (gaps (b.offset + b.size) end bs))
    [ inl p ↦ absurd (n (sym p.1)) | inr q ↦ q.1 ]

released_here : (at end offset before behind : ℕ) (b x : BlockAt) (bs : List BlockAt)
    → Tiled at end (x ∷ bs) → x.offset ≡ offset → x ≡ b
    → before ≡ gap_up_to (gaps at end (x ∷ bs)) offset
    → behind ≡ gap_at (gaps at end (x ∷ bs)) (offset + b.size)
    → Joined (gaps at end (x ∷ bs)) (gaps at end (without offset_of offset (x ∷ bs))) offset before
    b.size behind
released_here at end offset before behind b x bs t e same p q =
    let stop : ℕ = x.offset + x.size in
    let size : x.size ≡ b.size = ap (λ (y : BlockAt). y.size) same in
    let until : ℕ = first_at end bs in
    let front : stop + gap_at (gaps stop end bs) stop ≡ until = gap_at-first stop end bs t.4 in
    let ends : stop ≡ offset + b.size = omega arith in
    let rest : behind ≡ gap_at (gaps stop end bs) stop = q
    ∙ gap_at-past at end (offset + b.size) x bs (omega (arith, t.2))
    ∙ ap (gap_at (gaps stop end bs)) (sym ends) in
    let was : gaps at end (x ∷ bs) ≡ gap at offset ++ (gap stop until ++ behind_first end bs) = ap
    (λ n. gap at n ++ gaps stop end bs) e
    ∙ ap (λ xs. gap at offset ++ xs) (gaps-first stop end bs) in
    let is : gaps at end (without offset_of offset (x ∷ bs)) ≡ gap at until ++ behind_first end bs =
    ap (gaps at end) (without_here offset_of offset x bs e
    ∙ without-behind stop end offset bs t.4 (omega arith))
    ∙ gaps-first at end bs in
    subst (λ xs. Joined xs (gaps at end (without offset_of offset (x ∷ bs))) offset before b.size
    behind) (sym was)
    (subst (λ ys. Joined (gap at offset ++ (gap stop until ++ behind_first end bs)) ys offset before
    b.size behind) (sym is)
    (one_gap at offset stop until before b.size behind (behind_first end bs) (omega arith) (p
    ∙ gap_up_to-first at end offset x bs t e) (omega arith) ends (omega (arith, front, rest))))

-- the block and the gaps on both sides of it are one gap
pub released-Replaced : (at end offset before behind : ℕ) (b : BlockAt) (bs : List BlockAt)
    → Tiled at end bs → block_at bs offset ≡ Some b → before ≡ gap_up_to (gaps at end bs) offset
    → behind ≡ gap_at (gaps at end bs) (offset + b.size)
    → Joined (gaps at end bs) (gaps at end (without offset_of offset bs)) offset before b.size
    behind
released-Replaced at end offset before behind b [] t h p q = absurd (none_there offset b h)
released-Replaced at end offset before behind b (x ∷ bs) t h p q =
    elim (cases_eq x.offset offset) [
      | inl e ↦ released_here at end offset before behind b x bs t e (same_block offset x b bs e h)
          p q
      | inr n ↦
          let found = sym (block_at-past offset x bs n) ∙ h in
          let room = before-within (x.offset + x.size) end offset b bs t.4 found in
          subst (λ ys. Joined (gaps at end (x ∷ bs)) (gaps at end ys) offset before b.size behind)
          (sym (without_past offset_of offset x bs n))
          (Replaced-more (gap at x.offset) (gaps (x.offset + x.size) end bs)
          (gaps (x.offset + x.size) end (without offset_of offset bs)) _ _
          (released-Replaced (x.offset + x.size) end offset before behind b bs t.4 found (p
          ∙ before_past at end offset x bs n) (q
          ∙ gap_at-past at end (offset + b.size) x bs (omega (arith, room)))))
    ]

-- the same of a whole carrier, whose content is known as `now`
pub placed-GapTaken : (here now : Content) (x : BlockAt) (cs : List BlockAt) → here ≡ now
    → Tiled 8 here.units here.blocks → 0 < gap_at (gaps_of now) x.offset
    → cs ≡ inserted x here.blocks → GapTaken now (record here { blocks = cs }) x.offset x.size
placed-GapTaken here now x cs same t some e =
    subst (λ m. GapTaken m (record here { blocks = cs }) x.offset x.size) same
    (subst (λ gs. Taken (gaps_of here) gs x.offset x.size (gap_at (gaps_of here) x.offset))
    (sym (ap (gaps 8 here.units) e))
    (inserted-Replaced 8 here.units (gap_at (gaps_of here) x.offset) x here.blocks t refl
    (subst (λ m. 0 < gap_at (gaps_of m) x.offset) (sym same) some)))

pub released-GapsJoined : (here now : Content) (offset : ℕ) (b : BlockAt) (cs : List BlockAt)
    → here ≡ now → Tiled 8 here.units here.blocks → block_at here.blocks offset ≡ Some b
    → cs ≡ without offset_of offset here.blocks
    → GapsJoined now (record here { blocks = cs }) offset b.size
released-GapsJoined here now offset b cs same t found e =
    let begins = item_at-key offset_of offset b here.blocks found in
    let ends : end_of here.blocks offset ≡ offset + b.size = end_of-block offset b here.blocks found
    ∙ ap (λ n. n + b.size) begins in
    subst (λ m. GapsJoined m (record here { blocks = cs }) offset b.size) same
    (subst (λ gs. Joined (gaps_of here) gs offset (gap_before here offset) b.size
    (gap_behind here offset)) (sym (ap (gaps 8 here.units) e))
    (released-Replaced 8 here.units offset (gap_before here offset) (gap_behind here offset) b
    here.blocks t found refl (ap (gap_at (gaps_of here)) ends)))
