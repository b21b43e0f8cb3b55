-- The slots after the gaps of a carrier change.
use Rattle.std.proofs.Common.{◌≡◌, ◌≢◌, ℕ, ◌+◌, ◌-◌, ◌<◌, ◌≤◌, List, [], ◌∷◌, ◌++◌, append_assoc}
use Rattle.std.proofs.Common.{append-nil, replicate, refl, sym, ap, ◌∙◌, subst, inl, inr, arith}
use Rattle.std.specs.Prelude.{slice_index}
use Rattle.std.proofs.lemmas.Bool.{cases_eq, cases_lt}
use Rattle.std.proofs.lemmas.List.{length-replicate, get_or-replicate, get_or_past}
use Rattle.std.proofs.lemmas.List.Elements.{All-nil}
use Rattle.ea_model.specs.declared.carriers.Gap.{Gap}
use Rattle.ea_model.specs.declared.carriers.Inner.{Inner}
use Rattle.ea_model.specs.declared.units.TheConstants.{HEADER_UNITS}
use Rattle.ea_model.specs.Content.{Content, gap, gaps, gaps_of, gap_at, gap_up_to, gap_before}
use Rattle.ea_model.specs.Content.{gap_behind, Tiled}
use Rattle.ea_mbc.specs.Gaps.{Replaced, GapTaken, GapsJoined, GapResized}
use Rattle.ea_mbc.specs.Indexed.{slots_of, Slots, no_gaps, taken_out, put_in, IsHeld, HasSlot}
use Rattle.ea_mbc.specs.Indexed.{IsInSlot, Indexed, AreApart}
use Rattle.ea_mbc.proofs.Apart.{gaps-AreApart, apart-within, apart-without}
use Rattle.ea_mbc.proofs.Slots.{gap_of, run-IsHeld, run-taken, run-put, run-HasSlot}

gap_up_to-here : (offset : ℕ) (g : Gap) (gs : List Gap) → g.offset + g.size ≡ offset
    → gap_up_to (g ∷ gs) offset ≡ g.size
gap_up_to-here offset g gs e = grind arith

gap_up_to-past : (offset : ℕ) (g : Gap) (gs : List Gap) → g.offset + g.size ≢ offset
    → gap_up_to (g ∷ gs) offset ≡ gap_up_to gs offset
gap_up_to-past offset g gs n = grind arith

gap_up_to-least : (offset : ℕ) (gs : List Gap) → gap_up_to gs offset ≤ offset
gap_up_to-least offset [] = omega arith
gap_up_to-least offset (g ∷ gs) =
    elim (cases_eq (g.offset + g.size) offset) [
      | inl e ↦ omega (arith, gap_up_to-here offset g gs e)
      | inr n ↦ omega (arith, gap_up_to-past offset g gs n, gap_up_to-least offset gs)
    ]

one_gap : (a b n : ℕ) → 0 < n → b ≡ a + n → gap a b ≡ gap_of a n ∷ []
one_gap a b n some e = grind arith

-- a gap among gaps that lie apart has units
among_gaps : (at units a b n : ℕ) (front rest gs : List Gap) → b ≡ a + n → AreApart at units gs
    → gs ≡ front ++ (gap_of a n ∷ []) ++ rest → gap a b ≡ gap_of a n ∷ []
among_gaps at units a b n front rest gs e x is =
    let whole = apart-within (gap_of a n) rest at units front
    (subst (AreApart at units) (is ∙ append_assoc front (gap_of a n ∷ []) rest) x) in
    one_gap a b n (omega (arith, whole.1)) e

module _ (old new : Content) (s : Slots) (t : Tiled HEADER_UNITS old.units old.blocks)
    (u : Tiled HEADER_UNITS new.units new.blocks) (same : new.units ≡ old.units)
    (i : Indexed old.units s (gaps_of old)) where
  abbrev xs : List Gap
  xs = gaps_of old

  abbrev ys : List Gap
  ys = gaps_of new

  old_apart : AreApart HEADER_UNITS old.units xs
  old_apart = gaps-AreApart HEADER_UNITS old.units old.blocks t

  new_apart : AreApart HEADER_UNITS old.units ys
  new_apart = subst (λ n. AreApart HEADER_UNITS n ys) same
      (gaps-AreApart HEADER_UNITS new.units new.blocks u)

  -- the gaps from a up to b and from c up to d, if there are any, become that from e up to f
  module _ (a b n c d m e f k : ℕ) (first : n ≡ b - a) (second : m ≡ d - c) (last : k ≡ f - e)
      (r : Replaced xs ys (gap a b ++ gap c d) (gap e f)) where
    abbrev others : List Gap
    others = gap c d ++ r.behind

    abbrev without : Slots
    without = taken_out c m (taken_out a n s)

    was : xs ≡ r.front ++ (gap a b ++ others)
    was = r.was ∙ append_assoc r.front (gap a b ++ gap c d) r.behind
        ∙ ap (λ zs. r.front ++ zs) (append_assoc (gap a b) (gap c d) r.behind)

    is : ys ≡ r.front ++ (gap e f ++ r.behind)
    is = r.is ∙ append_assoc r.front (gap e f) r.behind

    all_apart : AreApart HEADER_UNITS old.units (r.front ++ (gap a b ++ others))
    all_apart = subst (AreApart HEADER_UNITS old.units) was old_apart

    made_apart : AreApart HEADER_UNITS old.units (r.front ++ (gap e f ++ r.behind))
    made_apart = subst (AreApart HEADER_UNITS old.units) is new_apart

    all : Indexed old.units s (r.front ++ (gap a b ++ others))
    all = subst (Indexed old.units s) was i

    without_first : Indexed old.units (taken_out a n s) (r.front ++ others)
    without_first = run-taken a b n r.front others first HEADER_UNITS old.units s all_apart all

    without_both : Indexed old.units without (r.front ++ r.behind)
    without_both = run-taken c d m r.front r.behind second HEADER_UNITS old.units (taken_out a n s)
        (apart-without HEADER_UNITS old.units r.front (gap a b) others all_apart) without_first

    with_last : Indexed old.units (put_in e k without) (r.front ++ (gap e f ++ r.behind))
    with_last = run-put e f k r.front r.behind last HEADER_UNITS old.units without made_apart
        without_both

    changed : IsHeld a n s × IsHeld c m (taken_out a n s) × HasSlot e k without
        × Indexed new.units (put_in e k without) ys
    changed = (
      run-IsHeld a b n r.front others first old.units s all,
      run-IsHeld c d m r.front r.behind second old.units (taken_out a n s) without_first,
      run-HasSlot e f k r.front r.behind last HEADER_UNITS old.units without made_apart
          without_both,
      subst (λ n. Indexed n (put_in e k without) ys) (sym same)
          (subst (Indexed old.units (put_in e k without)) (sym is) with_last),
    )

  -- a block is put at the front of a gap
  module _ (offset size g : ℕ) (is : g ≡ gap_at (gaps_of old) offset)
      (r : GapTaken old new offset size) where
    abbrev end : ℕ
    end = offset + g

    abbrev Takes : List Gap → ℕ → Type 0
    Takes gone n = Replaced xs ys gone (gap (offset + size) (offset + n))

    by_size : Takes (gap_of offset g ∷ []) g
    by_size = subst (λ n. Takes (gap_of offset n ∷ []) n) (sym is) r

    taken : Takes (gap offset end ++ []) g
    taken = subst (λ gone. Takes (gone ++ []) g)
        (sym (among_gaps HEADER_UNITS old.units offset end g by_size.front by_size.behind xs refl
        old_apart by_size.was)) by_size

    at_taken : IsHeld offset g s × IsHeld 0 0 (taken_out offset g s)
        × HasSlot (offset + size) (g - size) (taken_out offset g s)
        × Indexed new.units (put_in (offset + size) (g - size) (taken_out offset g s)) ys
    at_taken = changed offset end g 0 0 0 (offset + size) end (g - size) (omega arith) refl
        (omega arith) taken

    pub held-taken : IsHeld offset g s
    held-taken = at_taken.0

    pub slot-taken : HasSlot (offset + size) (g - size) (taken_out offset g s)
    slot-taken = at_taken.2

    pub indexed-taken : Indexed new.units
        (put_in (offset + size) (g - size) (taken_out offset g s)) (gaps_of new)
    indexed-taken = at_taken.3

  -- a block is free, and one gap with the gaps beside it
  module _ (offset before size after : ℕ) (b : before ≡ gap_before old offset)
      (a : after ≡ gap_behind old offset) (r : GapsJoined old new offset size) where
    abbrev start : ℕ
    start = offset - before

    abbrev stop : ℕ
    stop = offset + size

    abbrev beside : Slots
    beside = taken_out stop after (taken_out start before s)

    abbrev Joins : ℕ → ℕ → List Gap → Type 0
    Joins n m made = Replaced xs ys (gap (offset - n) offset ++ gap stop (stop + m)) made

    by_sizes : Joins before after (gap_of start (before + size + after) ∷ [])
    by_sizes = subst (λ n. Joins n after (gap_of (offset - n) (n + size + after) ∷ [])) (sym b)
        (subst (λ m. Joins (gap_before old offset) m
        (gap_of (offset - gap_before old offset) (gap_before old offset + size + m) ∷ [])) (sym a)
        r)

    room : before ≤ offset
    room = omega (arith, b, gap_up_to-least offset xs)

    joined : Joins before after (gap start (stop + after))
    joined = subst (Joins before after)
        (sym (among_gaps HEADER_UNITS old.units start (stop + after) (before + size + after)
        by_sizes.front by_sizes.behind ys (omega (arith, room)) new_apart by_sizes.is)) by_sizes

    at_joined : IsHeld start before s × IsHeld stop after (taken_out start before s)
        × HasSlot start (before + size + after) beside
        × Indexed new.units (put_in start (before + size + after) beside) ys
    at_joined = changed start offset before stop (stop + after) after start (stop + after)
        (before + size + after) (omega (arith, room)) (omega arith) (omega (arith, room)) joined

    pub held-before : IsHeld (offset - before) before s
    held-before = at_joined.0

    pub held-behind : IsHeld (offset + size) after (taken_out (offset - before) before s)
    held-behind = at_joined.1

    pub slot-joined : HasSlot (offset - before) (before + size + after)
        (taken_out (offset + size) after (taken_out (offset - before) before s))
    slot-joined = at_joined.2

    pub indexed-joined : Indexed new.units
        (put_in (offset - before) (before + size + after)
        (taken_out (offset + size) after (taken_out (offset - before) before s))) (gaps_of new)
    indexed-joined = at_joined.3

  -- a block has another size
  module _ (offset was size after : ℕ) (a : after ≡ gap_behind old offset)
      (r : GapResized old new offset was size) where
    abbrev until : ℕ
    until = offset + was + after

    resized : Replaced xs ys (gap (offset + was) until ++ []) (gap (offset + size) until)
    resized = subst (λ gone. Replaced xs ys gone (gap (offset + size) until))
        (sym (append-nil (gap (offset + was) until)))
        (subst (λ n. Replaced xs ys (gap (offset + was) (offset + was + n))
        (gap (offset + size) (offset + was + n))) (sym a) r)

    at_resized : IsHeld (offset + was) after s × IsHeld 0 0 (taken_out (offset + was) after s)
        × HasSlot (offset + size) (was + after - size) (taken_out (offset + was) after s)
        × Indexed new.units
        (put_in (offset + size) (was + after - size) (taken_out (offset + was) after s)) ys
    at_resized = changed (offset + was) until after 0 0 0 (offset + size) until
        (was + after - size) (omega arith) refl (omega arith) resized

    pub held-resized : IsHeld (offset + was) after s
    held-resized = at_resized.0

    pub slot-resized : HasSlot (offset + size) (was + after - size)
        (taken_out (offset + was) after s)
    slot-resized = at_resized.2

    pub indexed-resized : Indexed new.units
        (put_in (offset + size) (was + after - size) (taken_out (offset + was) after s))
        (gaps_of new)
    indexed-resized = at_resized.3

zero_there : (n k : ℕ) → slice_index (replicate n 0) k ≡ 0
zero_there n k =
    elim (cases_lt k n) [
      | inl lt ↦ get_or-replicate n k 0 0 lt
      | inr le ↦ get_or_past (replicate n 0) k 0 (omega (arith, length-replicate {A = ℕ} n 0))
    ]

-- a carrier without blocks
module _ (inner : Inner) (units : ℕ) (t : Tiled HEADER_UNITS units []) where
  no_gaps-Indexed : Indexed units (no_gaps inner units) []
  no_gaps-Indexed =
      record {
        offsets_long = length-replicate {A = ℕ} (slots_of units) 0;
        sizes_long = length-replicate {A = ℕ} (slots_of units) 0;
        kept = All-nil (IsInSlot (no_gaps inner units));
        only = λ k h. absurd (let none = zero_there (slots_of units) k in omega arith);
      }

  one_apart : AreApart HEADER_UNITS units (gap HEADER_UNITS units ++ [])
  one_apart = subst (AreApart HEADER_UNITS units) (sym (append-nil (gap HEADER_UNITS units)))
      (gaps-AreApart HEADER_UNITS units [] t)

  pub slot-new : HasSlot HEADER_UNITS (units - HEADER_UNITS) (no_gaps inner units)
  slot-new = run-HasSlot HEADER_UNITS units (units - HEADER_UNITS) [] [] refl HEADER_UNITS units
      (no_gaps inner units) one_apart no_gaps-Indexed

  pub indexed-new : Indexed units
      (put_in HEADER_UNITS (units - HEADER_UNITS) (no_gaps inner units))
      (gaps HEADER_UNITS units [])
  indexed-new =
      let one = put_in HEADER_UNITS (units - HEADER_UNITS) (no_gaps inner units) in
      subst (Indexed units one) (append-nil (gap HEADER_UNITS units))
      (run-put HEADER_UNITS units (units - HEADER_UNITS) [] [] refl HEADER_UNITS units
      (no_gaps inner units) one_apart no_gaps-Indexed)
