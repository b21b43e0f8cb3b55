-- The end of the highest run that is long enough, from the last segment on.
use Rattle.std.proofs.Common.{◌≡◌, ℕ, ◌+◌, ◌-◌, ◌≤◌, true, false, List, [], ◌∷◌, ◌++◌, sym, ap}
use Rattle.std.proofs.Common.{◌∙◌, length, subst, refl, arith}
use Rattle.std.specs.Prelude.{Option, Some, None, is_some, nat_le, if◌then◌else◌}
use Rattle.std.specs.Option.{option_or}
use Rattle.std.proofs.lemmas.List.{append_assoc}
use Rattle.ea_model.specs.declared.carriers.Segment.{Segment}
use Rattle.ea_model.specs.Region.{highest_end, lowest_run, runs, stretch, Laid}

or_none : (o : Option ℕ) → option_or o None ≡ o
or_none None = refl
or_none (Some x) = refl

or_assoc : (o p q : Option ℕ) → option_or (option_or o p) q ≡ option_or o (option_or p q)
or_assoc None p q = refl
or_assoc (Some x) p q = refl

-- the higher of two lists of runs is looked at first
highest-append : (pages : ℕ) (rs qs : List Segment)
    → highest_end pages (rs ++ qs) ≡ option_or (highest_end pages qs) (highest_end pages rs)
unfolding highest_end
highest-append pages [] qs = sym (or_none (highest_end pages qs))
highest-append pages (r ∷ rs) qs =
    let here : Option ℕ =
    if nat_le pages r.pages then Some (r.base + r.pages - pages) else None in
    ap (λ o. option_or o here) (highest-append pages rs qs)
    ∙ or_assoc (highest_end pages qs) (highest_end pages rs) here

-- the runs with one segment more at the end
runs-push : (at end : ℕ) (ss : List Segment) (s : Segment)
    → runs at end (ss ++ s ∷ []) ≡ runs at s.base ss ++ stretch (s.base + s.pages) end
runs-push at end [] s = refl
runs-push at end (r ∷ rs) s =
    ap (λ qs. stretch at r.base ++ qs) (runs-push (r.base + r.pages) end rs s)
    ∙ sym (append_assoc (stretch at r.base) (runs (r.base + r.pages) s.base rs)
    (stretch (s.base + s.pages) end))

-- the last segment ends before the end, and the others lie before it
Laid-push : (at end : ℕ) (ss : List Segment) (s : Segment) → Laid at end (ss ++ s ∷ [])
    → Laid at s.base ss × (s.base + s.pages ≤ end)
Laid-push at end [] s t = (t.0, t.2)
Laid-push at end (r ∷ rs) s t =
    let more = Laid-push (r.base + r.pages) end rs s t.2 in ((t.0, t.1, more.0), more.1)

-- one run
pub stretch-holds : (pages a b : ℕ) → is_some (lowest_run pages (stretch a b)) ≡ true
    → highest_end pages (stretch a b) ≡ Some (b - pages)
unfolding highest_end
stretch-holds pages a b e = grind (arith, e)

pub stretch-not : (pages a b : ℕ) → is_some (lowest_run pages (stretch a b)) ≡ false
    → highest_end pages (stretch a b) ≡ None
unfolding highest_end
stretch-not pages a b e = grind (arith, e)

module _ (pages first upto : ℕ) (ss : List Segment) (s : Segment) where
  abbrev before : Option ℕ
  before = highest_end pages (runs first s.base ss)

  split : highest_end pages (runs first upto (ss ++ s ∷ []))
      ≡ option_or (highest_end pages (stretch (s.base + s.pages) upto)) before
  split = ap (highest_end pages) (runs-push first upto ss s)
      ∙ highest-append pages (runs first s.base ss) (stretch (s.base + s.pages) upto)

  -- the pages after the last segment are a run that is long enough
  pub highest-here : is_some (lowest_run pages (stretch (s.base + s.pages) upto)) ≡ true
      → highest_end pages (runs first upto (ss ++ s ∷ [])) ≡ Some (upto - pages)
  highest-here e = split
      ∙ ap (λ o. option_or o before) (stretch-holds pages (s.base + s.pages) upto e)

  -- or they aren't
  pub highest-past : is_some (lowest_run pages (stretch (s.base + s.pages) upto)) ≡ false
      → highest_end pages (runs first upto (ss ++ s ∷ [])) ≡ before
  highest-past e = split
      ∙ ap (λ o. option_or o before) (stretch-not pages (s.base + s.pages) upto e)

-- the same of what is left of the segments
pub Laid-last : (at end : ℕ) (rest ss : List Segment) (s : Segment) → rest ≡ ss ++ s ∷ []
    → Laid at end rest → Laid at s.base ss × (s.base + s.pages ≤ end)
Laid-last at end rest ss s is t = Laid-push at end ss s (subst (Laid at end) is t)

-- no segment is left
pub none_left : (ss : List Segment) → length ss ≡ 0 → ss ≡ []
none_left [] e = refl
none_left (s ∷ ss) e = absurd (omega (arith, e))

-- the pages before all segments are left
pub highest-left : (pages first upto : ℕ) (rest : List Segment) (all : Option ℕ)
    → length rest ≡ 0 → highest_end pages (runs first upto rest) ≡ all
    → highest_end pages (stretch first upto) ≡ all
highest-left pages first upto rest all none is =
    ap (λ ss. highest_end pages (runs first upto ss)) (sym (none_left rest none)) ∙ is
