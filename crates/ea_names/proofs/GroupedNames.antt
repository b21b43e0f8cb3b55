-- The names of groups are those of their places, and what is done at one place is done to its name.
use Rattle.std.proofs.Common.{zero, suc, ◌≡◌, ◌≢◌, ℕ, ◌+◌, ◌*◌, ◌<◌, ◌≤◌, Bool, true, false, List}
use Rattle.std.proofs.Common.{[], ◌∷◌, ◌++◌, Option, Some, None, get_or, length, map, replicate}
use Rattle.std.proofs.Common.{set, Vec, Global, sym, ap, ◌∙◌, refl, subst, inl, inr, arith}
use Rattle.std.specs.Prelude.{◌==◌, All, option_map, sum_by}
use Rattle.std.specs.Option.{option_map_or}
use Rattle.std.proofs.lemmas.Bool.{cases_eq, cases_lt, eqb-true}
use Rattle.std.specs.Vec.{vec_len, with_item}
use Rattle.std.proofs.lemmas.List.{get_or-map, get_or-set_same, length-map, length-replicate}
use Rattle.std.proofs.lemmas.List.{length-set, map-set, set-get_or}
use Rattle.std.proofs.Math.Seq.{map-set_same}
use Rattle.std.proofs.lemmas.List.Elements.{All-nil, All-cons, All-append, All-head, All-set}
use Rattle.std.proofs.lemmas.List.Elements.{All-tail, All-weaker, filter-append}
use Rattle.std.proofs.lemmas.List.Sums.{sum_by-append, sum_by-cons}
use Rattle.ea_model.specs.declared.carriers.Spot.{Spot}
use Rattle.ea_model.proofs.Rising.{entered_here, entered_past, item_here, item_past, without_none}
use Rattle.ea_machine.specs.declared.nodes.Named.{Named}
use Rattle.ea_machine.specs.Nodes.{named_at, spot_named, with_name, without_name, name_of}
use Rattle.ea_names.specs.Holding.{IsGroup, has_places, held_from, held_in, places_in}
use Rattle.ea_names.specs.declared.groups.TheConstants.{GROUP}
use Rattle.ea_names.proofs.NamesTable.{entered-first, held-after, held-none, hold-held, let-go-held}
use Rattle.ea_names.proofs.NamesTable.{missing, spot-held, sum-held}

abbrev Group : Type 0
Group = List (Option Spot)

-- names of two lists, where those of one are other names
found-left : (n : ℕ) (xs ys : List Named) → All (λ y. y.name ≢ n) ys
    → named_at n (xs ++ ys) ≡ named_at n xs
found-left n [] ys other = missing n ys other
found-left n (x ∷ xs) ys other = elim (cases_eq x.name n) [
  | inl e ↦ item_here name_of n x (xs ++ ys) e ∙ sym (item_here name_of n x xs e)
  | inr other_name ↦ item_past name_of n x (xs ++ ys) other_name ∙ found-left n xs ys other
      ∙ sym (item_past name_of n x xs other_name)
]

found-right : (n : ℕ) (xs ys : List Named) → All (λ x. x.name ≢ n) xs
    → named_at n (xs ++ ys) ≡ named_at n ys
found-right n [] ys other = refl
found-right n (x ∷ xs) ys other =
    item_past name_of n x (xs ++ ys) (All-head (λ y. y.name ≢ n) x xs other)
    ∙ found-right n xs ys (All-tail (λ y. y.name ≢ n) x xs other)

entered-left : (x : Named) (xs ys : List Named) → All (λ y. x.name < y.name) ys
    → with_name x (xs ++ ys) ≡ with_name x xs ++ ys
entered-left x [] ys after = entered-first x ys after
entered-left x (z ∷ xs) ys after = elim (cases_lt x.name z.name) [
  | inl lt ↦ entered_here name_of x z (xs ++ ys) lt
      ∙ sym (ap (λ zs. zs ++ ys) (entered_here name_of x z xs lt))
  | inr le ↦ entered_past name_of x z (xs ++ ys) le
      ∙ ap (λ zs. z ∷ zs) (entered-left x xs ys after)
      ∙ sym (ap (λ zs. zs ++ ys) (entered_past name_of x z xs le))
]

entered-right : (x : Named) (xs ys : List Named) → All (λ y. y.name < x.name) xs
    → with_name x (xs ++ ys) ≡ xs ++ with_name x ys
entered-right x [] ys before = refl
entered-right x (z ∷ xs) ys before =
    entered_past name_of x z (xs ++ ys)
    (let lt = All-head (λ y. y.name < x.name) z xs before in omega (arith, lt))
    ∙ ap (λ zs. z ∷ zs) (entered-right x xs ys (All-tail (λ y. y.name < x.name) z xs before))

gone-left : (n : ℕ) (xs ys : List Named) → All (λ y. y.name ≢ n) ys
    → without_name n (xs ++ ys) ≡ without_name n xs ++ ys
gone-left n xs ys other = filter-append _ xs ys
    ∙ ap (λ zs. without_name n xs ++ zs) (without_none name_of n ys other)

gone-right : (n : ℕ) (xs ys : List Named) → All (λ x. x.name ≢ n) xs
    → without_name n (xs ++ ys) ≡ xs ++ without_name n ys
gone-right n xs ys other = filter-append _ xs ys
    ∙ ap (λ zs. zs ++ without_name n ys) (without_none name_of n xs other)

-- the names of places lie between their first one and their number after it
held-before : (first : ℕ) (spots : Group)
    → All (λ x. x.name < first + length spots) (held_from first spots)
held-before first [] = All-nil (λ x. x.name < first + 0)
held-before first (None ∷ spots) =
    All-weaker (λ x. x.name < first + 1 + length spots)
    (λ x. x.name < first + length (None ∷ spots)) (λ x lt. omega (arith, lt))
    (held_from (first + 1) spots) (held-before (first + 1) spots)
held-before first (Some spot ∷ spots) =
    All-cons (λ x. x.name < first + length (Some spot ∷ spots))
    (record { name = first; spot = spot }) (held_from (first + 1) spots) (omega arith)
    (All-weaker (λ x. x.name < first + 1 + length spots)
    (λ x. x.name < first + length (Some spot ∷ spots)) (λ x lt. omega (arith, lt))
    (held_from (first + 1) spots) (held-before (first + 1) spots))

-- and those of groups after their first one
in-after : (first : ℕ) (groups : List Group) → All (λ x. first ≤ x.name) (held_in first groups)
in-after first [] = All-nil (λ x. first ≤ x.name)
in-after first (g ∷ gs) = All-append (λ x. first ≤ x.name) (held_from first g)
    (held_in (first + GROUP) gs) (held-after first g)
    (All-weaker (λ x. first + GROUP ≤ x.name) (λ x. first ≤ x.name) (λ x le. omega (arith, le))
    (held_in (first + GROUP) gs) (in-after (first + GROUP) gs))

size-most : (group : Group) → IsGroup group → length group ≤ GROUP
size-most [] is = omega arith
size-most (spot ∷ spots) is = let all = is (λ e. absurd cc) in omega (arith, all)

-- a first group and those after it: its names come before a name that is after the group, and
-- theirs after a name that is in it
module _ (name first : ℕ) (g : Group) (gs : List Group) where
  earlier : IsGroup g → first + GROUP ≤ name → All (λ x. x.name < name) (held_from first g)
  earlier is le = All-weaker (λ x. x.name < first + length g) (λ x. x.name < name)
      (λ x lt. omega (arith, lt, le, size-most g is)) (held_from first g) (held-before first g)

  earlier-other : IsGroup g → first + GROUP ≤ name → All (λ x. x.name ≢ name) (held_from first g)
  earlier-other is le = All-weaker (λ x. x.name < name) (λ x. x.name ≢ name)
      (λ x lt same. omega (arith, lt, same)) (held_from first g) (earlier is le)

  later : name < first + GROUP → All (λ x. name < x.name) (held_in (first + GROUP) gs)
  later lt = All-weaker (λ x. first + GROUP ≤ x.name) (λ x. name < x.name)
      (λ x le. omega (arith, le, lt)) (held_in (first + GROUP) gs) (in-after (first + GROUP) gs)

  later-other : name < first + GROUP → All (λ x. x.name ≢ name) (held_in (first + GROUP) gs)
  later-other lt = All-weaker (λ x. name < x.name) (λ x. x.name ≢ name)
      (λ x le same. omega (arith, le, same)) (held_in (first + GROUP) gs) (later lt)

-- what stands at the place of a name is where its block begins
pub spot-in : (name first i j : ℕ) (gs : List Group) → All IsGroup gs → name ≡ first + GROUP * i + j
    → j < GROUP → spot_named name (held_in first gs) ≡ get_or (get_or gs i []) j None
spot-in name first i j [] are e lt = refl
spot-in name first zero j (g ∷ gs) are e lt =
    ap (option_map (λ (x : Named). x.spot)) (found-left name (held_from first g)
    (held_in (first + GROUP) gs) (later-other name first g gs (omega (arith, e, lt))))
    ∙ spot-held name first j g (omega (arith, e))
spot-in name first (suc i) j (g ∷ gs) are e lt =
    ap (option_map (λ (x : Named). x.spot)) (found-right name (held_from first g)
    (held_in (first + GROUP) gs) (earlier-other name first g gs (All-head IsGroup g gs are)
    (omega (arith, e))))
    ∙ spot-in name (first + GROUP) i j gs (All-tail IsGroup g gs are) (omega (arith, e)) lt

-- a spot at the empty place of a name enters the name
pub hold-in : (name first i j : ℕ) (spot : Spot) (gs : List Group) → All IsGroup gs
    → name ≡ first + GROUP * i + j → j < GROUP → i < length gs → j < length (get_or gs i [])
    → get_or (get_or gs i []) j None ≡ None
    → held_in first (set gs i (set (get_or gs i []) j (Some spot)))
    ≡ with_name (record { name = name; spot = spot }) (held_in first gs)
hold-in name first i j spot [] are e lt within place free = absurd (omega (arith, within))
hold-in name first zero j spot (g ∷ gs) are e lt within place free =
    ap (λ xs. xs ++ held_in (first + GROUP) gs)
    (hold-held name first j spot g (omega (arith, e)) place free)
    ∙ sym (entered-left (record { name = name; spot = spot }) (held_from first g)
    (held_in (first + GROUP) gs) (later name first g gs (omega (arith, e, lt))))
hold-in name first (suc i) j spot (g ∷ gs) are e lt within place free =
    ap (λ xs. held_from first g ++ xs) (hold-in name (first + GROUP) i j spot gs
    (All-tail IsGroup g gs are) (omega (arith, e)) lt (omega (arith, within)) place free)
    ∙ sym (entered-right (record { name = name; spot = spot }) (held_from first g)
    (held_in (first + GROUP) gs)
    (earlier name first g gs (All-head IsGroup g gs are) (omega (arith, e))))

-- emptying the place of a name takes the name out
pub let-go-in : (name first i j : ℕ) (gs : List Group) → All IsGroup gs
    → name ≡ first + GROUP * i + j → j < GROUP
    → held_in first (set gs i (set (get_or gs i []) j None))
    ≡ without_name name (held_in first gs)
let-go-in name first i j [] are e lt = refl
let-go-in name first zero j (g ∷ gs) are e lt =
    ap (λ xs. xs ++ held_in (first + GROUP) gs) (let-go-held name first j g (omega (arith, e)))
    ∙ sym (gone-left name (held_from first g) (held_in (first + GROUP) gs)
    (later-other name first g gs (omega (arith, e, lt))))
let-go-in name first (suc i) j (g ∷ gs) are e lt =
    ap (λ xs. held_from first g ++ xs) (let-go-in name (first + GROUP) i j gs
    (All-tail IsGroup g gs are) (omega (arith, e)) lt)
    ∙ sym (gone-right name (held_from first g) (held_in (first + GROUP) gs)
    (earlier-other name first g gs (All-head IsGroup g gs are) (omega (arith, e))))

-- where a group without places gets empty ones no name is held more
pub make-in : (first i n : ℕ) (gs : List Group) → get_or gs i [] ≡ []
    → held_in first (set gs i (replicate n None)) ≡ held_in first gs
make-in first i n [] none = refl
make-in first zero n (g ∷ gs) none = ap (λ xs. xs ++ held_in (first + GROUP) gs)
    (held-none first n ∙ sym (ap (held_from first) none))
make-in first (suc i) n (g ∷ gs) none =
    ap (λ xs. held_from first g ++ xs) (make-in (first + GROUP) i n gs none)

-- no name is held in groups of empty places
pub none-in : (first n size : ℕ) → held_in first (replicate n (replicate size None)) ≡ []
none-in first zero size = refl
none-in first (suc n) size = ap (λ xs. xs ++ held_in (first + GROUP) (replicate n
    (replicate size None))) (held-none first size) ∙ none-in (first + GROUP) n size

-- a name that has a place has it in a whole group
pub place-size : (i : ℕ) (gs : List Group) → All IsGroup gs → get_or (places_in gs) i false ≡ true
    → (i < length gs) × (length (get_or gs i []) ≡ GROUP)
place-size i [] are has = absurd cc
place-size zero ([] ∷ gs) are has = absurd cc
place-size zero ((spot ∷ spots) ∷ gs) are has =
    (omega arith, All-head IsGroup (spot ∷ spots) gs are (λ e. absurd cc))
place-size (suc i) (g ∷ gs) are has =
    let later = place-size i gs (All-tail IsGroup g gs are) has in
    (omega (arith, later.0), later.1)

-- a sum over the held names, group by group
pub sum-in : (f : Spot → ℕ) (first : ℕ) (vs : List (Vec (Option Spot) Global))
    → sum_by (λ x. f x.spot) (held_in first (map (λ g. g.items) vs))
    ≡ sum_by (λ g. sum_by (λ s. option_map_or f s 0) g.items) vs
sum-in f first [] = refl
sum-in f first (g ∷ gs) =
    sum_by-append (λ x. f x.spot) (held_from first g.items)
    (held_in (first + GROUP) (map (λ h. h.items) gs))
    ∙ ap (λ n. n + sum_by (λ x. f x.spot) (held_in (first + GROUP) (map (λ h. h.items) gs)))
    (sum-held f first g.items)
    ∙ ap (λ n. sum_by (λ s. option_map_or f s 0) g.items + n) (sum-in f (first + GROUP) gs)
    ∙ sym (sum_by-cons (λ h. sum_by (λ s. option_map_or f s 0) h.items) g gs)

set-places : (i : ℕ) (w : Group) (gs : List Group) → has_places w ≡ has_places (get_or gs i [])
    → places_in (set gs i w) ≡ places_in gs
set-places i w gs same = map-set_same has_places gs i w [] same

get-is : (i : ℕ) (gs : List Group) → All IsGroup gs → IsGroup (get_or gs i [])
get-is i [] are = λ some. absurd (some refl)
get-is zero (g ∷ gs) are = All-head IsGroup g gs are
get-is (suc i) (g ∷ gs) are = get-is i gs (All-tail IsGroup g gs are)

-- at one of its places
item-is : (j : ℕ) (x : Option Spot) (g : Group) → IsGroup g → IsGroup (set g j x)
item-is j x [] is = is
item-is j x (s ∷ ss) is = λ some. length-set (s ∷ ss) j x ∙ is (λ e. absurd cc)

item-has : (j : ℕ) (x : Option Spot) (g : Group) → has_places (set g j x) ≡ has_places g
item-has j x [] = refl
item-has zero x (s ∷ ss) = refl
item-has (suc j) x (s ∷ ss) = refl

-- each place is there where each group has places
pub all-places : (i n : ℕ) → i < n
    → get_or (places_in (replicate n (replicate GROUP None))) i false ≡ true
all-places i zero lt = absurd (omega (arith, lt))
all-places zero (suc n) lt = refl
all-places (suc i) (suc n) lt = all-places i n (omega (arith, lt))

abbrev pub items_of : List (Vec (Option Spot) Global) → List Group
items_of vs = map (λ g. g.items) vs

pub groups-length : (vs : List (Vec (Option Spot) Global)) → length (items_of vs) ≡ length vs
groups-length vs = length-map vs (λ (g : Vec (Option Spot) Global). g.items)

pub groups-most : (vs : List (Vec (Option Spot) Global)) → All IsGroup (items_of vs)
    → All (λ g. length g.items ≤ GROUP) vs
groups-most [] are = All-nil (λ (g : Vec (Option Spot) Global). length g.items ≤ GROUP)
groups-most (v ∷ vs) are =
    All-cons (λ (g : Vec (Option Spot) Global). length g.items ≤ GROUP) v vs
    (size-most v.items (All-head IsGroup v.items (items_of vs) are))
    (groups-most vs (All-tail IsGroup v.items (items_of vs) are))

-- a group of a table
module _ (vs : List (Vec (Option Spot) Global)) (i : ℕ) (v : Vec (Option Spot) Global)
    (within : i < length vs) (at : v ≡ get_or vs i v) where
  pub group-at : v.items ≡ get_or (items_of vs) i []
  group-at = ap (λ (g : Vec (Option Spot) Global). g.items) at
      ∙ sym (get_or-map (λ (g : Vec (Option Spot) Global). g.items) vs i v [] within)

  pub group-full : All IsGroup (items_of vs) → v.items ≢ [] → length v.items ≡ GROUP
  group-full are = subst IsGroup (sym group-at) (get-is i (items_of vs) are)

  -- one of its places is written to
  module _ (j : ℕ) (x : Option Spot) where
    abbrev written : List (Vec (Option Spot) Global)
    written = set vs i (with_item v j x)

    pub item-length : length written ≡ length vs
    item-length = length-set vs i (with_item v j x)

    pub item-groups : items_of written ≡ set (items_of vs) i (set (get_or (items_of vs) i []) j x)
    item-groups = map-set (λ (g : Vec (Option Spot) Global). g.items) vs i (with_item v j x)
        ∙ ap (λ g. set (items_of vs) i (set g j x)) group-at

    pub item-are : All IsGroup (items_of vs) → All IsGroup (items_of written)
    item-are are = subst (All IsGroup) (sym item-groups)
        (All-set IsGroup (items_of vs) i (set (get_or (items_of vs) i []) j x)
        (item-is j x (get_or (items_of vs) i []) (get-is i (items_of vs) are)) are)

    pub item-places : places_in (items_of written) ≡ places_in (items_of vs)
    item-places = ap places_in item-groups
        ∙ set-places i (set (get_or (items_of vs) i []) j x) (items_of vs)
        (item-has j x (get_or (items_of vs) i []))

-- whether a group is empty
no-items : (g : Group) → length g ≡ 0 → g ≡ []
no-items [] none = refl
no-items (s ∷ ss) none = absurd (omega (arith, none))

has-some : (g : Group) → g ≢ [] → has_places g ≡ true
has-some [] some = absurd (some refl)
has-some (s ∷ ss) some = refl

module _ (v : Vec (Option Spot) Global) where
  is-empty : true ≡ (vec_len v == 0) → v.items ≡ []
  is-empty is = no-items v.items (omega (arith, eqb-true (vec_len v) 0 (sym is), v.ok.0))

  pub not-empty : false ≡ (vec_len v == 0) → v.items ≢ []
  not-empty is none =
      let zero_long : vec_len v ≡ 0 = omega (arith, ap length none, v.ok.0) in
      let never : false ≡ true = is ∙ ap (λ n. n == 0) zero_long in cc

-- where a place is made, those that there are stay
place-kept : (i k : ℕ) (places : List Bool) → get_or places k false ≡ true
    → get_or (set places i true) k false ≡ true
place-kept i k [] has = has
place-kept zero zero (p ∷ ps) has = refl
place-kept zero (suc k) (p ∷ ps) has = has
place-kept (suc i) zero (p ∷ ps) has = has
place-kept (suc i) (suc k) (p ∷ ps) has = place-kept i k ps has

-- a group of a table, which has no places
module _ (vs : List (Vec (Option Spot) Global)) (i : ℕ) (v : Vec (Option Spot) Global)
    (within : i < length vs) (at : v ≡ get_or vs i v) where
  module _ (empty : true ≡ (vec_len v == 0)) where
    none-at : get_or (items_of vs) i [] ≡ []
    none-at = sym (group-at vs i v within at) ∙ is-empty v empty

    -- so its names aren't held
    module _ (name j : ℕ) (are : All IsGroup (items_of vs)) (e : name ≡ GROUP * i + j)
        (lt : j < GROUP) where
      pub none-named : None ≡ spot_named name (held_in 0 (items_of vs))
      none-named = sym (spot-in name 0 i j (items_of vs) are (omega (arith, e)) lt
          ∙ ap (λ g. get_or g j None) none-at)

      pub none-gone : held_in 0 (items_of vs) ≡ without_name name (held_in 0 (items_of vs))
      none-gone = ap (held_in 0) (sym (set-get_or (items_of vs) i []))
          ∙ ap (λ g. held_in 0 (set (items_of vs) i g)) none-at
          ∙ ap (λ g. held_in 0 (set (items_of vs) i (set g j None))) (sym none-at)
          ∙ let-go-in name 0 i j (items_of vs) are (omega (arith, e)) lt

    -- it gets places
    module _ (w : Vec (Option Spot) Global) (places : w.items ≡ replicate GROUP None) where
      made : items_of (set vs i w) ≡ set (items_of vs) i (replicate GROUP None)
      made = map-set (λ (g : Vec (Option Spot) Global). g.items) vs i w
          ∙ ap (set (items_of vs) i) places

      pub made-are : All IsGroup (items_of vs) → All IsGroup (items_of (set vs i w))
      made-are are = subst (All IsGroup) (sym made) (All-set IsGroup (items_of vs) i
          (replicate GROUP None) (λ some. length-replicate {A = Option Spot} GROUP None) are)

      pub made-held : held_in 0 (items_of (set vs i w)) ≡ held_in 0 (items_of vs)
      made-held = ap (held_in 0) made ∙ make-in 0 i GROUP (items_of vs) none-at

      pub made-places : places_in (items_of (set vs i w)) ≡ set (places_in (items_of vs)) i true
      made-places = ap places_in made ∙ map-set has_places (items_of vs) i (replicate GROUP None)

      pub made-place : get_or (places_in (items_of (set vs i w))) i false ≡ true
      made-place = ap (λ ps. get_or ps i false) made-places
          ∙ get_or-set_same (places_in (items_of vs)) i true false (omega (
            arith,
            within,
            groups-length vs,
            length-map (items_of vs) has_places,
          ))

      pub made-kept : (k : ℕ) → get_or (places_in (items_of vs)) k false ≡ true
          → get_or (places_in (items_of (set vs i w))) k false ≡ true
      made-kept k has = ap (λ ps. get_or ps k false) made-places
          ∙ place-kept i k (places_in (items_of vs)) has

  -- or has them already
  module _ (some : false ≡ (vec_len v == 0)) where
    pub place-there : get_or (places_in (items_of vs)) i false ≡ true
    place-there = get_or-map has_places (items_of vs) i [] false
        (omega (arith, within, groups-length vs))
        ∙ ap has_places (sym (group-at vs i v within at)) ∙ has-some v.items (not-empty v some)

    pub places-there : places_in (items_of vs) ≡ set (places_in (items_of vs)) i true
    places-there = sym (set-get_or (places_in (items_of vs)) i false)
        ∙ ap (set (places_in (items_of vs)) i) place-there

pub no-places : (n : ℕ) → places_in (replicate n []) ≡ replicate n false
no-places zero = refl
no-places (suc n) = ap (λ ps. false ∷ ps) (no-places n)
