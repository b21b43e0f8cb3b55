-- The positions after a gap was put in or taken out.
use Rattle.std.proofs.Common.{◌≡◌, ◌≢◌, ℕ, ◌+◌, ◌-◌, ◌^◌, ◌<◌, ◌≤◌, List, [], ◌∷◌, ◌++◌, length}
use Rattle.std.proofs.Common.{get_or, set}
use Rattle.std.proofs.Common.{map, sym, ap, ◌∙◌, subst, inl, inr, arith}
use Rattle.std.specs.Prelude.{Option, Some, None, option_map, All, AllPairs, Contains, IfSome}
use Rattle.std.specs.Prelude.{IsNone, IsTrue}
use Rattle.std.proofs.Math.Seq.{get_or-append_seam, set-append_seam}
use Rattle.std.proofs.lemmas.Bool.{cases_eq}
use Rattle.std.proofs.lemmas.List.{get_or_default, get_or-set_other, get_or-set_same}
use Rattle.std.proofs.lemmas.List.{get_or_append_left}
use Rattle.std.proofs.lemmas.List.{length-map, length-set, length_push, map-append, map-set}
use Rattle.std.proofs.lemmas.List.Elements.{All-nil, All-cons, All-head, All-tail, All-push}
use Rattle.std.proofs.lemmas.List.Elements.{All-weaker, All-contains_itself}
use Rattle.std.proofs.lemmas.List.Kept.{AllPairs-cons}
use Rattle.std.proofs.lemmas.List.Quantifiers.{all_pairs_push}
use Rattle.ea_model.specs.Keyed.{entered, without}
use Rattle.ea_model.proofs.Merged.{entered-All, entered-pairs}
use Rattle.ea_model.proofs.First.{both_All}
use Rattle.ea_model.proofs.Pairs.{pairs_head, pairs_nil, pairs_tail}
use Rattle.ea_model.proofs.Rising.{All-entered, length-entered, rising-entered}
use Rattle.ea_keytree.specs.declared.tree.Found.{Found}
use Rattle.ea_keytree.specs.Keys.{IsFirstFrom, KeysHeld}
use Rattle.ea_goodfit.specs.declared.gaps.BinnedGap.{BinnedGap}
use Rattle.ea_goodfit.specs.declared.fits.Fit.{Fit}
use Rattle.ea_goodfit.specs.Gaps.{address_of, is_held, HeldGaps, IsBelow}
use Rattle.ea_goodfit.specs.Keys.{AreHeld, IsNext, by_address, key_of}
use Rattle.ea_goodfit.proofs.KeyOrder.{key_of-apart}
use Rattle.ea_goodfit.proofs.Positioned.{at-by_address, at-keyed, by_address-at, by_address-left}
use Rattle.ea_goodfit.proofs.Positioned.{by_address-more}
use Rattle.ea_goodfit.proofs.Positioned.{by_address-place, by_address-put, by_address-take}
use Rattle.ea_goodfit.proofs.Positioned.{keyed-at, keyed-new}

-- the numbers before the last one
module _ (P : ℕ → Type 0) where
  before_last : (xs : List ℕ) (y : ℕ) → All P (xs ++ y ∷ []) → All P xs
  before_last [] y a = All-nil P
  before_last (x ∷ xs) y a = All-cons P x xs (All-head P x (xs ++ y ∷ []) a)
      (before_last xs y (All-tail P x (xs ++ y ∷ []) a))

  of_last : (xs : List ℕ) (y : ℕ) → All P (xs ++ y ∷ []) → P y
  of_last [] y a = All-head P y [] a
  of_last (x ∷ xs) y a = of_last xs y (All-tail P x (xs ++ y ∷ []) a)

module _ (R : ℕ → ℕ → Type 0) where
  pairs_before_last : (xs : List ℕ) (y : ℕ) → AllPairs R (xs ++ y ∷ []) → AllPairs R xs
  pairs_before_last [] y p = pairs_nil R
  pairs_before_last (x ∷ xs) y p =
      AllPairs-cons R x xs (before_last (R x) xs y (pairs_head R x (xs ++ y ∷ []) p))
      (pairs_before_last xs y (pairs_tail R x (xs ++ y ∷ []) p))

  pairs_with_last : (xs : List ℕ) (y : ℕ) → AllPairs R (xs ++ y ∷ []) → All (λ x. R x y) xs
  pairs_with_last [] y p = All-nil (λ x. R x y)
  pairs_with_last (x ∷ xs) y p =
      All-cons (λ z. R z y) x xs (of_last (R x) xs y (pairs_head R x (xs ++ y ∷ []) p))
      (pairs_with_last xs y (pairs_tail R x (xs ++ y ∷ []) p))

none_is_not_some : {A : Type 0} (o : Option A) (x : A) → o ≡ None → o ≢ Some x
none_is_not_some o x e f = absurd cc

some_is_not_none : (o : Option BinnedGap) (g : BinnedGap) → IsNone o → o ≡ Some g → ⊥
some_is_not_none None g n e = absurd cc
some_is_not_none (Some x) g n e = absurd cc

-- the fields of a view
pub view-same : (fit next : Fit) (held rest : List BinnedGap) (room left : ℕ) → fit ≡ next
    → held ≡ rest → room ≡ left
    → ◌≡◌ {A = HeldGaps} (record { fit = fit; held = held; room = room })
    (record { fit = next; held = rest; room = left })
view-same fit next held rest room left e f g =
    ap (λ x. record { fit = x; held = held; room = room }) e
    ∙ ap (λ x. record { fit = next; held = x; room = room }) f
    ∙ ap (λ x. record { fit = next; held = rest; room = x }) g

-- positions that are given otherwise
pub AreHeld-same : (fit : Fit) (reserved : ℕ) (t : KeysHeld) (gs now : List (Option BinnedGap))
    (free left : List ℕ) (a b k l : ℕ) → now ≡ gs → left ≡ free → b ≡ a → l ≡ k
    → AreHeld fit reserved t gs free a k → AreHeld fit reserved t now left b l
AreHeld-same fit reserved t gs now free left a b k l same_gaps same_free same_a same_k h =
    subst (λ n. AreHeld fit reserved t now left b n) (sym same_k)
    (subst (λ n. AreHeld fit reserved t now left n k) (sym same_a)
    (subst (λ ns. AreHeld fit reserved t now ns a k) (sym same_free)
    (subst (λ xs. AreHeld fit reserved t xs free a k) (sym same_gaps) h)))

module _ (fit : Fit) (reserved : ℕ) (t : KeysHeld) (gs : List (Option BinnedGap)) (free : List ℕ)
    (gaps_capacity free_capacity : ℕ)
    (h : AreHeld fit reserved t gs free gaps_capacity free_capacity) where
  -- no position has the key of a gap of another address
  pub new_key : (g : BinnedGap) → g.address < 2 ^ 32
      → All (λ x. x.address ≢ g.address) (by_address gs)
      → All (λ o. o ≢ Some (key_of fit g)) t.keys
  new_key g bounded new =
      subst (All (λ o. o ≢ Some (key_of fit g))) (sym h.keys)
      (keyed-new (key_of fit) (key_of fit g) gs
      (both_All (λ x. x.address < 2 ^ 32) (λ x. x.address ≢ g.address)
      (λ x. key_of fit x ≢ key_of fit g) (λ x b n. key_of-apart fit x g b bounded n)
      (by_address gs) h.bounded new))

  -- nor has one more, which has none
  pub new_key_more : (g : BinnedGap) → g.address < 2 ^ 32
      → All (λ x. x.address ≢ g.address) (by_address gs) → (n : ℕ) → n ≡ key_of fit g
      → (ks : List (Option ℕ)) → ks ≡ t.keys ++ None ∷ [] → All (λ o. o ≢ Some n) ks
  new_key_more g bounded new n is ks more =
      subst (All (λ o. o ≢ Some n)) (sym more)
      (All-push (λ o. o ≢ Some n) t.keys None
      (subst (λ m. All (λ o. o ≢ Some m) t.keys) (sym is) (new_key g bounded new)) (λ e. absurd cc))

  -- a position has the key of a gap that is held
  pub held_key : (g : BinnedGap) → IsTrue (is_held g (by_address gs))
      → Contains t.keys (Some (key_of fit g))
  held_key g held =
      let place = by_address-place gs g held in
      let key : get_or t.keys place.0 None ≡ Some (key_of fit g) =
      ap (λ ks. get_or ks place.0 None) h.keys ∙ at-keyed (key_of fit) gs place.0
      ∙ ap (option_map (key_of fit)) place.2 in
      contained t.keys place.0 None (Some (key_of fit g))
      (omega (arith, ap length h.keys, length-map gs (option_map (key_of fit)), place.1)) key where
        contained : (ks : List (Option ℕ)) (p : ℕ) (d k : Option ℕ) → p < length ks
            → get_or ks p d ≡ k → Contains ks k
        contained ks p d k within e = (p, within, get_or_default ks p k d within ∙ e)

  -- the gap of a position that has a key
  pub gap_at : (p : ℕ) (n : ℕ) → get_or t.keys p None ≡ Some n
      → (g : BinnedGap) × (get_or gs p None ≡ Some g) × (key_of fit g ≡ n)
  gap_at p n there = keyed-at (key_of fit) gs p n (ap (λ ks. get_or ks p None) (sym h.keys) ∙ there)

  pub key_within : (p : ℕ) → p < length t.keys → p < length gs
  key_within p within = omega
      (arith, ap length h.keys, length-map gs (option_map (key_of fit)), within)

  no_key : (p : ℕ) → get_or gs p None ≡ None → get_or t.keys p None ≡ None
  no_key p empty = ap (λ ks. get_or ks p None) h.keys ∙ at-keyed (key_of fit) gs p
      ∙ ap (option_map (key_of fit)) empty

  keys-length : length t.keys ≡ length gs
  keys-length = ap length h.keys ∙ length-map gs (option_map (key_of fit))

  -- the last free position, which is there and has no key
  pub last_free : (p : ℕ) (fs : List ℕ) → free ≡ fs ++ p ∷ []
      → (p < length gs) × (p < length t.keys) × (get_or t.keys p None ≡ None)
  last_free p fs ends =
      let within : p < length gs = of_last (λ q. q < length gs) fs p
      (subst (All (λ q. q < length gs)) ends h.within) in (
        within,
        omega (arith, keys-length, within),
        no_key p (of_last (λ q. get_or gs q None ≡ None) fs p
            (subst (All (λ q. get_or gs q None ≡ None)) ends h.empty)),
      )

  -- a new position is there and has no key
  pub new_free : (p : ℕ) (ks : List (Option ℕ)) → ks ≡ t.keys ++ None ∷ [] → p ≡ length gs
      → (p < length ks) × (get_or ks p None ≡ None)
  new_free p ks more at =
      let is : p ≡ length t.keys = at ∙ sym keys-length in
      let none : Option ℕ = None in (
        omega (arith, is, ap length more, length_push t.keys none),
        ap (λ xs. get_or xs p None) more
            ∙ ap (λ q. get_or (t.keys ++ None ∷ []) q None) is
            ∙ get_or-append_seam t.keys None [] None,
      )

  key_at : (p : ℕ) (g : BinnedGap) → get_or gs p None ≡ Some g
      → get_or t.keys p None ≡ Some (key_of fit g)
  key_at p g there = ap (λ ks. get_or ks p None) h.keys ∙ at-keyed (key_of fit) gs p
      ∙ ap (option_map (key_of fit)) there

  -- where a key was found, its position has a gap
  pub next_some : (bound : ℕ) (f : Found) (o : Option BinnedGap) → IsFirstFrom bound t.keys f
      → o ≡ get_or gs f.position o → IsNone o → ⊥
  next_some bound f o first at none =
      let g = gap_at f.position f.key first.held in
      some_is_not_none o g.0 none
      (at ∙ get_or_default gs f.position o None (key_within f.position first.within) ∙ g.1)

  -- the gap of the least of the keys from the bound on
  pub next_gap : (bound : ℕ) (f : Found) (o : Option BinnedGap) → IsFirstFrom bound t.keys f
      → o ≡ get_or gs f.position o → IfSome o (IsNext fit bound (by_address gs))
  next_gap bound f o first at =
      let g = gap_at f.position f.key first.held in
      let is : o ≡ Some g.0 = at
      ∙ get_or_default gs f.position o None (key_within f.position first.within) ∙ g.1 in
      let next : IsNext fit bound (by_address gs) g.0 = record {
        among = by_address-at (Contains (by_address gs)) gs f.position g.0
            (All-contains_itself (by_address gs)) g.1;
        great = subst (λ n. bound ≤ n) (sym g.2) first.great;
        least = at-by_address (λ x. bound ≤ key_of fit x → key_of fit g.0 ≤ key_of fit x) gs
            (λ q x e le. subst (λ n. n ≤ key_of fit x) (sym g.2)
            (first.least q (key_of fit x) (key_at q x e) le));
      } in
      subst (λ r. IfSome r (IsNext fit bound (by_address gs))) (sym is) next

  -- where all keys are below the bound
  pub none_next : (bound : ℕ) → ((q k : ℕ) → get_or t.keys q None ≡ Some k → k < bound)
      → All (λ g. key_of fit g < bound) (by_address gs)
  none_next bound less = at-by_address (λ g. key_of fit g < bound) gs
      (λ q g e. less q (key_of fit g) (key_at q g e))

  -- where it has the key of a gap that is held, that gap lies at its address
  pub same_address : (p : ℕ) (g x : BinnedGap) → IsTrue (is_held g (by_address gs))
      → get_or gs p None ≡ Some x → key_of fit x ≡ key_of fit g → x.address ≡ g.address
  same_address p g x held there same =
      let place = by_address-place gs g held in
      let bound = λ (q : ℕ) (y : BinnedGap) (e : get_or gs q None ≡ Some y).
      by_address-at (λ z. z.address < 2 ^ 32) gs q y h.bounded e in
      elim (cases_eq x.address g.address) [
        | inl e ↦ e
        | inr n ↦ absurd (key_of-apart fit x g (bound p x there) (bound place.0 g place.2) n same)
      ]

  -- with a gap at a position that was free
  module _ (p : ℕ) (g : BinnedGap) (fs : List ℕ) (ends : free ≡ fs ++ p ∷ [])
      (bounded : g.address < 2 ^ 32) (new : All (λ x. x.address ≢ g.address) (by_address gs))
      (u : KeysHeld) (n : ℕ) (is : n ≡ key_of fit g)
      (keyed : u ≡ record { width = t.width; keys = set t.keys p (Some n); room = t.room }) where
    pub put-held : by_address (set gs p (Some g)) ≡ entered address_of g (by_address gs)
    put-held =
        by_address-put gs p g (last_free p fs ends).0
        (of_last (λ q. get_or gs q None ≡ None) fs p
        (subst (All (λ q. get_or gs q None ≡ None)) ends h.empty)) new

    others_once : All (λ q. q ≢ p) fs
    others_once = pairs_with_last (λ q r. q ≢ r) fs p
        (subst (AllPairs (λ q r. q ≢ r)) ends h.once)

    pub put-AreHeld : AreHeld fit reserved u (set gs p (Some g)) fs gaps_capacity free_capacity
    put-AreHeld =
        let one : Option BinnedGap = Some g in
        let long = length-set gs p one in
        record {
          width = ap (λ (s : KeysHeld). s.width) keyed ∙ h.width;
          keys = ap (λ (s : KeysHeld). s.keys) keyed
              ∙ ap (λ m. set t.keys p (Some m)) is
              ∙ ap (λ ks. set ks p (Some (key_of fit g))) h.keys
              ∙ sym (map-set (option_map (key_of fit)) gs p one);
          rising = subst (AllPairs IsBelow) (sym put-held)
              (rising-entered address_of g (by_address gs) h.rising new);
          bounded = subst (All (λ x. x.address < 2 ^ 32)) (sym put-held)
              (All-entered address_of (λ x. x.address < 2 ^ 32) g (by_address gs) bounded
              h.bounded);
          empty = both_All (λ q. q ≢ p) (λ q. get_or gs q None ≡ None)
              (λ q. get_or (set gs p one) q None ≡ None)
              (λ q n e. get_or-set_other gs p q one None n ∙ e) fs others_once
              (before_last (λ q. get_or gs q None ≡ None) fs p
              (subst (All (λ q. get_or gs q None ≡ None)) ends h.empty));
          within = subst (λ n. All (λ q. q < n) fs) (sym long)
              (before_last (λ q. q < length gs) fs p
              (subst (All (λ q. q < length gs)) ends h.within));
          once = pairs_before_last (λ q r. q ≢ r) fs p
              (subst (AllPairs (λ q r. q ≢ r)) ends h.once);
          count = omega (
            arith,
            h.count,
            ap length ends,
            length_push fs p,
            ap length put-held,
            length-entered address_of g (by_address gs),
            long,
          );
          few = omega (arith, h.few, long);
          tree_room = omega (arith, h.tree_room, ap (λ (s : KeysHeld). s.room) keyed);
          gaps_room = omega (arith, h.gaps_room, long);
          free_room = omega (arith, h.free_room, long);
        }

  -- with a gap at a new position
  module _ (g : BinnedGap) (bounded : g.address < 2 ^ 32)
      (new : All (λ x. x.address ≢ g.address) (by_address gs)) (v u : KeysHeld)
      (width : v.width ≡ t.width) (more : v.keys ≡ t.keys ++ None ∷ [])
      (room : v.room + 1 ≡ t.room) (p n : ℕ) (at : p ≡ length gs) (is : n ≡ key_of fit g)
      (keyed : u ≡ record { width = v.width; keys = set v.keys p (Some n); room = v.room })
      (free_some : 0 < reserved) where
    pub more-held : by_address (gs ++ Some g ∷ []) ≡ entered address_of g (by_address gs)
    more-held = by_address-more gs g new

    one_more : (ks : List (Option ℕ)) (n : ℕ) (k : Option ℕ) → length ks ≡ n
        → set (ks ++ None ∷ []) n k ≡ ks ++ k ∷ []
    one_more ks n k e = ap (λ m. set (ks ++ None ∷ []) m k) (sym e) ∙ set-append_seam ks None [] k

    pub more-AreHeld : AreHeld fit (reserved - 1) u (gs ++ Some g ∷ []) free gaps_capacity
        free_capacity
    more-AreHeld =
        let one : Option BinnedGap = Some g in
        let long = length_push gs one in
        record {
          width = ap (λ (s : KeysHeld). s.width) keyed ∙ width ∙ h.width;
          keys = ap (λ (s : KeysHeld). s.keys) keyed
              ∙ ap (λ q. set v.keys q (Some n)) at
              ∙ ap (λ m. set v.keys (length gs) (Some m)) is
              ∙ ap (λ ks. set ks (length gs) (Some (key_of fit g)))
              (more ∙ ap (λ ks. ks ++ None ∷ []) h.keys)
              ∙ one_more (map (option_map (key_of fit)) gs) (length gs) (Some (key_of fit g))
              (length-map gs (option_map (key_of fit)))
              ∙ sym (map-append (option_map (key_of fit)) gs (one ∷ []));
          rising = subst (AllPairs IsBelow) (sym more-held)
              (rising-entered address_of g (by_address gs) h.rising new);
          bounded = subst (All (λ x. x.address < 2 ^ 32)) (sym more-held)
              (All-entered address_of (λ x. x.address < 2 ^ 32) g (by_address gs) bounded
              h.bounded);
          empty = both_All (λ q. q < length gs) (λ q. get_or gs q None ≡ None)
              (λ q. get_or (gs ++ one ∷ []) q None ≡ None)
              (λ q lt e. get_or_append_left gs (one ∷ []) None q lt ∙ e) free h.within h.empty;
          within = All-weaker (λ q. q < length gs) (λ q. q < length (gs ++ one ∷ []))
              (λ q lt. omega (arith, lt, long)) free h.within;
          once = h.once;
          count = omega (
            arith,
            h.count,
            ap length more-held,
            length-entered address_of g (by_address gs),
            long,
          );
          few = omega (arith, h.few, long);
          tree_room = omega (arith, h.tree_room, room, ap (λ (s : KeysHeld). s.room) keyed);
          gaps_room = omega (arith, h.gaps_room, long);
          free_room = omega (arith, h.free_room, long);
        }

  -- without the gap of a position
  module _ (p : ℕ) (g : BinnedGap) (a : ℕ) (within : p < length gs)
      (there : get_or gs p None ≡ Some g) (at : g.address ≡ a) (u : KeysHeld)
      (keyed : u ≡ record { width = t.width; keys = set t.keys p None; room = t.room }) where
    pub take-held : by_address (set gs p None) ≡ without address_of a (by_address gs)
    take-held = by_address-take gs p a g there at h.rising

    left : by_address gs ≡ entered address_of g (by_address (set gs p None))
    left = by_address-left gs p g there h.rising

    -- there is room to free it
    pub take-count : length free < length gs
    take-count = omega
        (arith, h.count, ap length left, length-entered address_of g (by_address (set gs p None)))

    pub take-AreHeld : AreHeld fit reserved u (set gs p None) (free ++ p ∷ []) gaps_capacity
        free_capacity
    take-AreHeld =
        let none : Option BinnedGap = None in
        let long = length-set gs p none in
        let others : All (λ q. q ≢ p) free = All-weaker (λ q. get_or gs q None ≡ None) (λ q. q ≢ p)
        (λ q e same. none_is_not_some (get_or gs q None) g e
        (ap (λ r. get_or gs r None) same ∙ there)) free h.empty in
        record {
          width = ap (λ (s : KeysHeld). s.width) keyed ∙ h.width;
          keys = ap (λ (s : KeysHeld). s.keys) keyed ∙ ap (λ ks. set ks p None) h.keys
              ∙ sym (map-set (option_map (key_of fit)) gs p none);
          rising = entered-pairs address_of IsBelow g (by_address (set gs p None))
              (subst (AllPairs IsBelow) left h.rising);
          bounded = (entered-All address_of (λ x. x.address < 2 ^ 32) g
              (by_address (set gs p None))
              (subst (All (λ x. x.address < 2 ^ 32)) left h.bounded)).1;
          empty = All-push (λ q. get_or (set gs p none) q None ≡ None) free p
              (both_All (λ q. q ≢ p) (λ q. get_or gs q None ≡ None)
              (λ q. get_or (set gs p none) q None ≡ None)
              (λ q n e. get_or-set_other gs p q none None n ∙ e) free others h.empty)
              (get_or-set_same gs p none None within);
          within = All-push (λ q. q < length (set gs p none)) free p
              (All-weaker (λ q. q < length gs) (λ q. q < length (set gs p none))
              (λ q lt. omega (arith, lt, long)) free h.within) (omega (arith, within, long));
          once = all_pairs_push (λ q r. q ≢ r) free p h.once others;
          count = omega (
            arith,
            h.count,
            length_push free p,
            ap length left,
            length-entered address_of g (by_address (set gs p None)),
            long,
          );
          few = omega (arith, h.few, long);
          tree_room = omega (arith, h.tree_room, ap (λ (s : KeysHeld). s.room) keyed);
          gaps_room = omega (arith, h.gaps_room, long);
          free_room = omega (arith, h.free_room, long);
        }
