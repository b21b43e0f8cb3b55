-- Places of names: where the first name that passes a test stands, and what is left without it.
use Rattle.std.proofs.Common.{◌≡◌, ℕ, ◌+◌, ◌<◌, ◌≤◌, zero, suc, inl, inr, Bool, true, false, cond}
use Rattle.std.proofs.Common.{◌==◌, not, List, [], ◌∷◌, ◌++◌, Option, Some, None, length, get_or}
use Rattle.std.proofs.Common.{set, take, drop, refl, sym, ap, subst, ◌∙◌, arith}
use Rattle.std.specs.List.{find, position_or_len}
use Rattle.std.proofs.lemmas.Bool.{cases_eq, cond-false, cond-true, eq-eqb}
use Rattle.std.proofs.lemmas.List.{drop_more, set_split, take-append-drop, take_all}
use Rattle.std.proofs.lemmas.List.Sums.{fails_before_first, passes_at_first, prefix_len-le-length}
use Rattle.ea_gen.specs.Generated.{front, without}
use Rattle.ea_gen.specs.Places.{less, names_in}

pub names_push : (ps : List (Option ℕ)) (k : ℕ)
    → names_in (ps ++ Some k ∷ []) ≡ names_in ps ++ k ∷ []
names_push [] k = refl
names_push (None ∷ ps) k = names_push ps k
names_push (Some j ∷ ps) k = ap (λ ks. j ∷ ks) (names_push ps k)

pub front_is : (ks : List ℕ) → find (λ k. true) ks ≡ front ks
front_is [] = refl
front_is (k ∷ ks) = refl

-- none of these places has a name that passes
abbrev Without : (ℕ → Bool) → List (Option ℕ) → Type 0
Without q [] = Unit {0}
Without q (None ∷ ps) = Without q ps
Without q (Some k ∷ ps) = (q k ≡ false) × Without q ps

different : (q : ℕ → Bool) (j k : ℕ) → q j ≡ false → q k ≡ true → (j == k) ≡ false
different q j k f t = grind arith

module _ (q : ℕ → Bool) where
  found : (ps rest : List (Option ℕ)) (k : ℕ) → Without q ps → q k ≡ true
      → find q (names_in (ps ++ Some k ∷ rest)) ≡ Some k
  found [] rest k h t = cond-true (q k) (Some k) (find q (names_in rest)) t
  found (None ∷ ps) rest k h t = found ps rest k h t
  found (Some j ∷ ps) rest k h t = cond-false (q j) (Some j)
      (find q (names_in (ps ++ Some k ∷ rest))) h.0 ∙ found ps rest k h.1 t

  left : (ps rest : List (Option ℕ)) (k : ℕ) → Without q ps → q k ≡ true
      → names_in (ps ++ None ∷ rest) ≡ without k (names_in (ps ++ Some k ∷ rest))
  left [] rest k h t = sym (cond-true (k == k) (names_in rest) (k ∷ without k (names_in rest))
      (eq-eqb k k refl))
  left (None ∷ ps) rest k h t = left ps rest k h t
  left (Some j ∷ ps) rest k h t = ap (λ ks. j ∷ ks) (left ps rest k h.1 t)
      ∙ sym (cond-false (j == k) (names_in (ps ++ Some k ∷ rest))
      (j ∷ without k (names_in (ps ++ Some k ∷ rest))) (different q j k h.0 t))

  nobody : (ps : List (Option ℕ)) → Without q ps → find q (names_in ps) ≡ None
  nobody [] h = refl
  nobody (None ∷ ps) h = nobody ps h
  nobody (Some k ∷ ps) h = cond-false (q k) (Some k) (find q (names_in ps)) h.0 ∙ nobody ps h.1

-- the first place
module _ (p : Option ℕ → Bool) where
  fails : (b : Bool) (n i : ℕ) → suc i ≤ cond (not b) (1 + n) 0 → (b ≡ false) × (i ≤ n)
  fails true n i h = absurd (omega arith)
  fails false n i h = (refl, omega arith)

  pub further : (ps : List (Option ℕ)) (i : ℕ) (d : Option ℕ) → i < length ps
      → p (get_or ps i d) ≡ false → i ≤ position_or_len p ps → i + 1 ≤ position_or_len p ps
  further ps i d lt f le = elim (cases_eq i (position_or_len p ps)) [
    | inl e ↦ let t : p (get_or ps i d) ≡ true = subst (λ j. p (get_or ps j d) ≡ true) (sym e)
        (passes_at_first p ps d (omega arith)) in absurd cc
    | inr n ↦ omega (arith, n)
  ]

  pub reached : (ps : List (Option ℕ)) (i : ℕ) (d : Option ℕ) → p (get_or ps i d) ≡ true
      → i ≤ position_or_len p ps → i ≡ position_or_len p ps
  reached ps i d t le = elim (cases_eq i (position_or_len p ps)) [
    | inl e ↦ e
    | inr n ↦ let f = fails_before_first p ps i d (omega (arith, n)) in absurd cc
  ]

  pub ended : (ps : List (Option ℕ)) → length ps ≤ position_or_len p ps
      → length ps ≡ position_or_len p ps
  ended ps le = omega (arith, prefix_len-le-length (λ x. not (p x)) ps)

  kept : (a b : Bool) (m n : ℕ) → (b ≡ true → a ≡ true) → m ≤ n
      → cond (not a) (1 + m) 0 ≤ cond (not b) (1 + n) 0
  kept true b m n h le = omega arith
  kept false true m n h le = let e : false ≡ true = h refl in absurd cc
  kept false false m n h le = omega arith

  -- where a place is emptied, the first one comes no earlier
  pub later : p None ≡ false → (ps : List (Option ℕ)) (i : ℕ)
      → position_or_len p ps ≤ position_or_len p (set ps i None)
  later none [] i = omega arith
  later none (x ∷ ps) zero = kept (p x) (p None) (position_or_len p ps) (position_or_len p ps)
      (λ t. absurd cc) (omega arith)
  later none (x ∷ ps) (suc i) = kept (p x) (p x) (position_or_len p ps)
      (position_or_len p (set ps i None)) (λ t. t) (later none ps i)

  module _ (q : ℕ → Bool) (same : (k : ℕ) → p (Some k) ≡ q k) where
    before : (ps : List (Option ℕ)) (i : ℕ) → i ≤ position_or_len p ps → Without q (take i ps)
    before ps zero h = tt
    before [] (suc i) h = tt
    before (None ∷ ps) (suc i) h = before ps i (fails (p None) (position_or_len p ps) i h).1
    before (Some k ∷ ps) (suc i) h =
        let f = fails (p (Some k)) (position_or_len p ps) i h in
        (sym (same k) ∙ f.0, before ps i f.1)

    pub none_found : (ps : List (Option ℕ)) → length ps ≤ position_or_len p ps
        → find q (names_in ps) ≡ None
    none_found ps le = nobody q ps (subst (Without q) (take_all (length ps) ps (omega arith))
        (before ps (length ps) le))

    whole : (ps : List (Option ℕ)) (i : ℕ) (x : Option ℕ) → i < length ps → x ≡ get_or ps i x
        → ps ≡ take i ps ++ x ∷ drop (i + 1) ps
    whole ps i x lt e = sym (take-append-drop i ps) ∙ ap (λ xs. take i ps ++ xs)
        (drop_more ps i x lt ∙ ap (λ y. y ∷ drop (i + 1) ps) (sym e))

    emptied : (ps : List (Option ℕ)) (i : ℕ) → i < length ps
        → set ps i None ≡ take i ps ++ None ∷ drop (i + 1) ps
    emptied ps i lt = let e : suc i ≡ i + 1 = omega arith in
        set_split ps i None lt ∙ ap (λ j. take i ps ++ None ∷ drop j ps) e

    -- the name at the first place is the first that passes, and is taken out
    pub taken_out : p None ≡ false → (ps : List (Option ℕ)) (i : ℕ) (x : Option ℕ)
        → i ≡ position_or_len p ps → i < length ps → x ≡ get_or ps i x
        → (x ≡ find q (names_in ps)) × (names_in (set ps i None) ≡ less x (names_in ps))
    taken_out none ps i None at lt e =
        let t : p (get_or ps i None) ≡ true = subst (λ j. p (get_or ps j None) ≡ true) (sym at)
        (passes_at_first p ps None (omega arith)) in
        let f : p (get_or ps i None) ≡ false = subst (λ y. p y ≡ false) e none in
        absurd cc
    taken_out none ps i (Some k) at lt e =
        let t : p (get_or ps i (Some k)) ≡ true =
        subst (λ j. p (get_or ps j (Some k)) ≡ true) (sym at)
        (passes_at_first p ps (Some k) (omega arith)) in
        let passes : q k ≡ true = sym (same k) ∙ subst (λ y. p y ≡ true) (sym e) t in
        let none_before = before ps i (omega arith) in
        let all = whole ps i (Some k) lt e in (
          sym (ap (λ xs. find q (names_in xs)) all
              ∙ found q (take i ps) (drop (i + 1) ps) k none_before passes),
          ap names_in (emptied ps i lt)
              ∙ left q (take i ps) (drop (i + 1) ps) k none_before passes
              ∙ sym (ap (λ xs. without k (names_in xs)) all),
        )
