-- Given names that are read off words, one by one.
use Rattle.std.proofs.Common.{◌≡◌, ◌≢◌, ℕ, zero, suc, ◌+◌, ◌<◌, ◌≤◌, List, [], ◌∷◌, Option, None}
use Rattle.std.proofs.Common.{Some, slice_index, refl, sym, ap, ◌∙◌, subst, inl, inr, arith}
use Rattle.std.specs.Prelude.{All, AllPairs, option_map}
use mathlib.Core.Option.{some, some-injective, some-ne-none}
use lib.ListN.{get_elem?}
use Rattle.std.proofs.lemmas.Bool.{cases_eq, cases_lt}
use Rattle.std.proofs.lemmas.List.Elements.{All-head, All-tail, All-weaker}
use Rattle.ea_model.proofs.Pairs.{pairs_head, pairs_tail}
use Rattle.ea_model.specs.declared.carriers.Spot.{Spot}
use Rattle.ea_model.specs.Keyed.{IsBelow}
use Rattle.ea_model.proofs.Rising.{item_at-new, item_at-old, item_here}
use Rattle.ea_model.proofs.Rising.{item_past, none-other, rising-entered}
use Rattle.ea_machine.specs.declared.nodes.Named.{Named}
use Rattle.ea_machine.specs.declared.nodes.Node.{Node}
use Rattle.ea_machine.specs.Nodes.{spot_named, with_name, name_of}
use Rattle.ea_sound.proofs.Asked.{unnamed-spot}
use Rattle.ea_table.specs.Ending.{AreGiven, Gives}
use Rattle.ea_table.specs.Words.{block_spot, given_code, name_at}
use Rattle.ea_table.proofs.Told.{Decodes, name-told}

pub element-index : (ws : List ℕ) (i a : ℕ) → get_elem? ws i ≡ some a → slice_index ws i ≡ a
element-index [] i a q = absurd (some-ne-none a (sym q))
element-index (w ∷ ws) zero a q = some-injective w a q
element-index (w ∷ ws) (suc i) a q = element-index ws i a q

spot-here : (x : Named) (xs : List Named) → spot_named x.name (x ∷ xs) ≡ Some x.spot
spot-here x xs = ap (option_map (λ (y : Named). y.spot)) (item_here name_of x.name x xs refl)

spot-past : (m : ℕ) (x : Named) (xs : List Named) → x.name ≢ m
    → spot_named m (x ∷ xs) ≡ spot_named m xs
spot-past m x xs other = ap (option_map (λ (y : Named). y.spot)) (item_past name_of m x xs other)

-- a name that is lower than all isn't found
spot-lower : (m : ℕ) (xs : List Named) → All (λ x. m < x.name) xs → spot_named m xs ≡ None
spot-lower m [] low = refl
spot-lower m (x ∷ xs) low =
    spot-past m x xs (λ q. omega (arith, q, All-head (λ y. m < y.name) x xs low))
    ∙ spot-lower m xs (All-tail (λ y. m < y.name) x xs low)

abbrev Rising : List Named → Type 0
Rising xs = AllPairs (IsBelow name_of) xs

later : (x : Named) (xs : List Named) → Rising (x ∷ xs) → All (λ y. x.name < y.name) xs
later x xs rising = pairs_head (IsBelow name_of) x xs rising

rest : (x : Named) (xs : List Named) → Rising (x ∷ xs) → Rising xs
rest x xs rising = pairs_tail (IsBelow name_of) x xs rising

-- two lists by rising name in which each name has the same spot are the same
pub same-names : (xs ys : List Named) → Rising xs → Rising ys
    → ((m : ℕ) → spot_named m xs ≡ spot_named m ys) → xs ≡ ys
same-names [] [] r s same = refl
same-names [] (y ∷ ys) r s same = absurd (let never = same y.name ∙ spot-here y ys in cc)
same-names (x ∷ xs) [] r s same = absurd (let never = sym (same x.name) ∙ spot-here x xs in cc)
same-names (x ∷ xs) (y ∷ ys) r s same =
    ap (λ zs. x ∷ zs) (same-names xs ys (rest x xs r) (rest y ys s) (λ m. tails m))
    ∙ ap (λ (z : Named). z ∷ ys) (both name spot) where
      not-below : (z w : Named) (zs ws : List Named) → Rising (w ∷ ws)
          → spot_named z.name (z ∷ zs) ≡ spot_named z.name (w ∷ ws) → z.name < w.name → ⊥
      not-below z w zs ws rise q less =
          let low = All-weaker (λ v. w.name < v.name) (λ v. z.name < v.name)
          (λ v more. omega (arith, less, more)) ws (later w ws rise) in
          let none = spot-past z.name w ws (λ e. omega (arith, e, less))
          ∙ spot-lower z.name ws low in
          let never : Some z.spot ≡ None = sym (spot-here z zs) ∙ q ∙ none in
          cc

      name : x.name ≡ y.name
      name = elim (cases_lt x.name y.name) [
        | inl less ↦ absurd (not-below x y xs ys s (same x.name) less)
        | inr more ↦ elim (cases_lt y.name x.name) [
          | inl less ↦ absurd (not-below y x ys xs r (sym (same y.name)) less)
          | inr most ↦ omega (arith, more, most)
        ]
      ]

      spot : x.spot ≡ y.spot
      spot =
          let is : Some x.spot ≡ Some y.spot = sym (spot-here x xs) ∙ same x.name
          ∙ ap (λ m. spot_named m (y ∷ ys)) name ∙ spot-here y ys in
          cc

      both : x.name ≡ y.name → x.spot ≡ y.spot → x ≡ y
      both p q = λ i. record { name = p i; spot = q i }

      tails : (m : ℕ) → spot_named m xs ≡ spot_named m ys
      tails m = elim (cases_eq x.name m) [
        | inl e ↦ subst (λ k. spot_named k xs ≡ spot_named k ys) e
            (spot-lower x.name xs (later x xs r)
            ∙ sym (ap (λ k. spot_named k ys) name ∙ spot-lower y.name ys (later y ys s)))
        | inr other ↦ sym (spot-past m x xs other) ∙ same m
            ∙ spot-past m y ys (λ e. other (name ∙ e))
      ]

module _ (n g : ℕ) (ws : List ℕ) where
  -- the names up to k were read
  pub record AreRead (k : ℕ) (names : List Named) : Type 0 where
    pub rising : Rising names
    pub zero : spot_named 0 names ≡ None
    pub none : (m : ℕ) → k < m → spot_named m names ≡ None
    pub same : (given : List Named) → Gives n g ws given → (m : ℕ) → 1 ≤ m → m ≤ k
        → spot_named m names ≡ spot_named m given

  pub none-read : AreRead 0 []
  none-read = record {
    rising = AllPairs-nil;
    zero = refl;
    none = λ m less. refl;
    same = λ given is m low high. absurd (omega (arith, low, high));
  } where
    AllPairs-nil : Rising []
    AllPairs-nil = λ i j d less within. absurd (omega (arith, within))

  -- the word of the next name was decoded
  module _ (k word : ℕ) (names : List Named) (are : AreRead k names) (less : k < g)
      (found : slice_index ws (name_at n g (k + 1)) ≡ word) (node : Option Node)
      (decodes : Decodes word node) where
    told : (given : List Named) → Gives n g ws given
        → block_spot node ≡ spot_named (k + 1) given
    told given is = by (spot_named (k + 1) given) refl where
      by : (o : Option Spot) → spot_named (k + 1) given ≡ o → block_spot node ≡ o
      by None q = ap block_spot (name-told (k + 1) None word node
          (coded ∙ ap (given_code (k + 1)) q, tt) decodes)
        where
          coded : word ≡ given_code (k + 1) (spot_named (k + 1) given)
          coded = sym found ∙ is.words (k + 1) (omega arith) (omega (arith, less))
      by (Some p) q = ap block_spot (name-told (k + 1) (Some p) word node
          (coded ∙ ap (given_code (k + 1)) q, is.codable (k + 1) p q) decodes)
        where
          coded : word ≡ given_code (k + 1) (spot_named (k + 1) given)
          coded = sym found ∙ is.words (k + 1) (omega arith) (omega (arith, less))

    pub not-yet : spot_named (k + 1) names ≡ None
    not-yet = are.none (k + 1) (omega arith)

    pub one-less : block_spot node ≡ None → AreRead (k + 1) names
    one-less none = record {
      rising = are.rising;
      zero = are.zero;
      none = λ m more. are.none m (omega (arith, more));
      same = λ given is m low high. elim (cases_eq m (k + 1)) [
        | inl q ↦ subst (λ j. spot_named j names ≡ spot_named j given) (sym q)
            (not-yet ∙ sym none ∙ told given is)
        | inr other ↦ are.same given is m low (omega (arith, high, other))
      ];
    }

    pub one-more : (spot : Spot) → block_spot node ≡ Some spot
        → AreRead (k + 1) (with_name (record { name = k + 1; spot = spot }) names)
    one-more spot found_it = record {
      rising = rising-entered name_of x names are.rising others;
      zero = elsewhere 0 (λ q. omega (arith, q)) ∙ are.zero;
      none = λ m more. elsewhere m (λ q. omega (arith, q, more)) ∙ are.none m (omega (arith, more));
      same = λ given is m low high. elim (cases_eq m (k + 1)) [
        | inl q ↦ subst (λ j. spot_named j (with_name x names) ≡ spot_named j given) (sym q)
            (ap (option_map (λ (y : Named). y.spot)) (item_at-new name_of x names others)
            ∙ sym found_it ∙ told given is)
        | inr other ↦ elsewhere m other ∙ are.same given is m low (omega (arith, high, other))
      ];
    } where
      x : Named
      x = record { name = k + 1; spot = spot }

      others : All (λ y. y.name ≢ k + 1) names
      others = none-other name_of (k + 1) names (unnamed-spot (k + 1) names not-yet)

      elsewhere : (m : ℕ) → m ≢ k + 1 → spot_named m (with_name x names) ≡ spot_named m names
      elsewhere m other =
          ap (option_map (λ (y : Named). y.spot)) (item_at-old name_of m x names other)

  -- all names were read
  pub all-read : (names : List Named) → AreRead g names → AreGiven n g ws names
  all-read names are given is = same-names names given are.rising is.rising by where
    beyond : (m : ℕ) → ((1 ≤ m) × (m ≤ g) → ⊥) → spot_named m given ≡ None
    beyond m out = missing given is.within where
      missing : (xs : List Named) → All (λ x. (1 ≤ x.name) × (x.name ≤ g)) xs
          → spot_named m xs ≡ None
      missing [] all = refl
      missing (x ∷ xs) all =
          let first = All-head (λ y. (1 ≤ y.name) × (y.name ≤ g)) x xs all in
          spot-past m x xs (λ q. out (omega (arith, first, q)))
          ∙ missing xs (All-tail (λ y. (1 ≤ y.name) × (y.name ≤ g)) x xs all)

    by : (m : ℕ) → spot_named m names ≡ spot_named m given
    by zero = are.zero ∙ sym (beyond 0 (λ in_range. omega (arith, in_range.0)))
    by (suc m) = elim (cases_lt g (suc m)) [
      | inl past ↦ are.none (suc m) past
          ∙ sym (beyond (suc m) (λ in_range. omega (arith, in_range.1, past)))
      | inr most ↦ are.same given is (suc m) (omega arith) most
    ]

pub missing-spot : (o : Option Spot) → ((p : Spot) → o ≡ Some p → ⊥) → o ≡ None
missing-spot None not = refl
missing-spot (Some p) not = absurd (not p refl)
