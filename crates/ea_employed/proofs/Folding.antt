-- Choosing carrier by carrier is choosing among all gaps.
use Rattle.std.proofs.Common.{◌≡◌, ℕ, Bool, false, cond, List, [], ◌∷◌, fold}
use Rattle.std.proofs.Common.{filter, map, refl, sym, ◌∙◌, ap, inl, inr, arith}
use Rattle.std.specs.Prelude.{Option, Some, None}
use Rattle.std.specs.Prelude.{option_map, nat_le}
use Rattle.std.specs.Cmp.{IsStrictWeakOrder}
use Rattle.std.proofs.lemmas.Bool.{cases_Bool, cond-true, cond-false}
use Rattle.std.proofs.lemmas.List.Sums.{fold-append}
use Rattle.std.proofs.lemmas.List.Elements.{filter-append}
use Rattle.ea_model.specs.declared.carriers.Gap.{Gap}
use Rattle.ea_model.specs.declared.carriers.Candidate.{Candidate}
use Rattle.ea_model.specs.declared.settings.Strategy.{Strategy}
use Rattle.ea_model.specs.declared.settings.Strategy.TheVariants.{Bf, Aobf, Aoff, AoffCbf}
use Rattle.ea_model.specs.declared.settings.Strategy.TheVariants.{AoffCaobf, AgeffCaoff}
use Rattle.ea_model.specs.declared.settings.Strategy.TheVariants.{AgeffCbf, AgeffCaobf, Gf, Af}
use Rattle.ea_model.specs.Content.{Content, gaps_of}
use Rattle.ea_model.specs.Choice.{before, better, first, fitting, choice}
use Rattle.ea_laws.proofs.Orders.{takes_first-order}
use Rattle.ea_model.specs.Strategies.{candidate, candidates, candidates_in}
use Rattle.ea_model.specs.Strategies.{takes_first, inner_of, large_enough}
use Rattle.ea_model.specs.declared.carriers.Inner.TheVariants as inner
use Rattle.ea_employed.specs.Better.{better_of}

-- inside a carrier a strategy goes by its inner order
same_bf : (c : Content) (g h : Gap)
    → takes_first Bf (candidate c g) (candidate c h) ≡ before (inner_of Bf) g h
same_bf c g h = grind arith

same_aobf : (c : Content) (g h : Gap)
    → takes_first Aobf (candidate c g) (candidate c h) ≡ before (inner_of Aobf) g h
same_aobf c g h = grind arith

same_aoff : (c : Content) (g h : Gap)
    → takes_first Aoff (candidate c g) (candidate c h) ≡ before (inner_of Aoff) g h
same_aoff c g h = grind arith

same_aoffcbf : (c : Content) (g h : Gap)
    → takes_first AoffCbf (candidate c g) (candidate c h) ≡ before (inner_of AoffCbf) g h
same_aoffcbf c g h = grind arith

same_aoffcaobf : (c : Content) (g h : Gap)
    → takes_first AoffCaobf (candidate c g) (candidate c h) ≡ before (inner_of AoffCaobf) g h
same_aoffcaobf c g h = grind arith

same_ageffcaoff : (c : Content) (g h : Gap)
    → takes_first AgeffCaoff (candidate c g) (candidate c h) ≡ before (inner_of AgeffCaoff) g h
same_ageffcaoff c g h = grind arith

same_ageffcbf : (c : Content) (g h : Gap)
    → takes_first AgeffCbf (candidate c g) (candidate c h) ≡ before (inner_of AgeffCbf) g h
same_ageffcbf c g h = grind arith

same_ageffcaobf : (c : Content) (g h : Gap)
    → takes_first AgeffCaobf (candidate c g) (candidate c h) ≡ before (inner_of AgeffCaobf) g h
same_ageffcaobf c g h = grind arith

same_inside : (s : Strategy) (c : Content) (g h : Gap)
    → takes_first s (candidate c g) (candidate c h) ≡ before (inner_of s) g h
same_inside Bf = same_bf
same_inside Aobf = same_aobf
same_inside Aoff = same_aoff
same_inside AoffCbf = same_aoffcbf
same_inside AoffCaobf = same_aoffcaobf
same_inside AgeffCaoff = same_ageffcaoff
same_inside AgeffCbf = same_ageffcbf
same_inside AgeffCaobf = same_ageffcaobf
same_inside Gf = same_aobf
same_inside Af = same_aoff

-- the first of what a function makes is made of the first
better-map : {A B : Type 0} (f : A → B) (b : A → A → Bool) (t : B → B → Bool)
    → ((x y : A) → t (f x) (f y) ≡ b x y) → (best x : A)
    → cond (t (f x) (f best)) (f x) (f best) ≡ f (cond (b x best) x best)
better-map f b t same best x =
    elim (cases_Bool (b x best)) [
      | inl first_wins ↦ cond-true (t (f x) (f best)) (f x) (f best) (same x best ∙ first_wins)
          ∙ sym (ap f (cond-true (b x best) x best first_wins))
      | inr loses ↦ cond-false (t (f x) (f best)) (f x) (f best) (same x best ∙ loses)
          ∙ sym (ap f (cond-false (b x best) x best loses))
    ]

pub fold-better-map : {A B : Type 0} (f : A → B) (b : A → A → Bool) (t : B → B → Bool)
    → ((x y : A) → t (f x) (f y) ≡ b x y) → (best : Option A) (xs : List A)
    → fold (better t) (option_map f best) (map f xs) ≡ option_map f (fold (better b) best xs)
fold-better-map f b t same best [] = refl
fold-better-map f b t same None (x ∷ xs) = fold-better-map f b t same (Some x) xs
fold-better-map f b t same (Some y) (x ∷ xs) =
    ap (λ z. fold (better t) (Some z) (map f xs)) (better-map f b t same y x)
    ∙ fold-better-map f b t same (Some (cond (b x y) x y)) xs

filter-map_more : {A B : Type 0} (f : A → B) (p : B → Bool) (x : A) (xs : List A)
    → filter p (map f xs) ≡ map f (filter (λ y. p (f y)) xs)
    → filter p (map f (x ∷ xs)) ≡ map f (filter (λ y. p (f y)) (x ∷ xs))
filter-map_more f p x xs more =
    elim (cases_Bool (p (f x))) [
      | inl first_wins ↦ cond-true (p (f x)) (f x ∷ filter p (map f xs)) (filter p (map f xs))
          first_wins ∙ ap (λ l. f x ∷ l) more
          ∙ sym (ap (map f)
          (cond-true (p (f x)) (x ∷ filter (λ y. p (f y)) xs) (filter (λ y. p (f y)) xs)
          first_wins))
      | inr loses ↦ cond-false (p (f x)) (f x ∷ filter p (map f xs)) (filter p (map f xs)) loses
          ∙ more ∙ sym
          (ap (map f)
          (cond-false (p (f x)) (x ∷ filter (λ y. p (f y)) xs) (filter (λ y. p (f y)) xs) loses))
    ]

-- what passes of what a function makes is made of what passes
pub filter-map : {A B : Type 0} (f : A → B) (p : B → Bool) (xs : List A)
    → filter p (map f xs) ≡ map f (filter (λ y. p (f y)) xs)
filter-map f p [] = refl
filter-map f p (x ∷ xs) = filter-map_more f p x xs (filter-map f p xs)

-- the first candidate of a carrier is its chosen gap
first_inside : (s : Strategy) (need : ℕ) (c : Content)
    → first (takes_first s) (large_enough need (map (candidate c) (gaps_of c))) ≡ option_map
    (candidate c) (choice (inner_of s) need (gaps_of c))
first_inside s need c =
    ap (first (takes_first s)) (filter-map (candidate c) (λ x. nat_le need x.size) (gaps_of c))
    ∙ fold-better-map (candidate c) (before (inner_of s)) (takes_first s) (same_inside s c) None
    (fitting need (gaps_of c))

module _ {A : Type 0} (t : A → A → Bool) (o : IsStrictWeakOrder t) where
  -- of three the first: it does not matter which two are compared first
  three : (b x z : A)
      → cond (t z (cond (t x b) x b)) z (cond (t x b) x b) ≡ cond (t (cond (t z x) z x) b)
      (cond (t z x) z x) b
  three b x z =
      elim (cases_Bool (t x b)) [
        | inl xb ↦ elim (cases_Bool (t z x)) [
          | inl zx ↦ elim (cases_Bool (t z b)) [
            | inl zb ↦ rw (xb, zx, zb) refl
            | inr zb ↦ absurd (let f : t z x ≡ false = o.chain z b x zb (o.one_way x b xb) in cc)
          ]
          | inr zx ↦ rw (xb, zx, xb) refl
        ]
        | inr xb ↦ elim (cases_Bool (t z x)) [
          | inl zx ↦ rw (xb, zx) refl
          | inr zx ↦ (let zb : t z b ≡ false = o.chain z x b zx xb in rw (xb, zx, zb, xb) refl)
        ]
      ]

  step_in : (b x : A) (m : Option A)
      → better_of t (Some (cond (t x b) x b)) m ≡ better_of t (Some b) (better_of t (Some x) m)
  step_in b x None = refl
  step_in b x (Some z) = ap Some (three b x z)

  fold-from_some : (b : A) (xs : List A)
      → fold (better t) (Some b) xs ≡ better_of t (Some b) (first t xs)
  fold-from_some b [] = refl
  fold-from_some b (x ∷ xs) =
      fold-from_some (cond (t x b) x b) xs ∙ step_in b x (first t xs)
      ∙ ap (better_of t (Some b)) (sym (fold-from_some x xs))

  none_first : (m : Option A) → m ≡ better_of t None m
  none_first None = refl
  none_first (Some x) = refl

  -- going on from the best so far is comparing it with the first of the rest
  pub fold-from : (best : Option A) (xs : List A)
      → fold (better t) best xs ≡ better_of t best (first t xs)
  fold-from None xs = none_first (first t xs)
  fold-from (Some b) xs = fold-from_some b xs

-- one carrier more
pub choice_more : (s : Strategy) (need : ℕ) (best : Option Candidate) (c : Content)
    (cs : List Content) → candidates_in c.kind c ≡ map (candidate c) (gaps_of c)
    → fold (better (takes_first s)) best (large_enough need (candidates (c ∷ cs))) ≡ fold
    (better (takes_first s))
    (better_of (takes_first s) best
    (option_map (candidate c) (choice (inner_of s) need (gaps_of c))))
    (large_enough need (candidates cs))
choice_more s need best c cs shared =
    ap (fold (better (takes_first s)) best)
    (filter-append (λ x. nat_le need x.size) (candidates_in c.kind c) (candidates cs))
    ∙ fold-append (better (takes_first s)) best (large_enough need (candidates_in c.kind c))
    (large_enough need (candidates cs))
    ∙ ap (λ r. fold (better (takes_first s)) r (large_enough need (candidates cs)))
    (fold-from (takes_first s) (takes_first-order s) best
    (large_enough need (candidates_in c.kind c))
    ∙ ap (better_of (takes_first s) best)
    (ap (λ xs. first (takes_first s) (large_enough need xs)) shared ∙ first_inside s need c))
