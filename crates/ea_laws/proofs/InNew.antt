-- Where there was no choice, the choice with a new carrier lies in that carrier.
use Rattle.std.proofs.Common.{◌≡◌, ℕ, ◌+◌, ◌<◌, ◌≤◌, Bool, true, false, List, [], ◌∷◌, ◌++◌, length}
use Rattle.std.proofs.Common.{filter, get_or, append_assoc, length-append, sym, ap, ◌∙◌, subst}
use Rattle.std.proofs.Common.{refl, inl, inr, ◌⊎◌, arith}
use Rattle.std.specs.Prelude.{Option, Some, None, IfSome, IsNone, nat_le, All, AllPairs, Contains}
use Rattle.std.specs.Prelude.{option_map}
use Rattle.std.proofs.lemmas.Bool.{cases_Bool, cases_lt, cases_order, cond-false, cond-true}
use Rattle.std.proofs.lemmas.Bool.{leb-true, lt-ltb, ltb-false, ltb-true, true≢false}
use Rattle.std.proofs.lemmas.List.Elements.{All-cons, All-contains, All-contains_itself, All-filter}
use Rattle.std.proofs.lemmas.List.Elements.{All-head, All-nil, All-tail, All-weaker}
use Rattle.std.proofs.lemmas.List.Elements.{at_from_Contains, Contains-append_cases}
use Rattle.std.proofs.lemmas.List.Elements.{Contains-append_left, Contains-append_right}
use Rattle.std.proofs.lemmas.List.Elements.{filter-append, filter_passes}
use Rattle.ea_model.specs.declared.carriers.Candidate.{Candidate}
use Rattle.ea_model.specs.declared.carriers.CarrierPlan.{CarrierPlan}
use Rattle.ea_model.specs.declared.carriers.Kind.TheVariants.{Multi}
use Rattle.ea_model.specs.declared.carriers.Spot.{Spot}
use Rattle.ea_model.specs.declared.settings.Settings.{Settings}
use Rattle.ea_model.specs.declared.settings.Strategy.{Strategy}
use Rattle.ea_model.specs.declared.settings.Strategy.TheVariants.{Bf, Aobf, Aoff, AoffCbf}
use Rattle.ea_model.specs.declared.settings.Strategy.TheVariants.{AoffCaobf, AgeffCaoff, AgeffCbf}
use Rattle.ea_model.specs.declared.settings.Strategy.TheVariants.{AgeffCaobf, Gf, Af}
use Rattle.ea_model.specs.Choice.{first, IsFirst}
use Rattle.ea_model.specs.Content.{Content, is_empty_multi}
use Rattle.ea_model.specs.GoodFit.{is_ahead, is_inspected}
use Rattle.ea_model.specs.Instance.{Instance, chosen_spot, created_content, creating, with_content}
use Rattle.ea_model.specs.Strategies.{candidates, candidates_in, choice_among, choice_for}
use Rattle.ea_model.specs.Strategies.{choice_empty, inspected_by, large_enough, lower, may_miss}
use Rattle.ea_model.specs.Strategies.{only, or_else, spot_of, takes_first}
use Rattle.ea_model.proofs.First.{first-All, first-IsFirst, first-none}
use Rattle.ea_model.proofs.Options.{if_some, some_holds, some_map, unmapped}
use Rattle.ea_model.proofs.Rising.{All-entered, entered_here, entered_past}
use Rattle.ea_laws.specs.Kept.{number_of, Stands}
use Rattle.ea_laws.proofs.Candidates.{IsElsewhere, candidates-distinct, candidates_All, in_kind}
use Rattle.ea_laws.proofs.Orders.{lower-order}
use Rattle.ea_laws.proofs.Refusals.{choice-none}
use Rattle.ea_laws.proofs.Standing.{multi-apart}

-- what holds of those that pass a test holds of each one that passes
of_passing : {A : Type 0} (p : A → Bool) (P : A → Type 0) (xs : List A) → All P (filter p xs)
    → All (λ x. p x ≡ true → P x) xs
of_passing p P [] h = All-nil (λ x. p x ≡ true → P x)
of_passing p P (x ∷ xs) h =
    elim (cases_Bool (p x)) [
      | inl t ↦
          let k = subst (All P) (cond-true (p x) (x ∷ filter p xs) (filter p xs) t) h in
          All-cons (λ y. p y ≡ true → P y) x xs (λ _. All-head P x (filter p xs) k)
          (of_passing p P xs (All-tail P x (filter p xs) k))
      | inr f ↦
          All-cons (λ y. p y ≡ true → P y) x xs (λ t. absurd (true≢false (sym t ∙ f)))
          (of_passing p P xs
          (subst (All P) (cond-false (p x) (x ∷ filter p xs) (filter p xs) f) h))
    ]

-- ys are xs with the new ones among them
record AreMore {A : Type 0} (new xs ys : List A) : Type 0 where
  front : List A
  rest : List A
  old : xs ≡ front ++ rest
  all : ys ≡ front ++ (new ++ rest)

module _ {A : Type 0} (new xs ys : List A) (more : AreMore new xs ys) where
  old_or_new : (x : A) → Contains ys x → Contains xs x ⊎ Contains new x
  old_or_new x c =
      let back : Contains (more.front ++ more.rest) x
      → Contains xs x = subst (λ zs. Contains zs x) (sym more.old) in
      elim (Contains-append_cases more.front (new ++ more.rest) x
      (subst (λ zs. Contains zs x) more.all c)) [
        | inl f ↦ inl (back (Contains-append_left more.front more.rest x f))
        | inr b ↦ elim (Contains-append_cases new more.rest x b) [
          | inl n ↦ inr n
          | inr r ↦ inl (back (Contains-append_right more.front more.rest x r))
        ]
      ]

  still_among : (x : A) → Contains xs x → Contains ys x
  still_among x c =
      subst (λ zs. Contains zs x) (sym more.all)
      (elim (Contains-append_cases more.front more.rest x
      (subst (λ zs. Contains zs x) more.old c)) [
        | inl f ↦ Contains-append_left more.front (new ++ more.rest) x f
        | inr r ↦ Contains-append_right more.front (new ++ more.rest) x
            (Contains-append_right new more.rest x r)
      ])

  -- no fewer pass a test
  pass_more : (p : A → Bool) → length (filter p xs) ≤ length (filter p ys)
  pass_more p =
      let count : List A → ℕ = λ zs. length (filter p zs) in
      let split : (us vs : List A)
      → count (us ++ vs) ≡ count us + count vs = λ us vs. ap length (filter-append p us vs)
      ∙ length-append (filter p us) (filter p vs) in
      omega (
        arith,
        ap count more.old,
        ap count more.all,
        split more.front more.rest,
        split more.front (new ++ more.rest),
        split new more.rest,
      )

-- the gaps of one content more stand among those of the others
candidates-more : (x : Content) (cs : List Content)
    → AreMore (candidates_in x.kind x) (candidates cs) (candidates (with_content x cs))
candidates-more x [] = record { front = []; rest = []; old = refl; all = refl }
candidates-more x (c ∷ cs) =
    let new = candidates_in x.kind x in
    let here = candidates_in c.kind c in
    elim (cases_lt x.number c.number) [
      | inl lt ↦
          record {
            front = [];
            rest = candidates (c ∷ cs);
            old = refl;
            all = ap candidates (entered_here number_of x c cs lt);
          }
      | inr le ↦
          let more = candidates-more x cs in
          record {
            front = here ++ more.front;
            rest = more.rest;
            old = ap (λ ys. here ++ ys) more.old ∙ sym (append_assoc here more.front more.rest);
            all = ap candidates (entered_past number_of x c cs le)
                ∙ ap (λ ys. here ++ ys) more.all
                ∙ sym (append_assoc here more.front (new ++ more.rest));
          }
    ]

-- candidates lie at different addresses, so one alone is at an address, and one alone is the lowest
same_at : (xs : List Candidate) (x y : Candidate) → AllPairs IsElsewhere xs → Contains xs x
    → Contains xs y → x.address ≡ y.address → x ≡ y
same_at xs x y distinct cx cy e =
    let i = at_from_Contains xs x cx in
    let j = at_from_Contains xs y cy in
    elim (cases_order i.0 j.0) [
      | inl same ↦ sym (i.2 x) ∙ subst (λ k. get_or xs k x ≡ y) (sym same) (j.2 x)
      | inr other ↦ elim other [
        | inl lt ↦ absurd (distinct i.0 j.0 x lt j.1
            (ap (λ z. z.address) (i.2 x) ∙ e ∙ sym (ap (λ z. z.address) (j.2 x))))
        | inr gt ↦ absurd (distinct j.0 i.0 x gt i.1
            (ap (λ z. z.address) (j.2 x) ∙ sym e ∙ sym (ap (λ z. z.address) (i.2 x))))
      ]
    ]

same_first : (xs : List Candidate) (x y : Candidate) → AllPairs IsElsewhere xs
    → IsFirst lower xs x → IsFirst lower xs y → x ≡ y
same_first xs x y distinct a b =
    same_at xs x y distinct a.among b.among
    (omega (
      arith,
      ltb-false y.address x.address (All-contains (λ z. lower z x ≡ false) xs y a.least b.among),
      ltb-false x.address y.address (All-contains (λ z. lower z y ≡ false) xs x b.least a.among),
    ))

-- what holds of the lowest that was found holds of one that is the lowest
of_lowest : (P : Candidate → Type 0) (xs : List Candidate) (x : Candidate) (o : Option Candidate)
    → AllPairs IsElsewhere xs → (IsNone o → xs ≡ []) → IfSome o (IsFirst lower xs)
    → All P (only o) → IsFirst lower xs x → P x
of_lowest P xs x None distinct none is h a =
    absurd (let within : a.among.0 < length xs = a.among.1 in omega (arith, ap length (none refl)))
of_lowest P xs x (Some y) distinct none is h a =
    subst P (same_first xs y x distinct is a) (All-head P y [] h)

only-All : (P : Candidate → Type 0) (o : Option Candidate) → IfSome o P → All P (only o)
only-All P None h = All-nil P
only-All P (Some x) h = All-cons P x [] h (All-nil P)

-- where a strategy inspects no large candidate, it inspects a large one only of the new ones, once
-- there are more
module _ (need depth : ℕ) (new xs ys : List Candidate) (more : AreMore new xs ys)
    (distinct : AllPairs IsElsewhere xs) where
  abbrev IsSmall : Candidate → Type 0
  IsSmall x = x.size < need

  abbrev IsNew : Candidate → Type 0
  IsNew x = need ≤ x.size → Contains new x

  new_if_large : (x : Candidate) → Contains ys x → (Contains xs x → IsSmall x) → IsNew x
  new_if_large x c small le =
      elim (old_or_new new xs ys more x c) [
        | inl old ↦ absurd (omega (arith, small old))
        | inr n ↦ n
      ]

  all_new : All IsSmall xs → All IsNew ys
  all_new h = λ k d within. new_if_large _ (All-contains_itself ys k d within)
      (λ old. All-contains IsSmall xs _ h old)

  -- what good fit inspects with more candidates it inspects without them
  abbrev is_near : List Candidate → Candidate → Bool
  is_near zs x = is_inspected (λ y. y.address) (λ y. y.size) depth zs x

  still_near : (x : Candidate) → is_near ys x ≡ true → is_near xs x ≡ true
  still_near x t =
      let p = is_ahead (λ (y : Candidate). y.address) (λ y. y.size) x in
      lt-ltb (length (filter p xs)) depth
      (omega (arith, pass_more new xs ys more p, ltb-true (length (filter p ys)) depth t))

  near_new : All IsSmall (inspected_by Gf depth xs) → All IsNew (inspected_by Gf depth ys)
  near_new h = λ k d within.
      let x = get_or (filter (is_near ys) ys) k d in
      new_if_large x (All-filter (is_near ys) (Contains ys) ys (All-contains_itself ys) k d within)
      (λ old. All-contains (λ y. is_near xs y ≡ true → IsSmall y) xs x
      (of_passing (is_near xs) IsSmall xs h) old
      (still_near x (filter_passes (is_near ys) ys k d within)))

  lowest_new : All IsSmall (inspected_by Af depth xs) → All IsNew (inspected_by Af depth ys)
  lowest_new h =
      only-All IsNew (first lower ys)
      (if_some (first lower ys) (IsFirst lower ys) IsNew
      (λ x is. new_if_large x is.among
      (λ old. of_lowest IsSmall xs x (first lower xs) distinct (first-none lower xs)
      (first-IsFirst lower lower-order xs) h
      (record {
        among = old;
        least = All-weaker (Contains ys) (λ y. lower y x ≡ false)
            (λ y c. All-contains (λ z. lower z x ≡ false) ys y is.least c) xs
            (All-weaker (Contains xs) (Contains ys) (still_among new xs ys more) xs
            (All-contains_itself xs));
      })))
      (first-IsFirst lower lower-order ys))

  by_strategy-new : (s : Strategy) → All IsSmall (inspected_by s depth xs)
      → All IsNew (inspected_by s depth ys)
  by_strategy-new Bf h = all_new h
  by_strategy-new Aobf h = all_new h
  by_strategy-new Aoff h = all_new h
  by_strategy-new AoffCbf h = all_new h
  by_strategy-new AoffCaobf h = all_new h
  by_strategy-new AgeffCaoff h = all_new h
  by_strategy-new AgeffCbf h = all_new h
  by_strategy-new AgeffCaobf h = all_new h
  by_strategy-new Gf h = near_new h
  by_strategy-new Af h = lowest_new h

-- the candidate is of the carrier
abbrev IsOf : ℕ → Candidate → Type 0
IsOf number x = x.number ≡ number

of_carrier : (c : Content) → All (IsOf c.number) (candidates_in c.kind c)
of_carrier c = in_kind (IsOf c.number) c.kind c (λ k d within. refl)

either : (P : Candidate → Type 0) (asked : Bool) (found other : Option Candidate) → IfSome found P
    → IfSome other P → IfSome (or_else asked found other) P
either P asked (Some x) other h k = h
either P true None other h k = k
either P false None other h k = tt

-- where each other carrier has blocks, a new one alone is without
empty-new : (x : Content) (cs : List Content) → All (λ c. is_empty_multi c ≡ false) cs
    → All (IsOf x.number) (candidates (filter is_empty_multi (with_content x cs)))
empty-new x cs full =
    let all = with_content x cs in
    let P : Content → Type 0 = λ c. is_empty_multi c ≡ true → c.number ≡ x.number in
    let new = All-entered number_of P x cs (λ _. refl)
    (All-weaker (λ c. is_empty_multi c ≡ false) P (λ c f t. absurd (true≢false (sym t ∙ f))) cs
    full) in
    candidates_All (IsOf x.number) (filter is_empty_multi all)
    (λ k d within i e among. All-filter is_empty_multi P all new k d within
    (filter_passes is_empty_multi all k d within))

-- where there is no choice, and each multiblock carrier has blocks, the choice with a carrier more
-- lies in that one
choice-new : (s : Settings) (need : ℕ) (x : Content) (cs : List Content)
    → AllPairs IsElsewhere (candidates cs) → IsNone (choice_for s need cs)
    → All (λ c. is_empty_multi c ≡ false) cs
    → IfSome (choice_for s need (with_content x cs)) (IsOf x.number)
choice-new s need x cs distinct none full =
    let P : Candidate → Type 0 = IsOf x.number in
    let new = candidates_in x.kind x in
    let all = with_content x cs in
    let seen = inspected_by s.strategy s.mbsd (candidates all) in
    let large = by_strategy-new need s.mbsd new (candidates cs) (candidates all)
    (candidates-more x cs) distinct s.strategy ((choice-none s need cs).0 none).0 in
    let fits : Candidate → Bool = λ y. nat_le need y.size in
    either P (may_miss s.strategy) (choice_among s.strategy s.mbsd need all) (choice_empty need all)
    (first-All P (takes_first s.strategy) None (large_enough need seen) tt
    (λ k d within. All-contains P new _ (of_carrier x)
    (All-filter fits (λ y. need ≤ y.size → Contains new y) seen large k d within
    (leb-true need _ (filter_passes fits seen k d within)))))
    (first-All P lower None _ tt
    (All-filter fits P (candidates (filter is_empty_multi all)) (empty-new x cs full)))

-- so the spot that is chosen with a planned carrier is one of that carrier
pub chosen-in-new : (i : Instance) (need : ℕ) (p : CarrierPlan) (spot : Spot) → Stands i
    → chosen_spot i need ≡ None → All (λ c. is_empty_multi c ≡ false) i.contents
    → chosen_spot (creating i p) need ≡ Some spot → spot.carrier ≡ p.number
chosen-in-new i need p spot st none full is =
    let o = choice_for i.settings need (creating i p).contents in
    some_holds (option_map spot_of o) spot (λ at. at.carrier ≡ p.number) is
    (some_map spot_of (λ at. at.carrier ≡ p.number) o
    (choice-new i.settings need (created_content i.number Multi p) i.contents
    (candidates-distinct i.contents st.orderly.laid (multi-apart i st))
    (unmapped spot_of (choice_for i.settings need i.contents) (subst IsNone (sym none) refl))
    full))
