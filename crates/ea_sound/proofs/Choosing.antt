-- The choice of an instance, whoever created the carriers that it employs.
use Rattle.std.proofs.Common.{◌≡◌, ℕ, ◌<◌, ◌≤◌, true, false, List, [], ◌∷◌, ◌++◌, refl, sym, ap}
use Rattle.std.proofs.Common.{◌∙◌, subst, inl, inr, arith}
use Rattle.std.specs.Prelude.{Option, Some, None, All, IsNone, IsSome, is_some, option_map}
use Rattle.std.proofs.lemmas.Bool.{cases_Bool, true≢false}
use Rattle.std.proofs.lemmas.List.Elements.{All-append, All-cons, All-contains, All-head, All-nil}
use Rattle.std.proofs.lemmas.List.Elements.{All-tail, All-weaker}
use Rattle.ea_model.specs.declared.carriers.Candidate.{Candidate}
use Rattle.ea_model.specs.declared.carriers.CarrierPlan.{CarrierPlan}
use Rattle.ea_model.specs.declared.carriers.Gap.{Gap}
use Rattle.ea_model.specs.declared.carriers.Kind.{Kind}
use Rattle.ea_model.specs.declared.carriers.Kind.TheVariants.{Main, Multi, Single}
use Rattle.ea_model.specs.declared.carriers.Spot.{Spot}
use Rattle.ea_model.specs.declared.settings.Settings.{Settings}
use Rattle.ea_model.specs.declared.settings.Strategy.{Strategy}
use Rattle.ea_model.specs.declared.settings.Strategy.TheVariants.{Bf, Aobf, Aoff, AoffCbf}
use Rattle.ea_model.specs.declared.settings.Strategy.TheVariants.{AoffCaobf, AgeffCaoff, AgeffCbf}
use Rattle.ea_model.specs.declared.settings.Strategy.TheVariants.{AgeffCaobf, Gf, Af}
use Rattle.ea_model.specs.Content.{Content, gaps_of, is_empty_multi, largest}
use Rattle.ea_model.specs.Instance.{Instance, chosen_spot, created_content, creating, with_content}
use Rattle.ea_model.specs.Settings.{can_migrate}
use Rattle.ea_model.specs.Strategies.{candidate, candidates, candidates_in, choice_for}
use Rattle.ea_model.specs.Strategies.{inspected_by, may_miss, spot_of}
use Rattle.ea_model.proofs.Merged.{entered-All}
use Rattle.ea_model.proofs.Options.{is_some-map, some_holds, unmapped}
use Rattle.ea_model.proofs.Pairs.{all_unmap}
use Rattle.ea_model.proofs.Rising.{All-entered}
use Rattle.ea_laws.specs.Kept.{number_of, IsLaidOut, IsRising, Stands}
use Rattle.ea_laws.specs.Kinds.{is_shared}
use Rattle.ea_laws.specs.Spots.{HasGap}
use Rattle.ea_model.specs.Employment.{employing}
use Rattle.ea_laws.proofs.Candidates.{IsLarge, in_kind, large_among}
use Rattle.ea_laws.proofs.Inspected.{inspected_by-among}
use Rattle.ea_laws.proofs.InNew.{chosen-in-new}
use Rattle.ea_laws.proofs.Taken.{taken-first}
use Rattle.ea_laws.proofs.Refusals.{choice-none_at_all}
use Rattle.ea_laws.proofs.Standing.{IsOwnGap, chosen-owned}

-- the candidate that was chosen
candidate_at : (o : Option Candidate) (spot : Spot) → option_map spot_of o ≡ Some spot
    → (x : Candidate) × (o ≡ Some x) × (spot_of x ≡ spot)
candidate_at None spot e = absurd cc
candidate_at (Some x) spot e = (x, refl, cc)

module _ (i : Instance) (need : ℕ) (spot : Spot) (rising : IsRising i.contents)
    (sound : All IsLaidOut i.contents) (chosen : chosen_spot i need ≡ Some spot) where
  abbrev choice : Option Candidate
  choice = choice_for i.settings need i.contents

  -- it is a gap of a carrier that is employed, and large enough
  chosen-candidate : (x : Candidate) × (choice ≡ Some x) × (spot_of x ≡ spot)
      × IsOwnGap need i.contents x
  chosen-candidate =
      let at = candidate_at choice spot chosen in (
        at.0,
        at.1,
        at.2,
        some_holds choice at.0 (IsOwnGap need i.contents) at.1
            (chosen-owned need i.contents rising sound i.settings),
      )

  pub chosen-gap : HasGap need spot.carrier spot.offset i.contents
  chosen-gap =
      let x = chosen-candidate in
      subst (λ (at : Spot). HasGap need at.carrier at.offset i.contents) x.2
      (x.3.0.0, x.3.0.1, omega (arith, x.3.0.2, x.3.1))

-- a strategy under which carriers migrate misses no gap
pub migrating-misses_none : (s : Strategy) → can_migrate s ≡ true → may_miss s ≡ false
migrating-misses_none Bf e = refl
migrating-misses_none Aobf e = refl
migrating-misses_none Aoff e = refl
migrating-misses_none AoffCbf e = refl
migrating-misses_none AoffCaobf e = refl
migrating-misses_none AgeffCaoff e = refl
migrating-misses_none AgeffCbf e = refl
migrating-misses_none AgeffCaobf e = refl
migrating-misses_none Gf e = absurd cc
migrating-misses_none Af e = absurd cc

-- what holds of all holds of the first ones, and of the rest
All_front : {A : Type 0} (P : A → Type 0) (xs ys : List A) → All P (xs ++ ys) → All P xs
All_front P [] ys h = All-nil P
All_front P (x ∷ xs) ys h = All-cons P x xs (All-head P x (xs ++ ys) h)
    (All_front P xs ys (All-tail P x (xs ++ ys) h))

All_rest : {A : Type 0} (P : A → Type 0) (xs ys : List A) → All P (xs ++ ys) → All P ys
All_rest P [] ys h = h
All_rest P (x ∷ xs) ys h = All_rest P xs ys (All-tail P x (xs ++ ys) h)

-- of candidates carrier by carrier
module _ (P : Candidate → Type 0) where
  abbrev pub InEach : Content → Type 0
  InEach c = All P (candidates_in c.kind c)

  candidates-each : (cs : List Content) → All P (candidates cs) → All InEach cs
  candidates-each [] h = All-nil InEach
  candidates-each (c ∷ cs) h = All-cons InEach c cs
      (All_front P (candidates_in c.kind c) (candidates cs) h)
      (candidates-each cs (All_rest P (candidates_in c.kind c) (candidates cs) h))

  each-candidates : (cs : List Content) → All InEach cs → All P (candidates cs)
  each-candidates [] h = All-nil P
  each-candidates (c ∷ cs) h = All-append P (candidates_in c.kind c) (candidates cs)
      (All-head InEach c cs h) (each-candidates cs (All-tail InEach c cs h))

abbrev pub IsSmaller : ℕ → Candidate → Type 0
IsSmaller need x = x.size < need

small_gaps : (need : ℕ) (k : Kind) (c : Content) → is_shared k ≡ true
    → All (IsSmaller need) (candidates_in k c) → All (λ g. g.size < need) (gaps_of c)
small_gaps need Main c shared h = all_unmap (IsSmaller need) (candidate c) (gaps_of c) h
small_gaps need Multi c shared h = all_unmap (IsSmaller need) (candidate c) (gaps_of c) h
small_gaps need Single c shared h = absurd cc

largest_small : (need : ℕ) (gs : List Gap) → 1 ≤ need → All (λ g. g.size < need) gs
    → largest gs < need
largest_small need [] some h = omega (arith, some)
largest_small need (g ∷ gs) some h = omega (
  arith,
  All-head (λ (x : Gap). x.size < need) g gs h,
  largest_small need gs some (All-tail (λ (x : Gap). x.size < need) g gs h),
)

-- strategies that miss no gap
module _ (s : Settings) (need : ℕ) (c : Content) (cs : List Content)
    (sure : may_miss s.strategy ≡ false) where
  abbrev all : List Content
  all = with_content c cs

  -- a carrier more with a gap that is large enough gives a choice
  choice-with : is_shared c.kind ≡ true → 1 ≤ need → need ≤ largest (gaps_of c)
      → IsSome (choice_for s need all)
  choice-with shared some fits =
      elim (cases_Bool (is_some (choice_for s need all))) [
        | inl t ↦ t
        | inr f ↦
            let small = (choice-none_at_all s need all sure).0 f in
            let here = (entered-All number_of (InEach (IsSmaller need)) c cs
            (candidates-each (IsSmaller need) all small)).0 in
            absurd (omega (
              arith,
              fits,
              largest_small need (gaps_of c) some (small_gaps need c.kind c shared here),
            ))
      ]

  -- where there was no choice, it lies in that carrier
  abbrev IsThere : Candidate → Type 0
  IsThere x = need ≤ x.size → x.number ≡ c.number

  only_there : IsNone (choice_for s need cs) → All IsThere (candidates all)
  only_there none =
      let small = candidates-each (IsSmaller need) cs ((choice-none_at_all s need cs sure).0 none)
      in
      each-candidates IsThere all
      (All-entered number_of (InEach IsThere) c cs
      (in_kind IsThere c.kind c (λ k d within le. refl))
      (All-weaker (InEach (IsSmaller need)) (InEach IsThere)
      (λ d h. All-weaker (IsSmaller need) IsThere (λ x lt le. absurd (omega (arith, lt, le)))
      (candidates_in d.kind d) h) cs small))

  choice-in_it : (x : Candidate) → IsNone (choice_for s need cs)
      → choice_for s need all ≡ Some x → x.number ≡ c.number
  choice-in_it x none e =
      let xs = candidates all in
      elim (taken-first s need all x e) [
        | inl first ↦
            let large = All-contains (IsLarge need xs) _ x
            (large_among need xs (inspected_by s.strategy s.mbsd xs)
            (inspected_by-among s.strategy s.mbsd xs)) first.among in
            All-contains IsThere xs x (only_there none) large.0 large.1
        | inr other ↦ absurd (true≢false (sym other.0 ∙ sure))
      ]

-- an instance that fetches a carrier with a gap that is large enough has a choice
pub chosen-fetched : (i : Instance) (need : ℕ) (c : Content) → may_miss i.settings.strategy ≡ false
    → is_shared c.kind ≡ true → 1 ≤ need → need ≤ largest (gaps_of c)
    → IsSome (chosen_spot (employing i c) need)
chosen-fetched i need c sure shared some fits =
    is_some-map spot_of (choice_for i.settings need (with_content c i.contents))
    ∙ choice-with i.settings need c i.contents sure shared some fits

-- and where it had none without the carrier, the spot is one of that carrier
pub chosen-in_fetched : (i : Instance) (need : ℕ) (c : Content) (spot : Spot)
    → may_miss i.settings.strategy ≡ false → chosen_spot i need ≡ None
    → chosen_spot (employing i c) need ≡ Some spot → spot.carrier ≡ c.number
chosen-in_fetched i need c spot sure none is =
    let x = candidate_at (choice_for i.settings need (employing i c).contents) spot is in
    ap (λ (at : Spot). at.carrier) (sym x.2)
    ∙ choice-in_it i.settings need c i.contents sure x.0
    (unmapped spot_of (choice_for i.settings need i.contents) (subst IsNone (sym none) refl)) x.1

-- where an instance had no choice, and none of its multiblock carriers is empty, the spot that is
-- chosen with a planned carrier is one of that carrier; under a strategy that may miss a gap no
-- carriers migrate, so that the instance has but its own
pub chosen-in_planned : (i : Instance) (need : ℕ) (p : CarrierPlan) (spot : Spot)
    → (may_miss i.settings.strategy ≡ true → Stands i) → chosen_spot i need ≡ None
    → All (λ c. is_empty_multi c ≡ false) i.contents → chosen_spot (creating i p) need ≡ Some spot
    → spot.carrier ≡ p.number
chosen-in_planned i need p spot stands none full is =
    elim (cases_Bool (may_miss i.settings.strategy)) [
      | inl t ↦ chosen-in-new i need p spot (stands t) none full is
      | inr f ↦ chosen-in_fetched i need (created_content i.number Multi p) spot f none is
    ]
