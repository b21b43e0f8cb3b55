-- The gap that is chosen in the first carrier that fits is the one that is chosen among all.
use Rattle.std.proofs.Common.{◌≡◌, ℕ, ◌<◌, ◌≤◌, Bool, true, List, [], ◌∷◌, fold, map}
use Rattle.std.proofs.Common.{All, AllPairs, sym, ap, ◌∙◌, subst, refl, inl, inr, arith}
use Rattle.std.specs.Prelude.{Option, Some, None, IfSome, IsNone, nat_le, option_map}
use Rattle.std.specs.Option.{option_and_then}
use Rattle.std.proofs.lemmas.Bool.{cases_Bool, cases_lt, cond-true, cond-false}
use Rattle.std.proofs.lemmas.List.Elements.{All-filter, All-nil, All-cons, All-head, All-tail}
use Rattle.ea_model.specs.declared.settings.Strategy.{Strategy}
use Rattle.ea_model.specs.declared.carriers.Kind.{Kind}
use Rattle.ea_model.specs.declared.carriers.Kind.TheVariants.{Main, Multi, Single}
use Rattle.ea_model.specs.declared.carriers.Inner.{Inner}
use Rattle.ea_model.specs.declared.carriers.Gap.{Gap}
use Rattle.ea_model.specs.declared.carriers.Candidate.{Candidate}
use Rattle.ea_model.specs.Content.{Content, gaps_of, largest}
use Rattle.ea_model.specs.Choice.{before, better, choice, first}
use Rattle.ea_model.specs.Choice as gaps
use Rattle.ea_model.specs.Strategies.{candidate, candidates, candidates_in}
use Rattle.ea_model.specs.Strategies.{inner_of, large_enough, takes_first}
use Rattle.ea_model.specs.Instance.{content_of}
use Rattle.ea_model.proofs.First.{first-All, first-none, large-here, large-none, large-past}
use Rattle.ea_model.proofs.First.{none-large}
use Rattle.ea_model.proofs.Pairs.{pairs_head, pairs_tail}
use Rattle.ea_model.proofs.Rising.{item_at-each}
use Rattle.ea_cset.specs.declared.keys.CarrierFit.{CarrierFit}
use Rattle.ea_cset.specs.Carriers.{Carriers, first_number, fitting}
use Rattle.ea_goodfit.specs.Gaps.{HeldGaps}
use Rattle.ea_laws.specs.Kinds.{is_shared}
use Rattle.ea_laws.specs.Kept.{IsLaidOut, number_of}
use Rattle.ea_laws.proofs.Candidates.{Inside, gaps_Inside}
use Rattle.ea_employed.specs.Laid.{AreLaid}
use Rattle.ea_employed.specs.Listed.{candidate_in, chosen_in, held_of, IsListed}
use Rattle.ea_employed.specs.Better.{better_of}
use Rattle.ea_employed.proofs.Folding.{choice_more}
use Rattle.ea_employed.proofs.TwoCarriers.{GoesBy, IsOf, Precedes, laid-Precedes}

-- no gap has more units than the largest
largest-All : (need : ℕ) (gs : List Gap) → largest gs < need → All (λ g. g.size < need) gs
largest-All need [] lt = All-nil (λ (g : Gap). g.size < need)
largest-All need (g ∷ gs) lt = All-cons (λ (x : Gap). x.size < need) g gs (omega arith)
    (largest-All need gs (omega arith))

all-largest : (need : ℕ) (gs : List Gap) → 1 ≤ need → All (λ g. g.size < need) gs
    → largest gs < need
all-largest need [] some a = omega arith
all-largest need (g ∷ gs) some a =
    let here = All-head (λ (x : Gap). x.size < need) g gs a in
    let more = all-largest need gs some (All-tail (λ (x : Gap). x.size < need) g gs a) in
    omega arith

-- a carrier with a smaller largest gap has none to choose, and another one has
none_in : (inner : Inner) (need : ℕ) (c : Content) → largest (gaps_of c) < need
    → choice inner need (gaps_of c) ≡ None
none_in inner need c lt = ap (first (before inner))
    (large-none (λ (g : Gap). g.size) need (gaps_of c) (largest-All need (gaps_of c) lt))

none_out : (inner : Inner) (need : ℕ) (c : Content) → 1 ≤ need
    → choice inner need (gaps_of c) ≡ None → largest (gaps_of c) < need
none_out inner need c some e =
    all-largest need (gaps_of c) some
    (none-large (λ (g : Gap). g.size) need (gaps_of c)
    (first-none (before inner) (gaps.fitting need (gaps_of c))
    (subst (λ o. IsNone o) (sym e) refl)))

shared_in : (k : Kind) (c : Content) → is_shared k ≡ true
    → candidates_in k c ≡ map (candidate c) (gaps_of c)
shared_in Main c h = refl
shared_in Multi c h = refl
shared_in Single c h = absurd cc

-- the gap that is chosen in a carrier lies in it
chosen_inside : (inner : Inner) (need : ℕ) (c : Content) → IsLaidOut c
    → IfSome (choice inner need (gaps_of c)) (Inside 8 c.units)
chosen_inside inner need c laid =
    first-All (Inside 8 c.units) (before inner) None (gaps.fitting need (gaps_of c)) tt
    (All-filter (λ (g : Gap). nat_le need g.size) (Inside 8 c.units) (gaps_of c)
    (gaps_Inside 8 c.units c.blocks laid.tiled))

some_gap : (c : Content) (o : Option Gap) → IfSome o (Inside 8 c.units) → (o ≡ None → ⊥)
    → (x : Candidate) × (option_map (candidate c) o ≡ Some x) × IsOf x c
some_gap c None inside h = absurd (h refl)
some_gap c (Some g) inside h = (
  candidate c g,
  refl,
  record {
    number = refl;
    base = refl;
    birth = refl;
    low = omega arith;
    high = omega (arith, inside.some, inside.within);
  },
)

module _ (s : Strategy) (comes_first : CarrierFit → CarrierFit → Bool) (goes : GoesBy s comes_first)
    (need : ℕ)
    (some : 1 ≤ need) (all : List Content) where
  -- the gap that is chosen in the carrier that was found
  abbrev chosen_at : Option CarrierFit → Option Candidate
  chosen_at o = option_and_then (candidate_in (inner_of s) need all)
      (option_map (λ h. h.key.number) o)

  abbrev first_gap : Option Candidate → List Content → Option Candidate
  first_gap best cs = fold (better (takes_first s)) best (large_enough need (candidates cs))

  abbrev first_held : Option CarrierFit → List CarrierFit → Option CarrierFit
  first_held best hs = fold (better comes_first) best (fitting need hs)

  -- the carrier is found by its number, and is laid out
  abbrev IsThere : Content → Type 0
  IsThere c = (content_of all c.number ≡ Some c) × IsLaidOut c

  -- a carrier has a gap to choose exactly where its largest gap is large enough
  pub record HasChoice (c : Content) : Type 0 where
    pub fits : need ≤ largest (gaps_of c)
    pub gap : Candidate
    pub chosen : chosen_in (inner_of s) need c ≡ Some gap
    pub is_of : IsOf gap c
    pub at : chosen_at (Some (held_of c)) ≡ Some gap

  has_choice : (c : Content) → IsThere c → need ≤ largest (gaps_of c) → HasChoice c
  has_choice c there le =
      let found = some_gap c (choice (inner_of s) need (gaps_of c))
      (chosen_inside (inner_of s) need c there.1)
      (λ none. let lt = none_out (inner_of s) need c some none in omega arith) in
      record {
        fits = le;
        gap = found.0;
        chosen = found.1;
        is_of = found.2;
        at = ap (option_and_then (chosen_in (inner_of s) need)) there.0 ∙ found.1;
      }

  more : (best : Option Candidate) (c : Content) (cs : List Content) (o : Option Candidate)
      → is_shared c.kind ≡ true → chosen_in (inner_of s) need c ≡ o
      → first_gap best (c ∷ cs) ≡ first_gap (better_of (takes_first s) best o) cs
  more best c cs o shared e = choice_more s need best c cs (shared_in c.kind c shared)
      ∙ ap (λ r. first_gap (better_of (takes_first s) best r) cs) e

  held_past : (best : Option CarrierFit) (c : Content) (cs : List Content)
      → largest (gaps_of c) < need
      → first_held best (map held_of (c ∷ cs)) ≡ first_held best (map held_of cs)
  held_past best c cs lt = ap (λ hs. fold (better comes_first) best hs)
      (large-past (λ (h : CarrierFit). h.fit) need (held_of c) (map held_of cs) lt)

  held_next : (best : Option CarrierFit) (c : Content) (cs : List Content)
      → need ≤ largest (gaps_of c)
      → first_held best (map held_of (c ∷ cs)) ≡ first_held (better comes_first best (held_of c))
      (map held_of cs)
  held_next best c cs le = ap (λ hs. fold (better comes_first) best hs)
      (large-here (λ (h : CarrierFit). h.fit) need (held_of c) (map held_of cs) le)

  none_here : (c : Content) → largest (gaps_of c) < need → chosen_in (inner_of s) need c ≡ None
  none_here c lt = ap (option_map (candidate c)) (none_in (inner_of s) need c lt)

  -- choosing on among the gaps of the carriers that are left, and among these carriers
  goes_on : (x : Candidate) (b : Content) (cs : List Content)
      → chosen_at (Some (held_of b)) ≡ Some x → IsOf x b → All (Precedes b) cs
      → AllPairs Precedes cs → All IsThere cs
      → first_gap (Some x) cs ≡ chosen_at (first_held (Some (held_of b)) (map held_of cs))
  goes_on x b [] at is_of behind apart there = sym at
  goes_on x b (c ∷ cs) at is_of behind apart there =
      let here = All-head IsThere c cs there in
      let rest = All-tail IsThere c cs there in
      let later = All-tail (Precedes b) c cs behind in
      let tail = pairs_tail Precedes c cs apart in
      elim (cases_lt (largest (gaps_of c)) need) [
        | inl lt ↦ more (Some x) c cs None here.1.shared (none_here c lt)
            ∙ goes_on x b cs at is_of later tail rest
            ∙ sym (ap chosen_at (held_past (Some (held_of b)) c cs lt))
        | inr le ↦
            let has = has_choice c here le in
            let same = goes x has.gap b c is_of has.is_of (All-head (Precedes b) c cs behind) in
            more (Some x) c cs (Some has.gap) here.1.shared has.chosen
            ∙ elim (cases_Bool (takes_first s has.gap x)) [
              | inl t ↦
                  ap (λ y. first_gap (Some y) cs) (cond-true (takes_first s has.gap x) has.gap x t)
                  ∙ goes_on has.gap c cs has.at has.is_of (pairs_head Precedes c cs apart) tail rest
                  ∙ sym (ap chosen_at (held_next (Some (held_of b)) c cs le
                  ∙ ap (λ y. first_held (Some y) (map held_of cs))
                  (cond-true (comes_first (held_of c) (held_of b)) (held_of c) (held_of b)
                  (sym same ∙ t))))
              | inr f ↦
                  ap (λ y. first_gap (Some y) cs) (cond-false (takes_first s has.gap x) has.gap x f)
                  ∙ goes_on x b cs at is_of later tail rest
                  ∙ sym (ap chosen_at (held_next (Some (held_of b)) c cs le
                  ∙ ap (λ y. first_held (Some y) (map held_of cs))
                  (cond-false (comes_first (held_of c) (held_of b)) (held_of c) (held_of b)
                  (sym same ∙ f))))
            ]
      ]

  starts : (cs : List Content) → AllPairs Precedes cs → All IsThere cs
      → first_gap None cs ≡ chosen_at (first_held None (map held_of cs))
  starts [] apart there = refl
  starts (c ∷ cs) apart there =
      let here = All-head IsThere c cs there in
      let rest = All-tail IsThere c cs there in
      let tail = pairs_tail Precedes c cs apart in
      elim (cases_lt (largest (gaps_of c)) need) [
        | inl lt ↦ more None c cs None here.1.shared (none_here c lt) ∙ starts cs tail rest
            ∙ sym (ap chosen_at (held_past None c cs lt))
        | inr le ↦
            let has = has_choice c here le in
            more None c cs (Some has.gap) here.1.shared has.chosen
            ∙ goes_on has.gap c cs has.at has.is_of (pairs_head Precedes c cs apart) tail rest
            ∙ sym (ap chosen_at (held_next None c cs le))
      ]

  choice_first : AreLaid all
      → first_gap None all ≡ chosen_at (first comes_first (fitting need (map held_of all)))
  choice_first laid = starts all (laid-Precedes all laid)
      (λ i d within. (item_at-each number_of i d all laid.rising within, laid.sound i d within))

-- the choice is made in the first carrier that fits
pub choice-first : (s : Strategy) (comes_first : CarrierFit → CarrierFit → Bool)
    → GoesBy s comes_first
    → (need : ℕ) → 1 ≤ need
    → (t : Strategy) (units : ℕ) (cs now : List Content) (set : Carriers) (bins : Option HeldGaps)
    → IsListed t units cs set bins → cs ≡ now → AreLaid now
    → (number : Option ℕ) (found : Option Candidate)
    → number ≡ first_number comes_first need set.held
    → found ≡ option_and_then (candidate_in (inner_of s) need now) number
    → found ≡ first (takes_first s) (large_enough need (candidates now))
choice-first s comes_first goes need some t units cs now set bins listed seen laid number found
    first_is is =
    let held : set.held ≡ map held_of now = listed.held ∙ ap (map held_of) seen in
    is ∙ ap (option_and_then (candidate_in (inner_of s) need now)) (first_is
    ∙ ap (first_number comes_first need) held)
    ∙ sym (choice_first s comes_first goes need some now laid)
