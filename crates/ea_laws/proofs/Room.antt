-- A carrier with a large enough gap gives the strategy a choice.
use Rattle.std.proofs.Common.{◌≡◌, ℕ, ◌+◌, ◌*◌, ◌<◌, ◌≤◌, true, false, List, [], ◌∷◌, length}
use Rattle.std.proofs.Common.{filter, cond, ap, ◌∙◌, refl, inl, inr, arith, length-append}
use Rattle.std.specs.Prelude.{Bool, Option, Some, None, IsSome, fold, nat_le}
use Rattle.std.proofs.lemmas.Bool.{cases_lt, cases_Bool, cond-true, cond-false}
use Rattle.std.proofs.lemmas.List.Elements.{filter-append}
use Rattle.ea_model.specs.declared.carriers.Candidate.{Candidate}
use Rattle.ea_model.specs.declared.carriers.CarrierPlan.{CarrierPlan}
use Rattle.ea_model.specs.declared.carriers.Kind.TheVariants.{Multi}
use Rattle.ea_model.specs.Choice.{better, first}
use Rattle.ea_model.specs.Content.{Content, is_empty_multi}
use Rattle.ea_model.specs.Instance.{Instance, created_content, creating, chosen_spot, with_content}
use Rattle.ea_model.specs.Strategies.{candidates, candidates_in, choice_among, choice_for}
use Rattle.ea_model.specs.Strategies.{choice_empty, large_enough, inspected_by, lower, may_miss}
use Rattle.ea_model.specs.Strategies.{or_else, takes_first, spot_of}
use Rattle.ea_model.proofs.Options.{is_some-map}
use Rattle.ea_laws.proofs.Inspected.{all_inspected}
use Rattle.ea_model.proofs.Rising.{entered_here, entered_past}
use Rattle.ea_laws.specs.Kept.{number_of}

still_some : {A : Type 0} (t : A → A → Bool) (x : A) (xs : List A)
    → IsSome (fold (better t) (Some x) xs)
still_some t x [] = refl
still_some t x (y ∷ ys) = still_some t (cond (t y x) y x) ys

first-some : {A : Type 0} (t : A → A → Bool) (xs : List A) → 1 ≤ length xs → IsSome (first t xs)
first-some t [] h = absurd (omega arith)
first-some t (x ∷ xs) h = still_some t x xs

-- how many candidates a content has
abbrev counted : ℕ → List Candidate → ℕ
counted need xs = length (large_enough need xs)

counted_more : (need : ℕ) (c : Content) (cs : List Content)
    → counted need (candidates (c ∷ cs)) ≡ counted need (candidates_in c.kind c) + counted need
    (candidates cs)
counted_more need c cs =
    ap length (filter-append (λ x. nat_le need x.size) (candidates_in c.kind c) (candidates cs))
    ∙ length-append (large_enough need (candidates_in c.kind c)) (large_enough need (candidates cs))

counted_with : (need : ℕ) (x : Content) (cs : List Content)
    → counted need (candidates_in x.kind x) ≤ counted need (candidates (with_content x cs))
counted_with need x [] = omega (arith, counted_more need x [])
counted_with need x (c ∷ cs) =
    elim (cases_lt x.number c.number) [
      | inl lt ↦ omega (
        arith,
        ap (λ ys. counted need (candidates ys)) (entered_here number_of x c cs lt),
        counted_more need x (c ∷ cs),
      )
      | inr le ↦ omega (
        arith,
        ap (λ ys. counted need (candidates ys)) (entered_past number_of x c cs le),
        counted_more need c (with_content x cs),
        counted_with need x cs,
      )
    ]

done_here : (c : Content) (cs : List Content) → is_empty_multi c ≡ true
    → filter is_empty_multi (c ∷ cs) ≡ c ∷ filter is_empty_multi cs
done_here c cs done = cond-true (is_empty_multi c) (c ∷ filter is_empty_multi cs)
    (filter is_empty_multi cs) done

done_past : (c : Content) (cs : List Content) → is_empty_multi c ≡ false
    → filter is_empty_multi (c ∷ cs) ≡ filter is_empty_multi cs
done_past c cs done = cond-false (is_empty_multi c) (c ∷ filter is_empty_multi cs)
    (filter is_empty_multi cs) done

-- how many candidates the carriers without blocks have
abbrev empty_counted : ℕ → List Content → ℕ
empty_counted need cs = counted need (candidates (filter is_empty_multi cs))

empty_more : (need : ℕ) (c : Content) (cs : List Content)
    → empty_counted need cs ≤ empty_counted need (c ∷ cs)
empty_more need c cs =
    elim (cases_Bool (is_empty_multi c)) [
      | inl t ↦ omega (
        arith,
        ap (λ ys. counted need (candidates ys)) (done_here c cs t),
        counted_more need c (filter is_empty_multi cs),
      )
      | inr f ↦ omega (arith, ap (λ ys. counted need (candidates ys)) (done_past c cs f))
    ]

empty_at : (need : ℕ) (x : Content) (cs : List Content) → is_empty_multi x ≡ true
    → counted need (candidates_in x.kind x) ≤ empty_counted need (x ∷ cs)
empty_at need x cs done = omega (
  arith,
  ap (λ ys. counted need (candidates ys)) (done_here x cs done),
  counted_more need x
      (filter is_empty_multi cs),
)

empty_with : (need : ℕ) (x : Content) (cs : List Content) → is_empty_multi x ≡ true
    → counted need (candidates_in x.kind x) ≤ empty_counted need (with_content x cs)
empty_with need x [] done = empty_at need x [] done
empty_with need x (c ∷ cs) done =
    elim (cases_lt x.number c.number) [
      | inl lt ↦ omega (
        arith,
        ap (empty_counted need) (entered_here number_of x c cs lt),
        empty_at need x (c ∷ cs) done,
      )
      | inr le ↦ omega (
        arith,
        ap (empty_counted need) (entered_past number_of x c cs le),
        empty_more need c (with_content x cs),
        empty_with need x cs done,
      )
    ]

or_else-some : (asked : Bool) (found other : Option Candidate) → (asked ≡ false → IsSome found)
    → IsSome other → IsSome (or_else asked found other)
or_else-some asked (Some x) other f h = refl
or_else-some true None other f h = h
or_else-some false None other f h = f refl

created_fits : (n need : ℕ) (p : CarrierPlan) → need + 8 ≤ 512 * p.pages → 8 < 512 * p.pages
    → 1 ≤ counted need (candidates_in Multi (created_content n Multi p))
created_fits n need p room some = grind arith

-- an instance with a new carrier that holds the need has a choice for it
pub chosen-created : (i : Instance) (need : ℕ) (p : CarrierPlan) → need + 8 ≤ 512 * p.pages
    → 8 < 512 * p.pages → IsSome (chosen_spot (creating i p) need)
chosen-created i need p room some =
    let x = created_content i.number Multi p in
    let s = i.settings.strategy in
    let cs = with_content x i.contents in
    let fits = created_fits i.number need p room some in
    is_some-map spot_of (choice_for i.settings need cs)
    ∙ or_else-some (may_miss s) (choice_among s i.settings.mbsd need cs) (choice_empty need cs)
    (λ none. first-some (takes_first s)
    (large_enough need (inspected_by s i.settings.mbsd (candidates cs)))
    (omega (
      arith,
      ap (counted need) (all_inspected s i.settings.mbsd (candidates cs) none),
      counted_with need x i.contents,
      fits,
    )))
    (first-some lower (large_enough need (candidates (filter is_empty_multi cs)))
    (omega (arith, empty_with need x i.contents refl, fits)))
