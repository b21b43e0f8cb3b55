-- The gaps in the bins, and the candidates that they are.
use Rattle.std.proofs.Common.{◌≡◌, ◌≢◌, ℕ, Bool, List, length, map}
use Rattle.std.proofs.Common.{refl, sym, subst, ap, ◌∙◌}
use Rattle.std.specs.Prelude.{None, Some, All, AllPairs, filter}
use Rattle.std.specs.Prelude.{option_map, nat_le, nat_lt, ◌==◌, ◌&&◌}
use Rattle.std.proofs.lemmas.List.{length-map}
use Rattle.std.proofs.lemmas.List.Elements.{filter_agree}
use Rattle.ea_model.specs.declared.settings.Strategy.{Strategy}
use Rattle.ea_model.specs.declared.settings.Strategy.TheVariants.{Bf, Aobf, Aoff, AoffCbf}
use Rattle.ea_model.specs.declared.settings.Strategy.TheVariants.{AoffCaobf, AgeffCaoff}
use Rattle.ea_model.specs.declared.settings.Strategy.TheVariants.{AgeffCbf, AgeffCaobf, Gf, Af}
use Rattle.ea_model.specs.Content.{Content}
use Rattle.ea_model.specs.Choice.{first}
use Rattle.ea_model.specs.GoodFit.{bin_of, is_inspected, smaller_low, good_fit}
use Rattle.ea_model.specs.Strategies.{candidates, choice_among, large_enough}
use Rattle.ea_goodfit.specs.declared.fits.Fit.{Fit}
use Rattle.ea_goodfit.specs.declared.fits.Fit.TheVariants.{Good, Best, AddressOrderBest}
use Rattle.ea_goodfit.specs.declared.gaps.BinnedGap.{BinnedGap}
use Rattle.ea_goodfit.specs.Gaps.{found_by, smaller, smaller_high}
use Rattle.ea_model.proofs.Pairs.{pairs_map}
use Rattle.ea_laws.specs.Kept.{IsLaidOut, ContentsApart}
use Rattle.ea_employed.specs.Binned.{fit_of}
use Rattle.ea_employed.specs.Listed.{all_gaps, gap_of}
use Rattle.ea_laws.proofs.Candidates.{candidates-distinct}
use Rattle.ea_employed.proofs.Folding.{filter-map, fold-better-map}

-- no two gaps lie at one address
pub gaps-distinct : (cs : List Content) → All IsLaidOut cs → AllPairs ContentsApart cs
    → AllPairs (λ g h. g.address ≢ h.address) (all_gaps cs)
gaps-distinct cs sound apart = pairs_map (λ (g h : BinnedGap). g.address ≢ h.address) gap_of
    (candidates cs) (candidates-distinct cs sound apart)

module _ {A B : Type 0} (f : A → B) (address size : B → ℕ) (depth : ℕ) (xs : List A) where
  seen : B → Bool
  seen g = is_inspected address size depth (map f xs) g

  seen_mapped : A → Bool
  seen_mapped x = is_inspected (λ x. address (f x)) (λ x. size (f x)) depth xs x

  seen-same : (x : A) → seen (f x) ≡ seen_mapped x
  unfolding seen seen_mapped
  seen-same x =
      let ahead : B → Bool = λ h. (bin_of (size h) == bin_of (size (f x))) && nat_lt (address h)
      (address (f x)) in
      ap (λ n. nat_lt n depth) (ap length (filter-map f ahead xs)
      ∙ length-map (filter (λ y. ahead (f y)) xs) f)

  first_seen : (need : ℕ)
      → first (smaller_low address size)
      (filter (λ g. nat_le need (size g)) (filter seen (map f xs)))
      ≡ option_map f
      (first (smaller_low (λ x. address (f x)) (λ x. size (f x)))
      (filter (λ x. nat_le need (size (f x))) (filter seen_mapped xs)))
  first_seen need =
      let fits : B → Bool = λ g. nat_le need (size g) in
      ap (λ l. first (smaller_low address size) (filter fits l)) (filter-map f seen xs
      ∙ ap (map f) (filter_agree (λ x. seen (f x)) seen_mapped seen-same xs))
      ∙ ap (first (smaller_low address size)) (filter-map f fits (filter seen_mapped xs))
      ∙ fold-better-map f (smaller_low (λ x. address (f x)) (λ x. size (f x)))
      (smaller_low address size) (λ _ _. refl) None
      (filter (λ x. fits (f x)) (filter seen_mapped xs))

  good_fit-mapped : (need : ℕ) → good_fit address size depth need (map f xs) ≡ option_map f
      (good_fit (λ x. address (f x)) (λ x. size (f x)) depth need xs)
  unfolding seen seen_mapped
  good_fit-mapped need = first_seen need

module _ (depth need : ℕ) (cs : List Content) where
  -- the first of all gaps that fit
  best_mapped : (t : BinnedGap → BinnedGap → Bool)
      → first t (filter (λ g. nat_le need g.size) (all_gaps cs))
      ≡ option_map gap_of
      (first (λ x y. t (gap_of x) (gap_of y)) (large_enough need (candidates cs)))
  best_mapped t =
      ap (first t) (filter-map gap_of (λ g. nat_le need g.size) (candidates cs))
      ∙ fold-better-map gap_of (λ x y. t (gap_of x) (gap_of y)) t (λ _ _. refl) None
      (large_enough need (candidates cs))

  abbrev IsChosenBy : Strategy → Fit → Type 0
  IsChosenBy s f = found_by f depth need (all_gaps cs)
      ≡ option_map gap_of (choice_among s depth need cs)

  -- the gap that the bins find is the one that the strategy chooses
  pub found-chosen : (s : Strategy) (f : Fit) → Some f ≡ fit_of s → IsChosenBy s f
  found-chosen Bf f e =
      let same : f ≡ Best = cc in
      subst (IsChosenBy Bf) (sym same) (best_mapped smaller_high)
  found-chosen Aobf f e =
      let same : f ≡ AddressOrderBest = cc in
      subst (IsChosenBy Aobf) (sym same) (best_mapped smaller)
  found-chosen Gf f e =
      let same : f ≡ Good = cc in
      subst (IsChosenBy Gf) (sym same)
      (good_fit-mapped gap_of (λ g. g.address) (λ g. g.size) depth (candidates cs) need)
  found-chosen Aoff f e = absurd cc
  found-chosen AoffCbf f e = absurd cc
  found-chosen AoffCaobf f e = absurd cc
  found-chosen AgeffCaoff f e = absurd cc
  found-chosen AgeffCbf f e = absurd cc
  found-chosen AgeffCaobf f e = absurd cc
  found-chosen Af f e = absurd cc
