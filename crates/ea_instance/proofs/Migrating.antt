-- Which carriers migrate.
use Rattle.std.specs.Prelude.{Bool, nat_le, Option, None, Some, IfSome, ◌&&◌, not}
use Rattle.std.proofs.Common.{All, List, ◌≡◌, ℕ, zero, suc, ◌<◌, true, false, refl, sym, ap}
use Rattle.std.proofs.Common.{◌∙◌, arith}
use Rattle.ea_model.specs.declared.settings.Settings.{Settings}
use Rattle.ea_model.specs.declared.settings.Strategy.{Strategy}
use Rattle.ea_model.specs.declared.settings.Strategy.TheVariants.{Bf, Aobf, Aoff, AoffCbf}
use Rattle.ea_model.specs.declared.settings.Strategy.TheVariants.{AoffCaobf, AgeffCaoff, AgeffCbf}
use Rattle.ea_model.specs.declared.settings.Strategy.TheVariants.{AgeffCaobf, Gf, Af}
use Rattle.ea_model.specs.Settings.{IsValid, can_migrate}
use Rattle.ea_model.specs.Abandonment.{are_sparse, has_large_gap, is_due, is_sparse_carrier}
use Rattle.ea_model.specs.Content.{Content, is_multi, is_nil}
use Rattle.ea_model.specs.Instance.{content_of}
use Rattle.ea_model.proofs.Rising.{item_at-All}
use Rattle.ea_laws.specs.Kept.{IsLaidOutAlone, number_of}
use Rattle.ea_employed.specs.Binned.{has_bins}

-- a strategy under which they do has no bins
migrates-binless : (t : Strategy) → can_migrate t ≡ true → has_bins t ≡ false
migrates-binless Bf can = absurd cc
migrates-binless Aobf can = absurd cc
migrates-binless Aoff can = refl
migrates-binless AoffCbf can = refl
migrates-binless AoffCaobf can = refl
migrates-binless AgeffCaoff can = refl
migrates-binless AgeffCbf can = refl
migrates-binless AgeffCaobf can = refl
migrates-binless Gf can = absurd cc
migrates-binless Af can = absurd cc

pub migrates-no_bins : (s : Settings) → IsValid s → 0 < s.acul → has_bins s.strategy ≡ false
migrates-no_bins s valid some = migrates-binless s.strategy (valid.migrates some)

pub bins-stay : (s : Settings) → IsValid s → has_bins s.strategy ≡ true → s.acul ≡ 0
bins-stay s valid bins = by s.acul refl where
  by : (n : ℕ) → s.acul ≡ n → n ≡ 0
  by zero q = refl
  by (suc n) q =
      absurd (let never : true ≡ false = sym bins
      ∙ migrates-no_bins s valid (omega (arith, q)) in cc)

and_false : (b : Bool) → b && false ≡ false
and_false true = refl
and_false false = refl

-- no singleblock carrier is abandoned
pub singles-stay : (s : Settings) (count : ℕ) (xs : List Content) (number : ℕ) (ss : List Content)
    → All IsLaidOutAlone ss → IfSome (content_of ss number) (λ x. false ≡ is_due s count xs x)
singles-stay s count xs number ss alone = by (content_of ss number) refl where
  by : (o : Option Content) → content_of ss number ≡ o
      → IfSome o (λ x. false ≡ is_due s count xs x)
  by None none = tt
  by (Some x) there =
      sym (ap (λ k. nat_le count 0 && (is_multi k && not (is_nil x.blocks)
      && (is_sparse_carrier s x && are_sparse s xs && has_large_gap s x)))
      (item_at-All number_of IsLaidOutAlone number x ss alone there).single
      ∙ and_false (nat_le count 0))
