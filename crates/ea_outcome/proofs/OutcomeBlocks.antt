-- Where each held name has its block, so has each spot of the groups of names; and so has the spot
-- of a given name.
use Rattle.std.proofs.Common.{◌≡◌, ℕ, true, false, List, get_or, refl, ap, subst, arith}
use Rattle.std.specs.Prelude.{All, Bool, IfSome, Option, None, Some, sum_by}
use Rattle.std.specs.Option.{option_map, option_map_or}
use Rattle.std.proofs.lemmas.List.Elements.{All-weaker}
use Rattle.std.proofs.lemmas.List.Sums.{get_or-le-sum_by}
use Rattle.ea_model.specs.declared.carriers.Spot.{Spot}
use Rattle.ea_model.proofs.Options.{same-some}
use Rattle.ea_model.proofs.Rising.{item_at-All}
use Rattle.ea_machine.specs.declared.nodes.Named.{Named}
use Rattle.ea_machine.specs.Nodes.{name_of, named_at, spot_named}
use Rattle.ea_sound.proofs.Weights.{sum-zero, sum_by-sum_over}

-- what holds of the spots of names holds of the spot of one
pub spot-holds : (P : Spot → Type 0) (name : ℕ) (p : Spot) (names : List Named)
    → All (λ n. P n.spot) names → spot_named name names ≡ Some p → P p
spot-holds P name p names all is = by (named_at name names) refl is where
  by : (o : Option Named) → named_at name names ≡ o → option_map (λ n. n.spot) o ≡ Some p → P p
  by None there same = absurd cc
  by (Some n) there same = subst P (same-some (Some n.spot) n.spot p refl same)
      (item_at-All name_of (λ n. P n.spot) name n names all there)

-- 1 for a spot that has no block
abbrev missing : Bool → ℕ
missing true = 0
missing false = 1

not-missing : (b : Bool) → b ≡ true → missing b ≡ 0
not-missing b is = ap missing is

there : (b : Bool) → missing b ≡ 0 → b ≡ true
there true none = refl
there false none = absurd (omega (arith, none))

module _ (has : Spot → Bool) where
  abbrev missing_at : Spot → ℕ
  missing_at p = missing (has p)

  spot-there : (o : Option Spot) → option_map_or missing_at o 0 ≡ 0 → IfSome o (λ p. has p ≡ true)
  spot-there None is = tt
  spot-there (Some p) is = there (has p) is

  -- the groups have the spots of these names
  pub group-holds : {G : Type 0} (items : G → List (Option Spot)) (groups : List G)
      (names : List Named)
      → ((f : Spot → ℕ) → sum_by (λ n. f n.spot) names
      ≡ sum_by (λ g. sum_by (λ s. option_map_or f s 0) (items g)) groups)
      → All (λ n. has n.spot ≡ true) names
      → All (λ g. All (λ s. IfSome s (λ p. has p ≡ true)) (items g)) groups
  group-holds items groups names sums all = λ k g within j s inside.
      let in_group = λ (s : Option Spot). option_map_or missing_at s 0 in
      let group = get_or groups k g in
      spot-there (get_or (items group) j s) (omega (
        arith,
        sums missing_at,
        sum_by-sum_over (λ (n : Named). missing_at n.spot) names,
        sum-zero (λ (n : Named). missing_at n.spot) names
            (All-weaker (λ (n : Named). has n.spot ≡ true) (λ (n : Named). missing_at n.spot ≡ 0)
            (λ n is. not-missing (has n.spot) is) names all),
        get_or-le-sum_by (λ g. sum_by in_group (items g)) groups k g within,
        get_or-le-sum_by in_group (items group) j s inside,
      ))
