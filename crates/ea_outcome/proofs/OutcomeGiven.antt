-- Given names, looked up name by name.
use Rattle.std.proofs.Common.{◌≡◌, ℕ, suc, ◌+◌, ◌-◌, ◌*◌, ◌^◌, ◌<◌, ◌≤◌, List}
use Rattle.std.proofs.Common.{[], ◌∷◌, map-id, refl, sym, ap, ◌∙◌, arith}
use Rattle.std.specs.Prelude.{Option, None, Some, flat_map, sum_by}
use Rattle.std.specs.List.{range_with_len}
use Rattle.std.specs.Option.{option_map, option_map_or}
use Rattle.std.proofs.Math.Path.{fun_ext}
use Rattle.std.proofs.lemmas.List.Sums.{sum_by-append, sum_by-cons}
use Rattle.ea_model.specs.declared.carriers.Spot.{Spot}
use Rattle.ea_machine.specs.declared.nodes.Named.{Named}
use Rattle.ea_machine.specs.Nodes.{named_at, spot_named, name_of}
use Rattle.ea_machine.specs.Sums.{sum_over}
use Rattle.ea_sound.proofs.Ranged.{sum-flat}
use Rattle.ea_sound.proofs.Weights.{sum_by-sum_over}
use Rattle.ea_outcome.specs.Resting.{AreGiven}
use Rattle.ea_model.proofs.NumberedItems.{all-items, if_there, range-last}

-- one name more
sum-last : (f : ℕ → ℕ) (n : ℕ)
    → sum_by f (range_with_len 1 (n + 1)) ≡ sum_by f (range_with_len 1 n) + f (n + 1)
sum-last f n = omega (
  arith,
  ap (sum_by f) (ap (range_with_len 1) (next n) ∙ range-last n),
  sum_by-append f (range_with_len 1 n) (suc n ∷ []),
  sum_by-cons f (suc n) [],
  ap f (next n),
) where
  next : (n : ℕ) → n + 1 ≡ suc n
  next n = omega arith

abbrev AreSummed : (ℕ → ℕ) → ℕ → ℕ → Type 0
AreSummed f n units = (units ≤ (2 ^ 32 - 1) * n) × (units ≡ sum_by f (range_with_len 1 n))

pub next-summed : (f : ℕ → ℕ) (n units more new : ℕ) → AreSummed f n units → more < 2 ^ 32
    → more ≡ f (n + 1) → new ≡ units + more → AreSummed f (n + 1) new
next-summed f n units more new are small is sum =
    (omega (arith, are.0, small, sum), omega (arith, are.1, is, sum, sum-last f n))

-- what is given for a spot, if there is one
abbrev pub of_spot : (Spot → ℕ) → Option Spot → ℕ
of_spot f o = option_map_or f o 0

-- what is given for the spot of a name
abbrev pub of_name : (Spot → ℕ) → List Named → ℕ → ℕ
of_name f given name = of_spot f (spot_named name given)

pub missing : (o : Option Spot) → ((p : Spot) → o ≡ Some p → ⊥) → o ≡ None
missing None not = refl
missing (Some p) not = absurd (not p refl)

-- where the names are found one by one, all are
module _ (f : Spot → ℕ) (greatest : ℕ) (given : List Named) (are : AreGiven greatest given) where
  abbrev of_named : Named → ℕ
  of_named n = f n.spot

  abbrev found : ℕ → List Named
  found name = if_there (λ n. n) (named_at name given)

  all-found : flat_map found (range_with_len 1 greatest) ≡ given
  all-found = all-items name_of (λ n. n) found greatest 1 given are.rising
      (λ k d within. let at = are.within k d within in (at.0, omega (arith, at.1)))
      (λ k from below. refl)
      ∙ map-id given

  found-sum : (o : Option Named) → sum_over of_named (if_there (λ n. n) o)
      ≡ of_spot f (option_map (λ n. n.spot) o)
  found-sum None = refl
  found-sum (Some n) = omega arith

  -- so all of them are summed up
  pub given-sum : (n : ℕ) → n ≡ greatest
      → sum_by (of_name f given) (range_with_len 1 n) ≡ sum_by of_named given
  given-sum n same =
      let numbers = range_with_len 1 greatest in
      ap (λ k. sum_by (of_name f given) (range_with_len 1 k)) same
      ∙ sum_by-sum_over (of_name f given) numbers
      ∙ ap (λ (g : ℕ → ℕ). sum_over g numbers)
      (fun_ext (λ name. sym (found-sum (named_at name given))))
      ∙ sym (sum-flat of_named found numbers)
      ∙ ap (sum_over of_named) all-found
      ∙ sym (sum_by-sum_over of_named given)
