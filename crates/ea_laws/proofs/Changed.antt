-- A change of one content that keeps its number, base and units.
use Rattle.std.proofs.Common.{◌≡◌, ◌≢◌, ℕ, List, sym, ap, ◌∙◌, refl, inl, inr}
use Rattle.std.specs.Prelude.{Some}
use Rattle.std.specs.Option.{option_and_then}
use Rattle.std.proofs.lemmas.Bool.{cases_eq}
use Rattle.ea_model.specs.declared.carriers.Spot.{Spot}
use Rattle.ea_model.specs.Content.{Content, block_at, placed, released, resized}
use Rattle.ea_model.specs.Instance.{content_of, changed, block_in}
use Rattle.ea_model.proofs.Rising.{changed-found, changed-other}
use Rattle.ea_laws.specs.Kept.{number_of}
use Rattle.ea_laws.specs.Spots.{IsOther}

pub record KeepsPlace (f : Content → Content) : Type 0 where
  pub number : (c : Content) → (f c).number ≡ c.number
  pub base : (c : Content) → (f c).base ≡ c.base
  pub birth : (c : Content) → (f c).birth ≡ c.birth
  pub units : (c : Content) → (f c).units ≡ c.units
  pub kind : (c : Content) → (f c).kind ≡ c.kind

-- a placement and a release change blocks alone
pub placed-keeps : (offset need name : ℕ) → KeepsPlace (λ c. placed c offset need name)
placed-keeps offset need name = record {
  number = λ _. refl;
  base = λ _. refl;
  birth = λ _. refl;
  units = λ _. refl;
  kind = λ _. refl;
}

pub released-keeps : (offset : ℕ) → KeepsPlace (λ c. released c offset)
released-keeps offset = record {
  number = λ _. refl;
  base = λ _. refl;
  birth = λ _. refl;
  units = λ _. refl;
  kind = λ _. refl;
}

-- and so does another size of a block
pub resized-keeps : (offset size name : ℕ) → KeepsPlace (λ c. resized c offset size name)
resized-keeps offset size name = record {
  number = λ _. refl;
  base = λ _. refl;
  birth = λ _. refl;
  units = λ _. refl;
  kind = λ _. refl;
}

module _ (f : Content → Content) (k : KeepsPlace f) (n : ℕ) where
  -- the block at a spot of the changed content
  pub block_in-here : (cs : List Content) (c : Content) (spot : Spot) → content_of cs n ≡ Some c
      → spot.carrier ≡ n → block_in (changed f n cs) spot ≡ block_at (f c).blocks spot.offset
  block_in-here cs c spot there e =
      ap (option_and_then (λ (x : Content). block_at x.blocks spot.offset))
      (ap (content_of (changed f n cs)) e ∙ changed-found number_of f n k.number c cs there)

  -- blocks at other spots stay
  pub block_in-others : (cs : List Content) (c : Content) (offset : ℕ) (spot : Spot)
      → content_of cs n ≡ Some c
      → ((at : ℕ) → at ≢ offset → block_at (f c).blocks at ≡ block_at c.blocks at)
      → IsOther n offset spot
      → block_in (changed f n cs) spot ≡ block_in cs spot
  block_in-others cs c offset spot there stays other =
      elim (cases_eq spot.carrier n) [
        | inl e ↦ block_in-here cs c spot there e ∙ stays spot.offset (other e)
            ∙ sym (ap (option_and_then (λ (x : Content). block_at x.blocks spot.offset))
            (ap (content_of cs) e ∙ there))
        | inr apart ↦ ap (option_and_then (λ (x : Content). block_at x.blocks spot.offset))
            (changed-other number_of f n k.number spot.carrier cs apart)
      ]
