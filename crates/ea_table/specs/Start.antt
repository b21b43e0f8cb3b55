-- The words of the table before the first step.
use Rattle.std.specs.Prelude.{◌≡◌, ℕ, ◌*◌, ◌<◌, ◌≤◌, List, length, slice_index}
use Rattle.ea_model.specs.declared.settings.Config.{Config}
use Rattle.ea_model.specs.declared.trace.Trace.{Trace}
use Rattle.ea_model.specs.declared.units.TheConstants.{NUMBERS}
use Rattle.ea_machine.specs.Machine.{first_place}
use Rattle.ea_machine.specs.Owners.{CarrierAt}
use Rattle.ea_machine.specs.Setup.{setup_of}
use Rattle.ea_table.specs.Words.{owner_at, place_code, words_in}

-- the owner words are those of carriers at these places, and all others are 0
pub record HasOwners (n g : ℕ) (ws : List ℕ) (places : ℕ → CarrierAt) : Type 0 where
  pub count : length ws ≡ words_in n g
  pub others : (i : ℕ) → i < owner_at n g 1 → slice_index ws i ≡ 0
  pub owners : (number : ℕ) → 1 ≤ number → number ≤ NUMBERS * n
      → slice_index ws (owner_at n g number) ≡ place_code (places number)

-- the owner words are those of the main carriers, if carriers migrate and there are some
abbrev pub AreFirst : Config → Trace → List ℕ → Type 0
AreFirst c t ws = HasOwners c.schedulers t.greatest ws (first_place (setup_of c t))
