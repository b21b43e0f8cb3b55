-- Where blocks and carriers lie. `LaysOut` is this part of a sound state.
use Rattle.std.specs.Prelude.{◌≢◌, ◌⊎◌, ℕ, ◌+◌, All}
use Rattle.ea_model.specs.Content.{Content}
use Rattle.ea_model.specs.Trace.{IsScheduler}
use Rattle.ea_laws.specs.Kept.{ContentsApart, IsKept, IsLaidOut, IsLaidOutAlone}
use Rattle.ea_machine.specs.Setup.{Setup, first_page}
use Rattle.ea_machine.specs.State.{State}
use Rattle.ea_sound.specs.Contents.{AtHome, Everywhere, InHand}

-- a content may have many blocks, or is that of a singleblock carrier; its blocks lie in order
abbrev pub IsLaidOutAsKind : Content → Type 0
IsLaidOutAsKind x = IsLaidOut x ⊎ IsLaidOutAlone x

-- another carrier than x has no unit in common with it
abbrev pub IsApartFrom : Content → Content → Type 0
IsApartFrom x y = x.number ≢ y.number → ContentsApart x y

-- in each main or multiblock carrier, wherever it is, the blocks lie one after another between its
-- header and its end, even and of 6 units at least, with whole gaps between them; in each
-- singleblock carrier lies one block at most, after the header. Singleblock carriers stand in a
-- list of their own. No two carriers have a unit in common. Those that an instance owns have its
-- numbers, and lie in its region
pub record LaysOut (setup : Setup) (state : State) : Type 0 where
  pub contents : (i : ℕ) → All IsLaidOut (state.actors i).instance.contents
  pub singles : (i : ℕ) → All IsLaidOutAlone (state.actors i).instance.singles
  pub in_hand : (i : ℕ) → InHand IsLaidOut IsLaidOutAsKind (state.actors i).stage
  pub home : (number : ℕ) → AtHome IsLaidOut (state.shared.places number)
  pub apart : Everywhere (λ x. Everywhere (IsApartFrom x) state) state
  pub own : (i : ℕ) → IsScheduler setup.schedulers i
      → IsKept setup.settings i (first_page setup i) (first_page setup i + setup.pages)
      (state.actors i).instance.own
