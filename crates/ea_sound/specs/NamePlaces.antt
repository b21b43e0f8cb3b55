-- Where the names of blocks stand. `PlacesNames` is this part of a sound state.
-- Source: Erlang/OTP, 'Delayed Dealloc', section 'Functionality Used to Address This problem': a
-- freed block waits in a queue.
use Rattle.std.specs.Prelude.{◌≡◌, ℕ, ◌+◌, ◌≤◌, AllPairs}
use Rattle.ea_model.specs.declared.carriers.Spot.{Spot}
use Rattle.ea_model.specs.Keyed.{IsBelow}
use Rattle.ea_machine.specs.Nodes.{name_of}
use Rattle.ea_machine.specs.Setup.{Setup}
use Rattle.ea_machine.specs.State.{State}
use Rattle.ea_sound.specs.Names.{allocated, only, only_at, standing, to_make}

-- a name stands in one place at most: a scheduler holds it, or it is given away, in a queue, in a
-- walk or in a hand; and while an operation is still to make it, it stands nowhere. The names that
-- stand are those of the blocks, each at its block's spot. Held and given names stand by rising
-- name
pub record PlacesNames (setup : Setup) (state : State) : Type 0 where
  pub one : (name : ℕ) → standing setup (only name) state + to_make setup name state ≤ 1
  pub allocated : (name : ℕ) (spot : Spot)
      → standing setup (only_at name spot) state ≡ allocated setup (only_at name spot) state
  pub held : (i : ℕ) → AllPairs (IsBelow name_of) (state.actors i).held
  pub given : AllPairs (IsBelow name_of) state.shared.given
