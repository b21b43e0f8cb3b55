-- That no scheduler wants a row that it may not do.
use Rattle.std.specs.Prelude.{◌≡◌, ℕ, Bool, true, false}
use Rattle.ea_machine.specs.Setup.{Setup, migration}
use Rattle.ea_machine.specs.State.{State}
use Rattle.ea_machine.specs.Rows.{Row, TakeAll, TakeLink, Look, Push, Link, BusyTry, Settle}
use Rattle.ea_machine.specs.Rows.{Abandon, FetchTry, Create, SendHome, Clear, Give, TakeTry}
use Rattle.ea_machine.specs.Rows.{Nothing}
use Rattle.ea_machine.specs.Guards.{Guard}
use Rattle.ea_machine.specs.Machine.{wants}

-- whether a row reads or writes an owner word
abbrev pub is_on_word : Row → Bool
is_on_word TakeAll = false
is_on_word TakeLink = false
is_on_word (Look number) = true
is_on_word (Push node to) = false
is_on_word (Link node to) = false
is_on_word (BusyTry number seen) = true
is_on_word (Settle x) = true
is_on_word (Abandon x) = true
is_on_word (FetchTry number seen) = true
is_on_word (Create number) = true
is_on_word (SendHome x) = true
is_on_word (Clear number) = true
is_on_word (Give given) = false
is_on_word (TakeTry name) = false
is_on_word Nothing = false

-- the row that a scheduler wants has its guard, and where carriers don't migrate it is on no owner
-- word
pub record IsGuarded (setup : Setup) (state : State) : Type 0 where
  pub guard : (s : ℕ) → Guard setup s (state.actors s) state.shared (wants (state.actors s))
  pub words : migration setup ≡ false → (s : ℕ) → is_on_word (wants (state.actors s)) ≡ false
