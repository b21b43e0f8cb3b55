-- The run of a trace by its lines, as it stands after some.
use Rattle.std.specs.Prelude.{◌≡◌, ℕ, List, [], ◌++◌, All}
use Rattle.ea_machine.specs.Machine.{run}
use Rattle.ea_given.specs.declared.run.GivenRun.{GivenRun}
use Rattle.ea_given.specs.Runs.{GoesOn, HasScheduler, IsRun}
use Rattle.ea_recorded.specs.Order.{line_turns, turns_in_order}

-- it is some run of a valid trace, after some turns, and no scheduler of it stops
pub record IsUnstopped (r : GivenRun) : Type 0 where
  pub is : IsRun r
  pub stops : r.trace.now.stops.items ≡ []

-- it has a scheduler of each of these numbers
abbrev pub AllTheirs : List ℕ → GivenRun → Type 0
AllTheirs order r = All (λ me. HasScheduler me r) order

-- it has taken the turns of a line of the scheduler
abbrev pub HasRun : ℕ → GivenRun → GivenRun → Type 0
HasRun me = GoesOn (λ setup turns. turns ++ line_turns setup (run setup turns) me)

-- it has taken those of lines of these schedulers, one after another
abbrev pub HasRunAll : List ℕ → GivenRun → GivenRun → Type 0
HasRunAll order = GoesOn (λ setup turns. turns ++ turns_in_order setup (run setup turns) order)
