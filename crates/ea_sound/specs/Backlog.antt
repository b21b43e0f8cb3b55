-- That what is queued to a scheduler is worked off in the order in which it came.
use Rattle.std.specs.Prelude.{◌≡◌, ◌≢◌, ℕ, Bool, true, false, ◌==◌, List, [], ◌∷◌, ◌++◌}
use Rattle.ea_machine.specs.declared.nodes.Node.{Node}
use Rattle.ea_machine.specs.Machine.{run, wants}
use Rattle.ea_machine.specs.Nodes.{Mark}
use Rattle.ea_machine.specs.Rows.{Row, TakeAll, TakeLink, Look, Push, Link, BusyTry, Settle}
use Rattle.ea_machine.specs.Rows.{Abandon, FetchTry, Create, SendHome, Clear, Give, TakeTry}
use Rattle.ea_machine.specs.Rows.{Nothing}
use Rattle.ea_machine.specs.Setup.{Setup}
use Rattle.ea_machine.specs.State.{State}
use Rattle.ea_sound.specs.Turns.{actor_after}

-- the nodes of a queue or of a walk, which have the newest first, oldest first
abbrev pub oldest_first : List Mark → List Node
oldest_first [] = []
oldest_first (m ∷ ms) = oldest_first ms ++ m.node ∷ []

-- what scheduler s has still to work off, oldest first: what its walk has before it, what the walk
-- has passed, and what came to the queue since that was taken
abbrev pub backlog : State → ℕ → List Node
backlog state s = oldest_first (state.shared.rests s) ++ (state.actors s).passed
    ++ oldest_first (state.shared.queues s)

-- the node that a row brings to s
abbrev pub brought_if : Bool → Node → List Node
brought_if true node = node ∷ []
brought_if false node = []

abbrev pub brought : ℕ → Row → List Node
brought s (Push node to) = brought_if (s == to) node
brought s TakeAll = []
brought s TakeLink = []
brought s (Look number) = []
brought s (Link node to) = []
brought s (BusyTry number seen) = []
brought s (Settle x) = []
brought s (Abandon x) = []
brought s (FetchTry number seen) = []
brought s (Create number) = []
brought s (SendHome x) = []
brought s (Clear number) = []
brought s (Give given) = []
brought s (TakeTry name) = []
brought s Nothing = []

-- in a step of j, s works off these nodes, and has still to work off the others and the one that j
-- brings. Only in its own step does it work off any
pub record WorksOff (setup : Setup) (turns : List ℕ) (j s : ℕ) : Type 0 where
  pub done : List Node
  pub rest : List Node
  pub before : backlog (run setup turns) s ≡ done ++ rest
  pub after : backlog (run setup (turns ++ j ∷ [])) s
      ≡ rest ++ brought s (wants (actor_after setup turns j))
  pub own : j ≢ s → done ≡ []

-- the oldest nodes are worked off first
abbrev pub WorksOffInOrder : Setup → Type 0
WorksOffInOrder setup = (turns : List ℕ) (j s : ℕ) → WorksOff setup turns j s
