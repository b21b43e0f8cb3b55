-- States in the middle of a step. Words of proofs: no clause of `run` names them.
use Rattle.std.specs.Prelude.{ℕ}
use Rattle.ea_model.specs.Content.{Content}
use Rattle.ea_machine.specs.declared.stages.Stage.{Stage}
use Rattle.ea_machine.specs.Actor.{Actor}
use Rattle.ea_machine.specs.Shared.{Shared, put}
use Rattle.ea_machine.specs.State.{State}

-- the state where what is shared is `s`, and scheduler `me` is `a`
abbrev pub with_actor : State → Shared → ℕ → Actor → State
with_actor w s me a = record { shared = s; actors = put w.actors me a }

-- the scheduler at a stage
abbrev pub at : Stage Content → Actor → Actor
at stage a = record a { stage = stage }
