-- The operations themselves, once their begin is over. There are seven of them.
-- This simulator's own: the sources leave it undecided.
use Rattle.std.specs.Prelude.{ℕ, zero, suc, List, [], ◌∷◌, Option, None, Some}
use Rattle.ea_model.specs.declared.carriers.Spot.{Spot}
use Rattle.ea_model.specs.declared.operations.Op.{Op}
use Rattle.ea_model.specs.declared.operations.Op.TheVariants as op
use Rattle.ea_model.specs.declared.entries.Entry.TheVariants as entry
use Rattle.ea_model.specs.Units.{need_of}
use Rattle.ea_machine.specs.Nodes.{named_at}
use Rattle.ea_machine.specs.declared.nodes.Named.{Named}
use Rattle.ea_machine.specs.Setup.{Setup}
use Rattle.ea_machine.specs.declared.stages.Stage.TheVariants.{Ended, Giving, Taking}
use Rattle.ea_machine.specs.Actor.{Actor}
use Rattle.ea_machine.specs.declared.tasks.Task.TheVariants.{Freeing}
use Rattle.ea_machine.specs.Rows.{Answer, Got}
use Rattle.ea_machine.specs.Tasks.{halted, hands_over, let_go, logged}
use Rattle.ea_machine.specs.Placements.{holding, seek}
use Rattle.ea_machine.specs.Reallocations.{reallocated}
use Rattle.ea_machine.specs.Statistics.{informed}

-- a held name is to be given to a scheduler; another is skipped
abbrev pub giving : ℕ → ℕ → Actor → Option Named → Actor
giving name to a None = logged (entry.GiveSkipped name to) a
giving name to a (Some given) = record a { stage = Giving given to }

-- the name was given
abbrev pub gave : Named → ℕ → Actor → Actor
gave given to a = logged (entry.Give given.name to) (let_go given.name a)

-- a try to take the name found it, or not; with it, that many tries were left
abbrev pub took_by : ℕ → ℕ → ℕ → Actor → Option Spot → Actor
took_by name tries left a (Some spot) = logged (entry.Take name) (holding name spot a)
took_by name tries zero a None = logged (entry.TakeAbsent name tries) a
took_by name tries (suc zero) a None = logged (entry.TakeAbsent name tries) a
took_by name tries (suc (suc left)) a None = record a { stage = Taking name tries (suc left) }

-- the try is answered
abbrev pub took : ℕ → ℕ → ℕ → Actor → Answer → Actor
took name tries left a (Got spot) = took_by name tries left a spot
took name tries left a _ = halted a

module _ (setup : Setup) (me : ℕ) where
  -- the block of a held name is released; another name is skipped
  abbrev pub freed : ℕ → Actor → Option Named → Actor
  freed name a None = logged (entry.FreeSkipped name) a
  freed name a (Some hand) = hands_over setup me (Freeing name) hand a

  -- the first of the operations left; without one the scheduler has ended
  abbrev pub itself : Actor → List Op → Actor
  itself a [] = record a { stage = Ended }
  itself a (op.Alloc name bytes ∷ ops) = seek setup me
      (record { name = name; need = need_of bytes; old = None }) a
  itself a (op.Free name ∷ ops) = freed name a (named_at name a.held)
  itself a (op.Realloc old fresh bytes ∷ ops) = reallocated setup me old fresh (need_of bytes) a
      (named_at old a.held)
  itself a (op.Give name to ∷ ops) = giving name to a (named_at name a.held)
  itself a (op.Take name tries ∷ ops) = record a { stage = Taking name tries tries }
  itself a (op.Info ∷ ops) = informed a
  itself a (op.Idle ∷ ops) = logged entry.Idle a
