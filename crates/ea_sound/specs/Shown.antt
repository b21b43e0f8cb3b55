-- What a scheduler sees of the carrier of a block that its operation releases: who employs it. An
-- operation looks once at the carrier of the block that it releases, and tries once to make it
-- busy.
-- Source: Erlang/OTP, 'Carrier Migration', section 'Migration': the employer of a pooled carrier
-- does its deallocations.
use Rattle.std.specs.Prelude.{◌≡◌, ℕ, List, ◌∷◌, ◌++◌}
use Rattle.ea_model.specs.Entries.{Entry}
use Rattle.ea_model.specs.Content.{Content}
use Rattle.ea_machine.specs.declared.owners.OwnerWord.{OwnerWord}
use Rattle.ea_machine.specs.declared.owners.OwnerWord.TheVariants as word
use Rattle.ea_machine.specs.declared.nodes.Named.{Named}
use Rattle.ea_machine.specs.declared.stages.Stage.TheVariants.{Routed}
use Rattle.ea_machine.specs.declared.stages.Route.{Route}
use Rattle.ea_machine.specs.declared.stages.Route.TheVariants.{Looking, Trying}
use Rattle.ea_machine.specs.declared.tasks.Task.{Task}
use Rattle.ea_machine.specs.declared.tasks.Why.TheVariants.{For}
use Rattle.ea_machine.specs.declared.tasks.Gone.TheVariants.{Open}
use Rattle.ea_machine.specs.Rows.{Lost, Saw, Won}
use Rattle.ea_machine.specs.Setup.{Setup}
use Rattle.ea_machine.specs.State.{State}
use Rattle.ea_machine.specs.Machine.{run}
use Rattle.ea_sound.specs.Turns.{answered, log_after}

-- the owner word shows this employer of the carrier: it employs it, or has put it into the pool, or
-- has made it busy there
abbrev pub ShowsEmployer : ℕ → OwnerWord → Type 0
ShowsEmployer to word.Absent = ⊥
ShowsEmployer to (word.Employed i) = i ≡ to
ShowsEmployer to (word.Pooled i largest) = i ≡ to
ShowsEmployer to (word.Busy i) = i ≡ to
ShowsEmployer to (word.Returning i) = ⊥

-- the row of a route is next for a block that an operation of s releases, and nothing became of the
-- block before
abbrev pub IsOnRoute : State → ℕ → Task → Route Content → Type 0
IsOnRoute state s task route = (state.actors s).stage ≡ Routed route (For task) Open

-- s looks at the carrier of the block, and sees this employer; or it tries to make the carrier
-- busy, which it has put into the pool, and the try is lost to this employer
pub data SeesEmployer (s : ℕ) (named : Named) (to : ℕ) (state : State) : Type 0 where
  Looks : (task : Task) (seen : OwnerWord) (on : IsOnRoute state s task (Looking named))
      (saw : answered state s ≡ Saw seen) (shows : ShowsEmployer to seen)
      → SeesEmployer s named to state
  Loses : (task : Task) (largest : ℕ) (present : OwnerWord)
      (on : IsOnRoute state s task (Trying named (word.Pooled s largest)))
      (lost : answered state s ≡ Lost present) (shows : ShowsEmployer to present)
      → SeesEmployer s named to state

-- s looks at the carrier of the block, and sees that it employs the carrier itself; or it makes the
-- carrier busy, which it has put into the pool
pub data SeesItself (s : ℕ) (named : Named) (state : State) : Type 0 where
  Employs : (task : Task) (on : IsOnRoute state s task (Looking named))
      (saw : answered state s ≡ Saw (word.Employed s)) → SeesItself s named state
  Wins : (task : Task) (largest : ℕ) (x : Content)
      (on : IsOnRoute state s task (Trying named (word.Pooled s largest)))
      (won : answered state s ≡ Won x) → SeesItself s named state

-- s saw that in a step among these turns, with this log
pub record HasSeen (setup : Setup) (turns : List ℕ) (s : ℕ) (log : List Entry)
    (Sees : State → Type 0) : Type 0 where
  pub before : List ℕ
  pub since : List ℕ
  pub split : turns ≡ before ++ s ∷ since
  pub same : log_after setup before s ≡ log
  pub sees : Sees (run setup before)
