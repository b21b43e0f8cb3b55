-- How names and blocks go from one scheduler to another: one gives a name, and another takes it;
-- and a block goes to another's queue, or is released by the scheduler itself. `HasTried` counts
-- all steps of the scheduler since the operation began, so no other step lies between; the first
-- try comes a step after the begin.
-- `IsQueued` and `IsReleasedHere` point to the look at the block's carrier, or to the try after it,
-- with the log as before the entry. `IsQueued` says that the node was pushed, not that it is still
-- there: the other scheduler may have taken its queue, whose walk rests at the node until it is
-- linked, in the step that makes the entry.
-- Source: Erlang/OTP, 'Carrier Migration', section 'Migration': the employer of a pooled carrier
-- does its deallocations.
-- Source: Erlang/OTP, 'Delayed Dealloc', section 'Functionality Used to Address This problem': a
-- freed block waits in a queue.
use Rattle.std.specs.Prelude.{◌≡◌, ◌≢◌, ℕ, ◌==◌, true, false, List, [], ◌∷◌, ◌++◌, None, Some}
use Rattle.std.specs.Prelude.{count_by}
use Rattle.ea_model.specs.declared.carriers.Spot.{Spot}
use Rattle.ea_model.specs.Entries.{Entry}
use Rattle.ea_model.specs.Trace.{IsScheduler}
use Rattle.ea_machine.specs.declared.nodes.Named.{Named}
use Rattle.ea_machine.specs.Nodes.{block_node, named_at, pushed, spot_named}
use Rattle.ea_model.specs.Instance.{owner_of}
use Rattle.ea_machine.specs.Setup.{Setup, migration}
use Rattle.ea_machine.specs.Machine.{run}
use Rattle.ea_sound.specs.Turns.{IsBegun, actor_after, begun, log_after}
use Rattle.ea_sound.specs.Shown.{HasSeen, SeesEmployer, SeesItself}

-- s held the name just before its step after the steps `turns`; after this step the name is given,
-- with the spot that it had, and s holds it no longer
pub record IsGiven (setup : Setup) (turns : List ℕ) (s name : ℕ) : Type 0 where
  pub spot : Spot
  pub held : spot_named name (actor_after setup turns s).held ≡ Some spot
  pub given : spot_named name (run setup (turns ++ s ∷ [])).shared.given ≡ Some spot
  pub gone : spot_named name (actor_after setup (turns ++ s ∷ []) s).held ≡ None

-- the name was given just before the step of s after the steps `turns`; after this step s holds it,
-- with the spot that it had, and it is given no longer
pub record IsTaken (setup : Setup) (turns : List ℕ) (s name : ℕ) : Type 0 where
  pub spot : Spot
  pub given : spot_named name (run setup turns).shared.given ≡ Some spot
  pub held : spot_named name (actor_after setup (turns ++ s ∷ []) s).held ≡ Some spot
  pub gone : spot_named name (run setup (turns ++ s ∷ [])).shared.given ≡ None

-- the begin of the operation of which s made the entry in its step after the steps `turns` was over
-- in its step after `before`. Since then s took that many steps, this one the last, and just before
-- each of them the name wasn't given. After it s employs, owns and holds what it did when the begin
-- was over
pub record HasTried (setup : Setup) (turns : List ℕ) (s name tries : ℕ) : Type 0 where
  pub before : List ℕ
  pub since : List ℕ
  pub split : turns ++ s ∷ [] ≡ before ++ s ∷ since
  pub begins : IsBegun setup (run setup before) s
  pub same : (begun setup before s).log ≡ log_after setup turns s
  pub steps : count_by (λ j. j == s) since ≡ tries
  pub absent : (mid later : List ℕ) → since ≡ mid ++ s ∷ later
      → spot_named name (run setup (before ++ s ∷ mid)).shared.given ≡ None
  pub instance : (actor_after setup (turns ++ s ∷ []) s).instance
      ≡ (begun setup before s).instance
  pub held : (actor_after setup (turns ++ s ∷ []) s).held ≡ (begun setup before s).held

-- it is another scheduler than s
abbrev pub IsAnother : Setup → ℕ → ℕ → Type 0
IsAnother setup s to = IsScheduler setup.schedulers to × (to ≢ s)

-- the begin of an operation of s was over in a step among these turns, with this log, and s held
-- the name then, with the spot of its block
pub record HasHeld (setup : Setup) (turns : List ℕ) (s name : ℕ) (named : Named)
    (log : List Entry) : Type 0 where
  pub before : List ℕ
  pub since : List ℕ
  pub split : turns ≡ before ++ s ∷ since
  pub begins : IsBegun setup (run setup before) s
  pub same : (begun setup before s).log ≡ log
  pub held : named_at name (begun setup before s).held ≡ Some named

-- s pushed the node of the block to the queue of `to` in a step among these turns, with this log
pub record HasPushed (setup : Setup) (turns : List ℕ) (s : ℕ) (named : Named) (to : ℕ)
    (log : List Entry) : Type 0 where
  pub before : List ℕ
  pub since : List ℕ
  pub split : turns ≡ before ++ s ∷ since
  pub same : log_after setup before s ≡ log
  pub queue : (run setup (before ++ s ∷ [])).shared.queues to
      ≡ pushed (block_node named) ∷ (run setup before).shared.queues to

-- the block that was held under the name when the operation began, of which s made the entry in its
-- step after the steps `turns`, was pushed to the queue of another scheduler: of the employer that
-- s saw of its carrier; where carriers don't migrate, of the carrier's owner
pub record IsQueued (setup : Setup) (turns : List ℕ) (s name to : ℕ) : Type 0 where
  pub another : IsAnother setup s to
  pub named : Named
  pub held : HasHeld setup (turns ++ s ∷ []) s name named (log_after setup turns s)
  pub pushed : HasPushed setup (turns ++ s ∷ []) s named to (log_after setup turns s)
  pub seen : migration setup ≡ true
      → HasSeen setup (turns ++ s ∷ []) s (log_after setup turns s) (SeesEmployer s named to)
  pub owner : migration setup ≡ false → to ≡ owner_of named.spot.carrier

-- the block that was held under the name when an operation of s began with this log, in a step
-- among these turns, is one that s releases itself: it saw that it is the employer of its carrier;
-- where carriers don't migrate, it is the carrier's owner
pub record IsReleasedHere (setup : Setup) (turns : List ℕ) (s name : ℕ) (log : List Entry)
    : Type 0 where
  pub named : Named
  pub held : HasHeld setup turns s name named log
  pub seen : migration setup ≡ true → HasSeen setup turns s log (SeesItself s named)
  pub owner : migration setup ≡ false → owner_of named.spot.carrier ≡ s
