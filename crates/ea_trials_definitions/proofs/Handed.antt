-- Worked entries of blocks that were queued, and released, from what is computed of the run.
use Rattle.std.proofs.Common.{◌≡◌, ◌≢◌, ℕ, true, List, [], ◌∷◌, ◌++◌, Some, sym, ◌∙◌}
use Rattle.std.proofs.lemmas.Bool.{true≢false}
use Rattle.ea_model.specs.Entries.{Entry}
use Rattle.ea_model.specs.Trace.{IsScheduler}
use Rattle.ea_machine.specs.declared.nodes.Named.{Named}
use Rattle.ea_machine.specs.Machine.{run}
use Rattle.ea_machine.specs.Nodes.{block_node, named_at, pushed}
use Rattle.ea_machine.specs.Setup.{Setup, migration}
use Rattle.ea_sound.specs.Entries.{IsDone}
use Rattle.ea_sound.specs.HandedOver.{HasHeld, IsQueued}
use Rattle.ea_sound.specs.Released.{blocks_named}
use Rattle.ea_sound.specs.Shown.{SeesEmployer, SeesItself}
use Rattle.ea_sound.specs.Turns.{IsBegun, begun, log_after}

-- the name was held when the operation began in one of these turns
pub was_held : (setup : Setup) (turns before since : List ℕ) (s name : ℕ) (named : Named)
    (then now : List Entry)
    → turns ≡ before ++ s ∷ since
    → IsBegun setup (run setup before) s
    → (begun setup before s).log ≡ then
    → now ≡ then
    → named_at name (begun setup before s).held ≡ Some named
    → HasHeld setup turns s name named now
was_held setup turns before since s name named then now split begins was is held = record {
  before = before;
  since = since;
  split = split;
  begins = begins;
  same = was ∙ sym is;
  held = held;
}

-- a block is queued to the employer of its carrier, where carriers migrate
pub queued : (setup : Setup) (turns : List ℕ) (s name to : ℕ) (named : Named) (log : List Entry)
    (push after_push look after_look : List ℕ)
    → migration setup ≡ true
    → IsScheduler setup.schedulers to
    → to ≢ s
    → log_after setup turns s ≡ log
    → HasHeld setup (turns ++ s ∷ []) s name named (log_after setup turns s)
    → turns ++ s ∷ [] ≡ push ++ s ∷ after_push
    → log_after setup push s ≡ log
    → (run setup (push ++ s ∷ [])).shared.queues to
    ≡ pushed (block_node named) ∷ (run setup push).shared.queues to
    → turns ++ s ∷ [] ≡ look ++ s ∷ after_look
    → log_after setup look s ≡ log
    → SeesEmployer s named to (run setup look)
    → IsQueued setup turns s name to
queued setup turns s name to named log push after_push look after_look on scheduler other now held
    pushes then queue looks before sees = record {
      another = (scheduler, other);
      named = named;
      held = held;
      pushed = record {
        before = push;
        since = after_push;
        split = pushes;
        same = then ∙ sym now;
        queue = queue;
      };
      seen = λ m. record {
        before = look;
        since = after_look;
        split = looks;
        same = before ∙ sym now;
        sees = sees;
      };
      owner = λ off. absurd (true≢false (sym on ∙ off));
    }

-- a block is released by the scheduler itself, where carriers migrate
pub released : (setup : Setup) (turns : List ℕ) (s name : ℕ) (named : Named) (log : List Entry)
    (look after_look : List ℕ)
    → migration setup ≡ true
    → blocks_named setup name (run setup (turns ++ s ∷ [])) ≡ 0
    → log_after setup turns s ≡ log
    → HasHeld setup (turns ++ s ∷ []) s name named (log_after setup turns s)
    → turns ++ s ∷ [] ≡ look ++ s ∷ after_look
    → log_after setup look s ≡ log
    → SeesItself s named (run setup look)
    → IsDone setup turns s name
released setup turns s name named log look after_look on none now held looks before sees = (
  none,
  record {
    named = named;
    held = held;
    seen = λ m. record {
      before = look;
      since = after_look;
      split = looks;
      same = before ∙ sym now;
      sees = sees;
    };
    owner = λ off. absurd (true≢false (sym on ∙ off));
  },
)
