-- Once its walk is over a scheduler may do its next operation: the name that this brings has a
-- place and isn't held, and the block of a held name lies where the operation asks for it.
use Rattle.std.proofs.Common.{◌≡◌, ℕ, ◌≤◌, true, false, List}
use Rattle.std.proofs.Common.{◌∷◌, drop, refl, sym, ap, ◌∙◌, subst, arith}
use Rattle.std.specs.Prelude.{Option, None, Some, IfSome, option_map}
use Rattle.std.proofs.lemmas.List.Elements.{All-drop, All-head}
use Rattle.ea_model.specs.declared.operations.Op.{Op}
use Rattle.ea_model.specs.declared.operations.Op.TheVariants as op
use Rattle.ea_model.specs.Instance.{Instance}
use Rattle.ea_model.specs.Settings.{IsValidConfig}
use Rattle.ea_model.specs.Trace.{IsOperation, IsScheduler, IsValidTrace, greatest_in, name_brought}
use Rattle.ea_model.proofs.Rising.{item_at-key}
use Rattle.ea_machine.specs.declared.nodes.Named.{Named}
use Rattle.ea_machine.specs.declared.nodes.Node.{Node}
use Rattle.ea_machine.specs.declared.stages.Stage.TheVariants.{Begin}
use Rattle.ea_machine.specs.Actor.{Actor}
use Rattle.ea_machine.specs.Machine.{IsReached}
use Rattle.ea_machine.specs.Nodes.{named_at, name_of}
use Rattle.ea_machine.specs.Setup.{Setup, is_scheduler, migration}
use Rattle.ea_machine.specs.Shared.{Shared}
use Rattle.ea_machine.specs.State.{State}
use Rattle.ea_names.specs.Holding.{has_place}
use Rattle.ea_sound.specs.Leaves.{InWalk}
use Rattle.ea_sound.specs.Moments.{at}
use Rattle.ea_sound.proofs.Asked.{first-operation}
use Rattle.ea_sound.proofs.OffWalks.{walk-here, walk-own}
use Rattle.ea_sound.proofs.HeldBlocks.{walk-alloc, walk-block, walk-realloc}
use Rattle.ea_sound.proofs.SoundRanges.{number-scheduler}
use Rattle.ea_sched.specs.declared.state.Scheduler.{Scheduler}
use Rattle.ea_sched.specs.Acting.{actor_of, setup_for}
use Rattle.ea_sched.specs.Brought.{HavePlaces, is_placed}
use Rattle.ea_sched.specs.Asking.{HasName, IsFresh, IsHere, Lies, Suits, SuitsNext}

-- the name that the next operation of a scheduler brings has a place
pub next-placed : (s : Scheduler) (o : Op) (ops : List Op) → drop s.done s.text.now ≡ o ∷ ops
    → is_placed s.names.places (name_brought o) ≡ true
next-placed s o ops left = All-head (λ p. is_placed s.names.places (name_brought p) ≡ true) o ops
    (subst (HavePlaces s.names.places) left
    (All-drop (λ p. is_placed s.names.places (name_brought p) ≡ true) s.done s.text.now s.places))

-- a scheduler that has these operations left in a reached state
module _ (s : Scheduler) (valid : IsValidConfig s.config)
    (made : IsValidTrace s.config.schedulers s.trace.now) (w : State)
    (reached : IsReached (setup_for s) w)
    (todo : (w.actors s.number).todo ≡ drop s.done s.text.now) where
  abbrev e : Setup
  e = setup_for s

  abbrev me : ℕ
  me = s.number

  number : IsScheduler s.config.schedulers me
  number = (s.number_from, s.number_to)

  is : is_scheduler e me ≡ true
  is = number-scheduler e me number

  -- in its walk
  abbrev walker : Instance → List Node → Actor
  walker i ns = record (actor_of s) { instance = i; passed = ns }

  -- once that is over it may do the next operation
  module _ (v : State) (part : Shared) (i : Instance) (ns : List Node)
      (walks : InWalk e v part me (at Begin (walker i ns))) where
    abbrev a : Actor
    a = walker i ns

    off : s.migrates ≡ false → migration e ≡ false
    off stays = sym s.migrates_so ∙ stays

    has_name : (name : ℕ) → name ≤ s.trace.now.greatest → HasName i s name
    has_name name upto = (omega (arith, upto, s.names_upto), by (named_at name s.names.held) refl)
      where
        by : (o : Option Named) → named_at name s.names.held ≡ o → IfSome o (IsHere i s)
        by None held = tt
        by (Some x) held = record {
          name = omega
              (arith, item_at-key name_of name x s.names.held held, upto, s.names_upto);
          block = λ stays. walk-here e v part me is (off stays) a walks name x held;
          own = λ stays. walk-own e v part me is (off stays) a walks name x held;
        }

    lies : (name : ℕ) (o : Option Named) → named_at name s.names.held ≡ o → IfSome o (Lies i)
    lies name None held = tt
    lies name (Some x) held = walk-block e v part me is a walks name x held

    is_fresh : (name : ℕ) → has_place s.names.places name ≡ true
        → named_at name s.names.held ≡ None → IsFresh s name
    is_fresh name place none = record {
      place = place;
      fresh = ap (option_map (λ (x : Named). x.spot)) none;
    }

    suits : (o : Op) (ops : List Op) → drop s.done s.text.now ≡ o ∷ ops
        → IsOperation s.config.schedulers o × (greatest_in o ≤ s.trace.now.greatest) → Suits i s o
    suits (op.Alloc name bytes) ops left (is_op, upto) = (
      is_fresh name (next-placed s (op.Alloc name bytes) ops left)
          (walk-alloc e v part me is a walks name bytes ops left),
      is_op.1,
    )
    suits (op.Free name) ops left (is_op, upto) = has_name name upto
    suits (op.Realloc old fresh bytes) ops left (is_op, upto) = (
      has_name old (omega (arith, upto)),
      lies old (named_at old s.names.held) refl,
      is_fresh fresh (next-placed s (op.Realloc old fresh bytes) ops left)
          (walk-realloc e v part me is a walks old fresh bytes ops left),
      is_op.2,
    )
    suits (op.Give name to) ops left (is_op, upto) = omega (arith, upto, s.names_upto)
    suits (op.Take name tries) ops left (is_op, upto) = tt
    suits op.Info ops left (is_op, upto) = tt
    suits op.Idle ops left (is_op, upto) = tt

    pub suits-next : SuitsNext i s
    suits-next o ops left = suits o ops left
        (first-operation s.config s.trace.now valid made w reached me o ops (todo ∙ left))
