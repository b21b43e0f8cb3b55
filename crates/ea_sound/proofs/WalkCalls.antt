-- Where a walk stands after its carrier was collected: other nodes that it passed may be worked off
-- then, or the operation itself may begin.
use Rattle.std.proofs.Common.{◌≡◌, ℕ, true}
use Rattle.ea_model.specs.declared.settings.Config.{Config}
use Rattle.ea_model.specs.declared.trace.Trace.{Trace}
use Rattle.ea_model.specs.Settings.{IsValidConfig}
use Rattle.ea_model.specs.Trace.{IsScheduler, IsValidTrace}
use Rattle.ea_machine.specs.declared.stages.Stage.TheVariants.{Begin, Collecting}
use Rattle.ea_machine.specs.Actor.{Actor}
use Rattle.ea_machine.specs.Lists.{unlisted}
use Rattle.ea_machine.specs.Machine.{IsReached}
use Rattle.ea_machine.specs.Releases.{disowned, struck}
use Rattle.ea_machine.specs.Rows.{Clear}
use Rattle.ea_machine.specs.Setup.{Setup, is_scheduler, setup_of}
use Rattle.ea_machine.specs.State.{State}
use Rattle.ea_machine.specs.Table.{effect}
use Rattle.ea_sound.specs.Leaves.{InWalk}
use Rattle.ea_sound.specs.Moments.{at}
use Rattle.ea_sound.specs.Present.{Rule}
use Rattle.ea_sound.proofs.Asked.{reached-rule}
use Rattle.ea_sound.proofs.RowLeaves.{row-left}
use Rattle.ea_sound.proofs.SoundRanges.{number-scheduler}
use Rattle.ea_sound.proofs.StillMoves.{keeps-walk, lists-goes}

module _ (c : Config) (t : Trace) (valid : IsValidConfig c)
    (made : IsValidTrace c.schedulers t) (w : State) (reached : IsReached (setup_of c t) w)
    (me : ℕ) (number : IsScheduler c.schedulers me) where
  abbrev e : Setup
  e = setup_of c t

  abbrev a : Actor
  a = w.actors me

  is : is_scheduler e me ≡ true
  is = number-scheduler e me number

  rule : Rule e w
  rule = reached-rule c t valid made w reached

  pub collected-walks : (n : ℕ) → a.stage ≡ Collecting n
      → InWalk e w (effect me (Clear n) w.shared) me
      (at Begin (disowned n (struck n a)))
  collected-walks n now =
      let s = effect me (Clear n) w.shared in
      lists-goes e w s me is (InWalk e w s me) (keeps-walk e w s me is) (unlisted n a.lists)
      (at Begin (disowned n a)) (λ q. absurd cc)
      (row-left e w me is rule (Collecting n) (λ z. cc) now)
