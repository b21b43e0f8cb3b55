-- In each reached state the instance of a scheduler has the settings of the run, and the block in
-- its hand, in a carrier that it employs by the look that it took, lies there.
use Rattle.std.proofs.Common.{◌≡◌, ℕ, ◌<◌, true, refl, sym, ap, ◌∙◌}
use Rattle.std.proofs.Common.{subst, arith}
use Rattle.std.specs.Prelude.{IsSome}
use Rattle.std.specs.Option.{option_and_then}
use Rattle.ea_model.specs.declared.settings.Config.{Config}
use Rattle.ea_model.specs.declared.settings.Settings.{Settings}
use Rattle.ea_model.specs.declared.trace.Trace.{Trace}
use Rattle.ea_model.specs.Content.{Content, block_at}
use Rattle.ea_model.specs.Instance.{block_in, employed}
use Rattle.ea_model.specs.Settings.{IsValidConfig}
use Rattle.ea_model.specs.Trace.{IsScheduler, IsValidTrace}
use Rattle.ea_machine.specs.declared.nodes.Named.{Named}
use Rattle.ea_machine.specs.declared.tasks.Gone.{Gone}
use Rattle.ea_machine.specs.declared.tasks.Why.{Why}
use Rattle.ea_machine.specs.declared.stages.Stage.TheVariants.{Routed}
use Rattle.ea_machine.specs.declared.stages.Route.TheVariants.{Looking}
use Rattle.ea_machine.specs.Actor.{Actor}
use Rattle.ea_machine.specs.Machine.{IsReached}
use Rattle.ea_machine.specs.Owners.{Employed}
use Rattle.ea_machine.specs.Setup.{Setup, is_scheduler, migration, setup_of}
use Rattle.ea_machine.specs.State.{State}
use Rattle.ea_sound.specs.Present.{Rule}
use Rattle.ea_sound.specs.Rule.{Kept, Standing}
use Rattle.ea_sound.proofs.Asked.{reached-rule}
use Rattle.ea_sound.proofs.CarrierCalls.{look-block}
use Rattle.ea_sound.proofs.Hits.{HasBlock}
use Rattle.ea_sound.proofs.SoundRanges.{number-scheduler}

module _ (c : Config) (t : Trace) (valid : IsValidConfig c)
    (made : IsValidTrace c.schedulers t) (w : State) (reached : IsReached (setup_of c t) w)
    (me : ℕ) (number : IsScheduler c.schedulers me) where
  abbrev e : Setup
  e = setup_of c t

  abbrev a : Actor
  a = w.actors me

  is : is_scheduler e me ≡ true
  is = number-scheduler e me number

  rule : Rule e w
  rule = reached-rule c t valid made w reached

  k : Kept e w
  k = rule.kept

  stands : Standing e me a.instance
  stands = k.ranges.instances me is

  -- the settings of an instance are those of the run
  pub own-settings : a.instance.settings ≡ e.settings
  own-settings = stands.settings

  pub own-migrates : migration e ≡ true → 0 < a.instance.settings.acul
  own-migrates on = some a.instance.settings.acul
      (ap (λ (s : Settings). s.acul) stands.settings) where
        some : (n : ℕ) → n ≡ e.settings.acul → 0 < n
        some n same = grind (arith, same, on)

  module _ (why : Why) (gone : Gone) (hand : Named) (now : a.stage ≡ Routed (Looking hand) why gone)
      (mine : w.shared.places hand.spot.carrier ≡ Employed me) where
    block : HasBlock a.instance hand.name hand.spot
    block = look-block c t valid made w reached me number why gone hand now mine

    pub release-block : IsSome (block_in (employed a.instance) hand.spot)
    release-block =
        let (x, found, (b, there, named)) = block in
        let at_spot = option_and_then (λ (z : Content). block_at z.blocks hand.spot.offset) in
        subst IsSome (sym (ap at_spot found ∙ there)) refl
