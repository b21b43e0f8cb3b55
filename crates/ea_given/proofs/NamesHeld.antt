-- Names that schedulers of a run hold, and the spots where their blocks begin.
use Rattle.std.proofs.Common.{◌≡◌, ℕ, ◌-◌, ◌<◌, ◌≤◌, get_or, refl, sym, ap, ◌∙◌, subst}
use Rattle.std.proofs.Common.{inl, inr, arith}
use Rattle.std.specs.Prelude.{◌==◌, Option, None, Some, option_map}
use Rattle.std.proofs.lemmas.Option.{slice_get_cases}
use Rattle.ea_model.specs.declared.carriers.Extent.{Extent}
use Rattle.ea_model.specs.declared.carriers.Spot.{Spot}
use Rattle.ea_model.specs.declared.settings.Config.{Config}
use Rattle.ea_model.specs.declared.trace.Trace.{Trace}
use Rattle.ea_model.specs.Settings.{IsValidConfig}
use Rattle.ea_model.specs.Trace.{IsScheduler, IsValidTrace}
use Rattle.ea_model.proofs.Rising.{item_at-key}
use Rattle.ea_machine.specs.declared.nodes.Named.{Named}
use Rattle.ea_machine.specs.Actor.{Actor}
use Rattle.ea_machine.specs.Machine.{IsReached, run}
use Rattle.ea_machine.specs.Nodes.{name_of, named_at, spot_named}
use Rattle.ea_machine.specs.Setup.{setup_of}
use Rattle.ea_machine.specs.State.{State}
use Rattle.ea_machine.specs.Stops.{cut, run_with_stops}
use Rattle.ea_machine.specs.Sums.{one_if}
use Rattle.ea_sound.specs.Contents.{seats}
use Rattle.ea_sound.specs.Names.{of_named, only}
use Rattle.ea_sound.specs.Over.{LiesOver}
use Rattle.ea_sound.specs.Rule.{names_of}
use Rattle.ea_sound.proofs.Asked.{reached-rule}
use Rattle.ea_sound.proofs.KeyedWeights.{sum-item}
use Rattle.ea_sound.proofs.Numbered.{scheduler-seat}
use Rattle.ea_sound.proofs.Protocols.{always-protocol}
use Rattle.ea_sound.proofs.SoundRanges.{number-scheduler}
use Rattle.ea_sound.proofs.Totals.{total-part}
use Rattle.ea_sound.proofs.TraceNames.{name-range}
use Rattle.ea_sound.proofs.Weights.{one-itself}
use Rattle.ea_mem_shared.specs.Places.{place_at}
use Rattle.ea_sched.specs.declared.state.Scheduler.{Scheduler}
use Rattle.ea_outcome.specs.Extents.{HasSpot, LiesWhere}
use Rattle.ea_given.specs.declared.run.GivenRun.{GivenRun}
use Rattle.ea_given.specs.Runs.{FitsSuperCarrier, HasScheduler, IsRun, Tells}
use Rattle.ea_given.specs.Runs.{spot_after}
use Rattle.ea_given.proofs.GivenRuns.{actor-is, run-stands, there}

module _ (c : Config) (t : Trace) (valid : IsValidConfig c) (made : IsValidTrace c.schedulers t)
    (w : State) (reached : IsReached (setup_of c t) w) (me : ℕ) (is : IsScheduler c.schedulers me)
    (name : ℕ) where
  held-most : (h : Named) → named_at name (w.actors me).held ≡ Some h → name ≤ t.greatest
  held-most h there =
      let e = setup_of c t in
      let itself : of_named (only name) h ≡ 1 =
      ap (λ n. one_if (n == name)) (item_at-key name_of name h (w.actors me).held there)
      ∙ one-itself name in
      (name-range c t valid made w reached name (omega (
        arith,
        itself,
        sum-item name_of (of_named (only name)) name h (w.actors me).held there,
        total-part (names_of (only name)) w.actors me (seats e)
            (scheduler-seat e me (number-scheduler e me is)),
        (reached-rule c t valid made w reached).kept.names.balance (only name),
      ))).1

  -- a name that the trace doesn't have isn't held
  not-held : t.greatest < name → spot_named name (w.actors me).held ≡ None
  not-held past = by (named_at name (w.actors me).held) refl where
    by : (o : Option Named) → named_at name (w.actors me).held ≡ o
        → option_map (λ (h : Named). h.spot) o ≡ None
    by None there = refl
    by (Some h) there = absurd (omega (arith, past, held-most h there))

module _ (r : GivenRun) (me : ℕ) (has : HasScheduler me r) (name : ℕ) where
  -- one that the run's trace doesn't have isn't
  pub other-name : r.trace.now.greatest < name
      → Tells (λ setup turns. None ≡ spot_after setup turns me name) r
  other-name past c t turns at = sym (not-held c t at.shared.config at.shared.trace
      (run_with_stops (setup_of c t) turns) at.shared.reached me
      (subst (λ (x : Config). IsScheduler x.schedulers me) at.config has) name
      (omega (arith, past, ap (λ (x : Trace). x.greatest) at.trace)))

  module _ (s : Scheduler) (one : s ≡ get_or r.schedulers.items (me - 1) s) where
    -- what it tells of a name
    pub spot-told : (o : Option Spot) → o ≡ spot_named name s.names.held
        → Tells (λ setup turns. o ≡ spot_after setup turns me name) r
    spot-told o is c t turns at =
        is ∙ ap (λ (d : Scheduler). spot_named name d.names.held) one
        ∙ sym (ap (λ (a : Actor). spot_named name a.held) (actor-is r me has c t turns at s))

  module _ (o : Option Spot) (told : Tells (λ setup turns. o ≡ spot_after setup turns me name) r)
    where
      -- by the scheduler of the run
      pub has-spot : IsRun r → (p : Spot) → o ≡ Some p
          → HasSpot r.schedulers.items r.shared.given name p
      has-spot is p found =
          let (c, t, turns, at) = is in
          elim (slice_get_cases r.schedulers.items (me - 1)).1 [
            | inl got ↦
                let (s, within, its, same) = got in
                inl (
                  me - 1,
                  s,
                  its,
                  spot-told s (sym same) (spot_named name s.names.held) refl
                      c t turns at ∙ sym (told c t turns at) ∙ found,
                )
            | inr past ↦ absurd (omega (arith, past.0, there r me has is))
          ]

  -- where the block lies that the schedulers have
  pub lies-told : (p : Spot) (q : Extent) → HasSpot r.schedulers.items r.shared.given name p
      → LiesWhere r.config r.trace.now r.schedulers.items (place_at r.shared.places)
      r.shared.given p q
      → Tells (λ setup turns. LiesOver setup name q (run_with_stops setup turns)) r
  lies-told p q spot lies c t turns at =
      let taken = cut (setup_of c t).stops turns in
      subst (λ x. LiesOver (setup_of c x) name q (run (setup_of c x) taken)) at.trace
      (subst (λ x. LiesOver (setup_of x r.trace.now) name q (run (setup_of x r.trace.now) taken))
      at.config (lies taken (run-stands r c t turns at) name spot))

  -- it lies in the super carrier
  pub fits-told : (q : Extent)
      → Tells (λ setup turns. LiesOver setup name q (run_with_stops setup turns)) r
      → Tells (λ setup turns. FitsSuperCarrier setup q) r
  fits-told q lies c t turns at =
      let apart = (always-protocol c t at.shared.config at.shared.trace).apart
      (cut (setup_of c t).stops turns) in
      (apart.some name q (lies c t turns at), apart.within name q (lies c t turns at))
