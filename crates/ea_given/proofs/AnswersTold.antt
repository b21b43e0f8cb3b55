-- What the row will answer that a scheduler of a run wants.
use Rattle.std.proofs.Common.{◌≡◌, ℕ, sym, ap, ◌∙◌, subst}
use Rattle.ea_model.specs.declared.settings.Config.{Config}
use Rattle.ea_model.specs.Trace.{IsScheduler}
use Rattle.ea_machine.specs.Setup.{setup_of}
use Rattle.ea_machine.specs.Stops.{run_with_stops}
use Rattle.ea_machine.specs.Table.{answer}
use Rattle.ea_mem_shared.specs.Memory.{shared_of}
use Rattle.ea_sched.specs.declared.wants.Wanted.{Wanted}
use Rattle.ea_given.specs.declared.heard.Heard.{Heard}
use Rattle.ea_given.specs.declared.run.GivenRun.{GivenRun}
use Rattle.ea_given.specs.Between.{heard_after, wanted_after}
use Rattle.ea_given.specs.Heard.{CanRead, heard_of, row_of}
use Rattle.ea_given.specs.Runs.{HasScheduler, IsRun, Tells}
use Rattle.ea_given.proofs.AnswersRead.{wanted-heard, wanted-read}

module _ (r : GivenRun) (me : ℕ) (has : HasScheduler me r) (x : Wanted)
    (wants : Tells (λ setup turns. x ≡ wanted_after setup turns me) r) where
  -- it can be read off what is shared
  pub answer-read : IsRun r → CanRead r.shared me x
  answer-read is =
      let (c, t, turns, at) = is in
      subst (CanRead r.shared me) (sym (wants c t turns at))
      (wanted-read c t r.shared (run_with_stops (setup_of c t) turns) at.shared me
      (subst (λ (d : Config). IsScheduler d.schedulers me) at.config has))

  -- and so it will be
  pub answer-told : (y : Heard) → y ≡ heard_of (answer me (row_of x) (shared_of r.shared))
      → Tells (λ setup turns. y ≡ heard_after setup turns me) r
  answer-told y is c t turns at =
      is ∙ ap (λ z. heard_of (answer me (row_of z) (shared_of r.shared))) (wants c t turns at)
      ∙ sym (wanted-heard c t r.shared (run_with_stops (setup_of c t) turns) at.shared me
      (subst (λ (d : Config). IsScheduler d.schedulers me) at.config has))
