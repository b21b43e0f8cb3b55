-- The units of all carriers, by their pages and by what is in them.
use Rattle.std.proofs.Common.{◌≡◌, ℕ, ◌+◌, ◌*◌, ap, sym, ◌∙◌, arith}
use Rattle.std.specs.Prelude.{◌/◌}
use Rattle.std.proofs.Math.Path.{fun_ext}
use Rattle.ea_model.specs.declared.carriers.OwnCarrier.{OwnCarrier}
use Rattle.ea_model.specs.declared.units.TheConstants.{PAGE_UNITS}
use Rattle.ea_model.specs.Content.{Content, allocated, free_units, gaps_of}
use Rattle.ea_machine.specs.Setup.{Setup}
use Rattle.ea_machine.specs.State.{State}
use Rattle.ea_machine.specs.Sums.{sum_over, total_at}
use Rattle.ea_sound.specs.Contents.{seats, sum_everywhere}
use Rattle.ea_sound.specs.Rule.{Kept}
use Rattle.ea_sound.proofs.Anywhere.{everywhere}
use Rattle.ea_sound.proofs.SoundUnits.{as-units}
use Rattle.ea_sound.proofs.SumParts.{AreParts, sum-parts}

module _ (e : Setup) (w : State) (k : Kept e w) where
  -- what is given for the pages of all own carriers
  abbrev own_sum : (ℕ → ℕ) → ℕ
  own_sum g = total_at (seats e)
      (λ i a. sum_over (λ (o : OwnCarrier). g o.pages) a.instance.own) w.actors

  whole : (p : ℕ) → PAGE_UNITS * (PAGE_UNITS * p / PAGE_UNITS) ≡ PAGE_UNITS * p
  whole p = omega arith

  -- they are whole pages
  pub pages-units : sum_everywhere e (λ x. PAGE_UNITS * (x.units / PAGE_UNITS)) w
      ≡ sum_everywhere e (λ x. x.units) w
  pages-units = k.placed.own (λ owner number base units. PAGE_UNITS * (units / PAGE_UNITS))
      ∙ ap own_sum (fun_ext whole)
      ∙ sym (k.placed.own (λ owner number base units. units))

  -- headers, blocks and gaps
  pub parts-units : sum_everywhere e (λ x. 8) w + sum_everywhere e (λ x. allocated x.blocks) w
      + sum_everywhere e (λ x. free_units (gaps_of x)) w ≡ sum_everywhere e (λ x. x.units) w
  parts-units =
      let header : Content → ℕ = λ x. 8 in
      let blocks : Content → ℕ = λ x. allocated x.blocks in
      let gaps : Content → ℕ = λ x. free_units (gaps_of x) in
      let units : Content → ℕ = λ x. x.units in
      sum-parts header blocks gaps units e w
      (everywhere e w k (AreParts header blocks gaps units)
      (λ i x belongs laid counts. as-units x laid))
