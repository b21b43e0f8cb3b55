use Rattle.std.proofs.Common.{sym, ap, ◌∙◌}
use Rattle.ea_machine.specs.Setup.{setup_of}
use Rattle.ea_machine.specs.Stops.{run_with_stops}
use Rattle.ea_steps.specs.Released.{is_gone}
use Rattle.ea_steps.specs.Text.{released_text}
use Rattle.ea_steps.proofs.Releasing.{line-added, line-left, lines-end}
use Rattle.ea_steps.proofs.released.put_each_released.Goals as goal
use Rattle.ea_steps.proofs.released.put_each_released.Goals.{then-is_gone+in_ok-put_released}
use Rattle.ea_steps.proofs.released.put_each_released.Goals.{else-is_gone}

pub loop-placed-preserved : goal.loop-placed-preserved
loop-placed-preserved c = λ config trace turns stands.
    let setup = setup_of config trace in
    let test = is_gone setup (run_with_stops setup turns) c.args.entries.now in
    let so_far = c.loop-placed.invariant config trace turns stands in
    let told = c.is_gone.ensures config trace turns stands in
    elim c.if-is_gone.branch [
      | then-is_gone+in_ok-put_released w ↦
          line-added test released_text c.args.blocks.now c.loop-placed.placed-index
          c.loop-placed.text.items _ so_far _ c.loop-placed-test.true
          (sym told ∙ w.if-is_gone.true) c.if-is_gone.text.items
          (ap (λ t. t.items) w.text-is ∙ w.in_ok-put_released.ensures)
      | else-is_gone w ↦
          line-left test released_text c.args.blocks.now c.loop-placed.placed-index
          c.loop-placed.text.items _ so_far _ c.loop-placed-test.true
          (sym told ∙ w.if-is_gone.false) c.if-is_gone.text.items
          (ap (λ t. t.items) w.text-is)
    ]

pub returns : goal.returns
returns c = λ config trace turns stands.
    let setup = setup_of config trace in
    lines-end (is_gone setup (run_with_stops setup turns) c.args.entries.now) released_text
    c.args.blocks.now c.loop-placed.placed-index c.loop-placed.text.items _
    (c.loop-placed.invariant config trace turns stands) c.loop-placed-test.false
