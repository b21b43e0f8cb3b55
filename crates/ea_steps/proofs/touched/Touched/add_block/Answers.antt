use Rattle.std.proofs.Common.{sym, ap, ◌∙◌, ◌++◌}
use Rattle.std.proofs.lemmas.List.{append-nil}
use Rattle.ea_machine.specs.Setup.{setup_of}
use Rattle.ea_machine.specs.Stops.{run_with_stops}
use Rattle.ea_steps.specs.Found.{placed_at}
use Rattle.ea_steps.specs.Touched.{as_list}
use Rattle.ea_steps.proofs.NotedNames.{placed-none, placed-told}
use Rattle.ea_steps.proofs.touched.Touched.add_block.Goals as goal

pub returns-in_ok-push : goal.returns-in_ok-push
returns-in_ok-push c = λ config trace turns stands.
    let setup = setup_of config trace in
    let w = run_with_stops setup turns in
    let t = c.args.self.now in
    record {
      blocks = c.in_ok-push.ensures.items
          ∙ ap (λ xs. t.blocks.items ++ xs)
          (sym (append-nil (as_list (placed_at setup w c.args.named))
          ∙ placed-told setup w c.args.named c.in-Some.there
          (sym c.in-Some.is ∙ c.block_at.ensures config trace turns stands)));
      carriers = sym (append-nil t.carriers.items);
    }

pub returns-in_default : goal.returns-in_default
returns-in_default c = λ config trace turns stands.
    let setup = setup_of config trace in
    let w = run_with_stops setup turns in
    let t = c.args.self.now in
    record {
      blocks = sym (append-nil t.blocks.items)
          ∙ ap (λ xs. t.blocks.items ++ xs)
          (sym (append-nil (as_list (placed_at setup w c.args.named))
          ∙ placed-none setup w c.args.named
          (sym c.in_default.is ∙ c.block_at.ensures config trace turns stands)));
      carriers = sym (append-nil t.carriers.items);
    }
