use Rattle.std.proofs.Common.{sym, ap, ◌∙◌, ◌++◌, true, false}
use Rattle.std.proofs.lemmas.List.{append-nil}
use Rattle.ea_machine.specs.Setup.{setup_of}
use Rattle.ea_machine.specs.Stops.{run_with_stops}
use Rattle.ea_steps.proofs.NotedNames.{carrier-if}
use Rattle.ea_steps.proofs.touched.Touched.add_carrier.Goals as goal

pub returns-in_ok-push : goal.returns-in_ok-push
returns-in_ok-push c = λ config trace turns stands.
    let setup = setup_of config trace in
    let w = run_with_stops setup turns in
    let t = c.args.self.now in
    record {
      blocks = sym (append-nil t.blocks.items);
      carriers = c.in_ok-push.ensures.items
          ∙ ap (λ xs. t.carriers.items ++ xs) (sym (carrier-if setup w c.args.number
          c.line_of.result true (c.line_of.ensures config trace turns stands)
          (sym c.is_some.ensures ∙ c.if-is_some.true)));
    }

pub returns-else-is_some : goal.returns-else-is_some
returns-else-is_some c = λ config trace turns stands.
    let setup = setup_of config trace in
    let w = run_with_stops setup turns in
    let t = c.args.self.now in
    record {
      blocks = sym (append-nil t.blocks.items);
      carriers = sym (append-nil t.carriers.items)
          ∙ ap (λ xs. t.carriers.items ++ xs) (sym (carrier-if setup w c.args.number
          c.line_of.result false (c.line_of.ensures config trace turns stands)
          (sym c.is_some.ensures ∙ c.if-is_some.false)));
    }
