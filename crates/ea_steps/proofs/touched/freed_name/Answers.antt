use Rattle.std.proofs.Common.{sym, ap, ◌∙◌}
use Rattle.ea_machine.specs.Actor.{Actor}
use Rattle.ea_steps.proofs.NotedNames.{freed-none, freed-some}
use Rattle.ea_steps.specs.Touched.{first_freed}
use Rattle.ea_steps.proofs.touched.freed_name.Goals as goal

pub returns-in-Some : goal.returns-in-Some
returns-in-Some c = λ config trace turns stands.
    c.freed_by.ensures
    ∙ freed-some c.in-Some.op _ (sym c.in-Some.is ∙ c.operation.ensures)
    ∙ ap (λ (a : Actor). first_freed a.todo) (c.at.ensures config trace turns stands).actor

pub returns-in-None : goal.returns-in-None
returns-in-None c = λ config trace turns stands.
    freed-none _ (sym c.in-None.is ∙ c.operation.ensures)
    ∙ ap (λ (a : Actor). first_freed a.todo) (c.at.ensures config trace turns stands).actor
