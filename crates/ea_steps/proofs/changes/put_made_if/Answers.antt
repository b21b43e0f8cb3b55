use Rattle.std.proofs.Common.{◌++◌, ap, sym, ◌∙◌}
use Rattle.std.proofs.lemmas.Result.{on_ok_weaker}
use Rattle.ea_machine.specs.Setup.{setup_of}
use Rattle.ea_steps.specs.LookedUp.{found_in}
use Rattle.ea_steps.proofs.ToldChanges.{none-made, one-made}
use Rattle.ea_steps.proofs.changes.put_made_if.Goals as goal

pub returns-in_default-line_of : goal.returns-in_default-line_of
returns-in_default-line_of c = λ d t turns at.
    none-made c.args.made (found_in (setup_of d t) turns) c.in-Some.number c.in-Some.is
    c.args.text.now.items (sym (c.line_of.ensures d t turns at) ∙ c.in_default-line_of.is)

pub returns : goal.returns
returns c = on_ok_weaker c.put_made.result (λ grown d t turns at. grown
    ∙ ap (λ l. c.args.text.now.items ++ l) (sym (one-made c.args.made
    (found_in (setup_of d t) turns) c.in-Some.number c.in-Some.is c.in-Some-line_of.now
    (sym (c.line_of.ensures d t turns at) ∙ c.in-Some-line_of.is)))) c.put_made.ensures
