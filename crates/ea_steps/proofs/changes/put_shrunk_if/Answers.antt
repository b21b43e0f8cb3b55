use Rattle.std.proofs.Common.{◌≡◌, ◌++◌, false, ap, sym, ◌∙◌, arith}
use Rattle.std.proofs.lemmas.Result.{on_ok_weaker}
use Rattle.ea_machine.specs.Setup.{setup_of}
use Rattle.ea_steps.specs.ChangedLines.{is_number}
use Rattle.ea_steps.specs.LookedUp.{found_in}
use Rattle.ea_steps.proofs.ToldChanges.{no-number, none-shrunk, not-shrunk, one-shrunk}
use Rattle.ea_steps.proofs.ToldChanges.{other-number}
use Rattle.ea_steps.proofs.changes.put_shrunk_if.Goals as goal
use Rattle.ea_steps.proofs.changes.put_shrunk_if.Goals.{in-Some-made+else-new-before}
use Rattle.ea_steps.proofs.changes.put_shrunk_if.Goals.{in_default-made}

pub returns-in_default-line_of : goal.returns-in_default-line_of
returns-in_default-line_of c =
    let old : is_number c.args.made c.in-Some.before.number ≡ false =
    elim c.match-made.branch [
      | in-Some-made+else-new-before w ↦ other-number c.args.made w.in-Some-made.new
          c.in-Some.before.number w.in-Some-made.is w.if-new-before.false
      | in_default-made w ↦ no-number c.args.made c.in-Some.before.number w.in_default-made.is
    ] in
    λ d t turns at.
    none-shrunk c.args.text.now.items c.args.made (found_in (setup_of d t) turns) c.args.before
    c.in-Some.before c.in-Some.is old
    (sym (c.line_of.ensures d t turns at) ∙ c.in_default-line_of.is)

pub returns-then-now-before : goal.returns-then-now-before
returns-then-now-before c =
    let old : is_number c.args.made c.in-Some.before.number ≡ false =
    elim c.match-made.branch [
      | in-Some-made+else-new-before w ↦ other-number c.args.made w.in-Some-made.new
          c.in-Some.before.number w.in-Some-made.is w.if-new-before.false
      | in_default-made w ↦ no-number c.args.made c.in-Some.before.number w.in_default-made.is
    ] in
    on_ok_weaker c.put_shrunk.result (λ grown d t turns at. grown
    ∙ ap (λ l. c.args.text.now.items ++ l) (sym (one-shrunk c.args.text.now.items c.args.made
    (found_in (setup_of d t) turns) c.args.before c.in-Some.before c.in-Some.is old
    c.in-Some-line_of.now (sym (c.line_of.ensures d t turns at) ∙ c.in-Some-line_of.is)
    c.if-now-before.true))) c.put_shrunk.ensures

pub returns : goal.returns
returns c =
    let old : is_number c.args.made c.in-Some.before.number ≡ false =
    elim c.match-made.branch [
      | in-Some-made+else-new-before w ↦ other-number c.args.made w.in-Some-made.new
          c.in-Some.before.number w.in-Some-made.is w.if-new-before.false
      | in_default-made w ↦ no-number c.args.made c.in-Some.before.number w.in_default-made.is
    ] in
    λ d t turns at.
    not-shrunk c.args.text.now.items c.args.made (found_in (setup_of d t) turns) c.args.before
    c.in-Some.before c.in-Some.is old c.in-Some-line_of.now
    (sym (c.line_of.ensures d t turns at) ∙ c.in-Some-line_of.is)
    (omega (arith, c.if-now-before.false))
