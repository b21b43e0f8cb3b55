use Rattle.std.proofs.Common.{◌≡◌, List, ℕ, Option, Some, None, refl, sym, ap, subst, ◌∙◌}
use Rattle.std.specs.Prelude.{unwrap_or}
use Rattle.std.specs.Borrow.{Bor}
use Rattle.ea_model.specs.Words.{words}
use Rattle.ea_trace.specs.declared.lines.Line.{Line}
use Rattle.ea_trace.specs.declared.lines.Line.TheVariants.{Unreadable}
use Rattle.ea_trace.specs.Ranges.{InRange}
use Rattle.ea_trace.specs.Says.{said, said_or}
use Rattle.ea_trace.proofs.Ranges.{command_or_ranges}
use Rattle.ea_trace.proofs.lines.read_line.Goals as goal

says-unwrapped : (o : Option (Line (Bor (List ℕ))))
    → said (unwrap_or o Unreadable) ≡ unwrap_or (said_or o) Unreadable
says-unwrapped None = refl
says-unwrapped (Some line) = refl

pub returns-clause-in_range : goal.returns-clause-in_range
returns-clause-in_range c = subst InRange
    (sym (ap said c.unwrap_or.ensures ∙ says-unwrapped c.command.result ∙ c.command.ensures))
    (command_or_ranges c.in-Some.word.now (words c.in-Some.rest.now))
