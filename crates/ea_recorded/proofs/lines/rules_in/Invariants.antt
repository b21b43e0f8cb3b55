use Rattle.std.proofs.Common.{◌≡◌, length}
use Rattle.ea_model.specs.Words.{words}
use Rattle.ea_recorded.specs.Language.{with_rules}
use Rattle.ea_model.specs.declared.settings.TheConstants.{NO_RULES}
use Rattle.ea_recorded.proofs.lines.rules_in.Given as goal

abbrev pub invariant-loop-word : goal.invariant-loop-word
invariant-loop-word l = with_rules NO_RULES (words l.text) ≡ with_rules l.rules (words l.rest)

abbrev pub decreases-loop-word : goal.decreases-loop-word
decreases-loop-word l = length l.rest
