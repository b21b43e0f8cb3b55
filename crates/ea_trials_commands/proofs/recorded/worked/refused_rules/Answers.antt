use Rattle.std.proofs.Common.{refl}
use Rattle.std.specs.Fmt.{digits}
use Rattle.ea_trials_commands.proofs.recorded.worked.refused_rules.Goals as goal

pub returns-clause-no_rule : goal.returns-clause-no_rule
unfolding digits
returns-clause-no_rule c = refl

pub returns-clause-twice : goal.returns-clause-twice
unfolding digits
returns-clause-twice c = refl

pub returns-clause-unknown : goal.returns-clause-unknown
unfolding digits
returns-clause-unknown c = refl

pub returns-clause-comment_after : goal.returns-clause-comment_after
unfolding digits
returns-clause-comment_after c = refl

pub returns-clause-large : goal.returns-clause-large
unfolding digits
returns-clause-large c = refl

pub returns-clause-after_an_operation : goal.returns-clause-after_an_operation
unfolding digits
returns-clause-after_an_operation c = refl

pub returns-clause-second_line : goal.returns-clause-second_line
unfolding digits
returns-clause-second_line c = refl

pub returns-clause-first : goal.returns-clause-first
unfolding digits
returns-clause-first c = refl

pub returns-clause-after_end : goal.returns-clause-after_end
unfolding digits
returns-clause-after_end c = refl

pub returns-clause-of_a_scheduler : goal.returns-clause-of_a_scheduler
unfolding digits
returns-clause-of_a_scheduler c = refl

pub returns-clause-no_end : goal.returns-clause-no_end
unfolding digits
returns-clause-no_end c = refl

pub returns-clause-reused : goal.returns-clause-reused
unfolding digits
returns-clause-reused c = refl
