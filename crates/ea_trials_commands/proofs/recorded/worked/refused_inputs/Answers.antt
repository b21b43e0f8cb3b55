use Rattle.std.proofs.Common.{refl}
use Rattle.std.specs.Fmt.{digits}
use Rattle.ea_trials_commands.proofs.recorded.worked.refused_inputs.Goals as goal

pub returns-clause-nothing : goal.returns-clause-nothing
unfolding digits
returns-clause-nothing c = refl

pub returns-clause-comments : goal.returns-clause-comments
unfolding digits
returns-clause-comments c = refl

pub returns-clause-no_type : goal.returns-clause-no_type
unfolding digits
returns-clause-no_type c = refl

pub returns-clause-no_scheduler : goal.returns-clause-no_scheduler
unfolding digits
returns-clause-no_scheduler c = refl

pub returns-clause-no_bytes : goal.returns-clause-no_bytes
unfolding digits
returns-clause-no_bytes c = refl

pub returns-clause-stops : goal.returns-clause-stops
unfolding digits
returns-clause-stops c = refl

pub returns-clause-turns : goal.returns-clause-turns
unfolding digits
returns-clause-turns c = refl

pub returns-clause-two_turns : goal.returns-clause-two_turns
unfolding digits
returns-clause-two_turns c = refl

pub returns-clause-comment_after : goal.returns-clause-comment_after
unfolding digits
returns-clause-comment_after c = refl

pub returns-clause-section : goal.returns-clause-section
unfolding digits
returns-clause-section c = refl

pub returns-clause-two_types : goal.returns-clause-two_types
unfolding digits
returns-clause-two_types c = refl

pub returns-clause-after_end : goal.returns-clause-after_end
unfolding digits
returns-clause-after_end c = refl

pub returns-clause-other : goal.returns-clause-other
unfolding digits
returns-clause-other c = refl

pub returns-clause-large : goal.returns-clause-large
unfolding digits
returns-clause-large c = refl

pub returns-clause-digits : goal.returns-clause-digits
unfolding digits
returns-clause-digits c = refl

pub returns-clause-given : goal.returns-clause-given
unfolding digits
returns-clause-given c = refl

pub returns-clause-no_end : goal.returns-clause-no_end
unfolding digits
returns-clause-no_end c = refl

pub returns-clause-reused : goal.returns-clause-reused
unfolding digits
returns-clause-reused c = refl

pub returns-clause-reused_by_another : goal.returns-clause-reused_by_another
unfolding digits
returns-clause-reused_by_another c = refl

pub returns-clause-not_held : goal.returns-clause-not_held
unfolding digits
returns-clause-not_held c = refl

pub returns-clause-not_addressed : goal.returns-clause-not_addressed
unfolding digits
returns-clause-not_addressed c = refl

pub returns-clause-wrong_first : goal.returns-clause-wrong_first
unfolding digits
returns-clause-wrong_first c = refl

pub returns-clause-accepted : goal.returns-clause-accepted
unfolding digits
returns-clause-accepted c = refl
