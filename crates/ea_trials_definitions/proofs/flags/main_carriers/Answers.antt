use Rattle.std.proofs.Common.{refl}
use Rattle.ea_trials_definitions.proofs.flags.main_carriers.Goals as goal

pub returns-clause-megabyte : goal.returns-clause-megabyte
returns-clause-megabyte c = refl

pub returns-clause-over_a_megabyte : goal.returns-clause-over_a_megabyte
returns-clause-over_a_megabyte c = refl

pub returns-clause-one_region : goal.returns-clause-one_region
returns-clause-one_region c = refl

pub returns-clause-sixteenth : goal.returns-clause-sixteenth
returns-clause-sixteenth c = refl

pub returns-clause-over_a_sixteenth : goal.returns-clause-over_a_sixteenth
returns-clause-over_a_sixteenth c = refl

pub returns-clause-sixty_fourth : goal.returns-clause-sixty_fourth
returns-clause-sixty_fourth c = refl

pub returns-clause-over_a_sixty_fourth : goal.returns-clause-over_a_sixty_fourth
returns-clause-over_a_sixty_fourth c = refl

pub returns-clause-schedulers_last : goal.returns-clause-schedulers_last
returns-clause-schedulers_last c = refl

pub returns-clause-third : goal.returns-clause-third
returns-clause-third c = refl

pub returns-clause-over_a_third : goal.returns-clause-over_a_third
returns-clause-over_a_third c = refl

pub returns-clause-over_binary : goal.returns-clause-over_binary
returns-clause-over_binary c = refl

pub returns-clause-over_std : goal.returns-clause-over_std
returns-clause-over_std c = refl

pub returns-clause-over_ets : goal.returns-clause-over_ets
returns-clause-over_ets c = refl

pub returns-clause-over_long : goal.returns-clause-over_long
returns-clause-over_long c = refl

pub returns-clause-over_driver : goal.returns-clause-over_driver
returns-clause-over_driver c = refl

pub returns-clause-over_short : goal.returns-clause-over_short
returns-clause-over_short c = refl

pub returns-clause-over_temporary : goal.returns-clause-over_temporary
returns-clause-over_temporary c = refl

pub returns-clause-greatest : goal.returns-clause-greatest
returns-clause-greatest c = refl

pub returns-clause-smaller_later : goal.returns-clause-smaller_later
returns-clause-smaller_later c = refl

pub returns-clause-refused_word_first : goal.returns-clause-refused_word_first
returns-clause-refused_word_first c = refl
