use Rattle.ea_laws.proofs.Orders.{takes_first-order}
use Rattle.ea_laws.proofs.Taken.{taken-first}
use Rattle.ea_laws.proofs.Refusals.{choice-none, choice-none_at_all}
use Rattle.ea_laws.proofs.choices.choices.Goals as goal

pub returns-clause-orders : goal.returns-clause-orders
returns-clause-orders c = takes_first-order

pub returns-clause-taken : goal.returns-clause-taken
returns-clause-taken c = taken-first

pub returns-clause-none : goal.returns-clause-none
returns-clause-none c = choice-none

pub returns-clause-all : goal.returns-clause-all
returns-clause-all c = choice-none_at_all
