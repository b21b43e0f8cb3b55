use Rattle.std.proofs.Common.{◌+◌, ◌/◌, false, ap, ◌∙◌, get_or, arith}
use Rattle.ea_names.specs.Holding.{held_in, places_in}
use Rattle.ea_names.specs.declared.groups.TheConstants.{GROUP}
use Rattle.ea_names.proofs.GroupedNames.{all-places, none-in}
use Rattle.ea_names.proofs.names.Names.whole.Goals as goal

pub returns-clause-none : goal.returns-clause-none
returns-clause-none c =
    ap (held_in 0) c.in_ok-groups.ensures ∙ none-in 0 (c.args.greatest / GROUP + 1) GROUP

pub returns-clause-places : goal.returns-clause-places
returns-clause-places c = λ name le.
    ap (λ gs. get_or (places_in gs) (name / GROUP) false) c.in_ok-groups.ensures
    ∙ all-places (name / GROUP) (c.args.greatest / GROUP + 1) (omega (arith, le))
