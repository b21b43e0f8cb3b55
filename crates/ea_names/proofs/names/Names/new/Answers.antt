use Rattle.std.proofs.Common.{◌+◌, ◌/◌, ap, ◌∙◌}
use Rattle.ea_names.specs.Holding.{held_in, places_in}
use Rattle.ea_names.specs.declared.groups.TheConstants.{GROUP}
use Rattle.ea_names.proofs.GroupedNames.{no-places, none-in}
use Rattle.ea_names.proofs.names.Names.new.Goals as goal

pub returns-clause-none : goal.returns-clause-none
returns-clause-none c =
    ap (held_in 0) c.in_ok-groups.ensures ∙ none-in 0 (c.args.greatest / GROUP + 1) 0

pub returns-clause-places : goal.returns-clause-places
returns-clause-places c =
    ap places_in c.in_ok-groups.ensures ∙ no-places (c.args.greatest / GROUP + 1)
