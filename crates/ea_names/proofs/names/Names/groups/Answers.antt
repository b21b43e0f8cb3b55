use Rattle.std.proofs.Common.{◌≤◌, length, sym, ap, ◌∙◌, subst}
use Rattle.std.specs.Prelude.{All, sum_by}
use Rattle.std.specs.Option.{option_map_or}
use Rattle.ea_names.specs.declared.groups.TheConstants.{GROUP}
use Rattle.ea_names.proofs.GroupedNames.{groups-most, sum-in}
use Rattle.ea_names.proofs.names.Names.groups.Goals as goal

pub returns-clause-most : goal.returns-clause-most
returns-clause-most c = subst (All (λ g. length g.items ≤ GROUP)) (sym c.as_slice.ensures.value)
    (groups-most c.self.inside.groups.items c.self.invariant.2)

pub returns-clause-sums : goal.returns-clause-sums
returns-clause-sums c = λ f.
    ap (sum_by (λ x. f x.spot)) (sym (ap (λ h. h.held) c.self.view_is))
    ∙ sum-in f 0 c.self.inside.groups.items
    ∙ ap (sum_by (λ g. sum_by (λ s. option_map_or f s 0) g.items)) (sym c.as_slice.ensures.value)
