use Rattle.std.proofs.Common.{◌≡◌, None, map, replicate}
use Rattle.ea_names.proofs.names.groups_upto.Given as goal

abbrev pub invariant-loop : goal.invariant-loop
invariant-loop l =
    map (λ g. g.items) l.groups.items ≡ replicate l.counter (replicate l.places None)
