use Rattle.std.proofs.Common.{map, ap, ◌∙◌}
use Rattle.ea_mem_shared.proofs.Lasts.{last-same}
use Rattle.ea_mem_shared.proofs.PlaceLists.{counted-places}
use Rattle.ea_mem_shared.specs.Counted.{is_counted}
use Rattle.ea_mem_shared.specs.Places.{counts_at, is_in_search}
use Rattle.ea_mem_shared.proofs.carriers.Places.last_counted.Goals as goal

pub returns : goal.returns
returns g c =
    let now = c.args.self.now in
    last-same (is_counted c.self.inside.counted) (counts_at now)
    (λ n. ap (λ xs. is_counted xs n) (c.self.invariant ∙ ap (map is_in_search) c.self.view_is)
    ∙ counted-places now n)
    c.args.upto c.last_upto.result c.last_upto.ensures
