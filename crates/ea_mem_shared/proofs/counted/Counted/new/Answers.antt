use Rattle.std.proofs.Common.{map, ap, ◌∙◌}
use Rattle.std.specs.Prelude.{None, is_some}
use Rattle.ea_mem_shared.proofs.Lasts.{map-replicate}
use Rattle.ea_mem_shared.proofs.counted.Counted.new.Goals as goal

pub returns : goal.returns
returns c =
    ap (map is_some) c.in_ok-numbers.ensures.keys ∙ map-replicate is_some c.args.count None
