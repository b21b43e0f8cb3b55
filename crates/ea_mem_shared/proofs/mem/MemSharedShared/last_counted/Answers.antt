use Rattle.std.proofs.Common.{subst}
use Rattle.ea_shared.specs.Carriers.{CountsNone}
use Rattle.ea_mem_shared.specs.Memory.{Sharing, shared_of}
use Rattle.ea_mem_shared.proofs.mem.MemSharedShared.last_counted.Goals as goal

pub returns-clause-uncounted : goal.returns-clause-uncounted
returns-clause-uncounted g c =
    subst (λ (x : Sharing). CountsNone c.last_counted.result c.args.carrier (shared_of x))
    c.self.view_is c.last_counted.ensures.none_after
