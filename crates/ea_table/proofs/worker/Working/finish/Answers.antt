use Rattle.std.proofs.Common.{refl}
use Rattle.ea_table.proofs.Threading.{is-at_rest}
use Rattle.ea_table.proofs.worker.Working.finish.Goals as goal

pub returns-clause-rest : goal.returns-clause-rest
returns-clause-rest k = λ c t id i at.
    is-at_rest c t id i k.args.self at k.args.out_of_memory k.requires.through _ refl k.into_pass.ensures refl
