use Rattle.ea_table.proofs.OwnerRows.{brings-settle}
use Rattle.ea_table.proofs.pass.Pass.settle_pooled.Goals as goal

pub bring-requires-clause-brings : goal.bring-requires-clause-brings
bring-requires-clause-brings c =
    brings-settle c.args.self.now.seat.me.0 c.args.me c.args.carrier c.args.largest
    c.args.content c.requires.content c.requires.wanted
