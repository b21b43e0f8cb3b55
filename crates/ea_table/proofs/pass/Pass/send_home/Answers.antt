use Rattle.ea_table.proofs.OwnerRows.{brings-send}
use Rattle.ea_table.proofs.pass.Pass.send_home.Goals as goal

pub bring-requires-clause-brings : goal.bring-requires-clause-brings
bring-requires-clause-brings c =
    brings-send c.args.self.now.seat.me.0 c.args.me c.args.carrier c.args.owner
    c.args.content c.requires.content c.requires.owner c.requires.wanted
