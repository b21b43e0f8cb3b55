use Rattle.ea_word.specs.Codes.{owner_code}
use Rattle.ea_machine.specs.declared.owners.OwnerWord.TheVariants as word
use Rattle.ea_table.proofs.OwnerRows.{returned-slot, stores-clear_returned}
use Rattle.ea_table.proofs.OwnerTold.{idle-of}
use Rattle.ea_table.proofs.pass.Pass.clear_returned.Goals as goal

pub store_owner-requires-clause-stores : goal.store_owner-requires-clause-stores
store_owner-requires-clause-stores c =
    let p = c.args.self.now in
    stores-clear_returned p.seat.me p.single c.args.me c.args.carrier c.requires.wanted
    c.requires.collects p.unclaimed

pub take_out-requires-clause-slot : goal.take_out-requires-clause-slot
take_out-requires-clause-slot c =
    let p = c.args.self.now in
    returned-slot p.older p.seat.me c.store_owner.new.seat.me (owner_code word.Absent)
    c.store_owner.ensures.took (idle-of p) c.args.me c.args.carrier c.requires.wanted
    c.requires.collects
