use Rattle.ea_word.specs.Codes.{owner_code}
use Rattle.ea_machine.specs.declared.owners.OwnerWord.TheVariants as word
use Rattle.ea_table.proofs.OwnerRows.{cleared-idle, cleared-row, stores-clear_own}
use Rattle.ea_table.proofs.OwnerTold.{idle-of}
use Rattle.ea_table.proofs.pass.Pass.clear_own.Goals as goal

pub store_owner-requires-clause-stores : goal.store_owner-requires-clause-stores
store_owner-requires-clause-stores c =
    let p = c.args.self.now in
    stores-clear_own p.seat.me p.single c.args.me c.args.carrier c.requires.wanted
    c.requires.leaves

pub invariant_of-self : goal.invariant_of-self
invariant_of-self c =
    let p = c.args.self.now in
    let i = cleared-idle p.older p.seat.me c.store_owner.new.seat.me (owner_code word.Absent)
    c.store_owner.ensures.took (idle-of p) c.args.me c.args.carrier c.requires.wanted
    c.requires.leaves in
    record { bare = i.bare; unclaimed = i.unclaimed; single = i.single; older_is = i.older_is }

pub returns-clause-row : goal.returns-clause-row
returns-clause-row c =
    let p = c.args.self.now in
    cleared-row p.older p.seat.me c.store_owner.new.seat.me (owner_code word.Absent)
    c.store_owner.ensures.took (idle-of p) c.args.me c.args.carrier c.requires.wanted
    c.requires.leaves
