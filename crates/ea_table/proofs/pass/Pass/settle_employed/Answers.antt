use Rattle.ea_word.specs.Codes.{owner_code}
use Rattle.ea_machine.specs.declared.owners.OwnerWord.TheVariants as word
use Rattle.ea_table.proofs.OwnerRows.{settled-idle, settled-row, stores-settle}
use Rattle.ea_table.proofs.OwnerTold.{idle-of}
use Rattle.ea_table.proofs.pass.Pass.settle_employed.Goals as goal

pub store_owner-requires-clause-stores : goal.store_owner-requires-clause-stores
store_owner-requires-clause-stores c =
    let p = c.args.self.now in
    let w = c.requires.wanted in
    stores-settle p.seat.me p.single c.args.me c.args.carrier w.content w.emptied w.wants

pub invariant_of-self : goal.invariant_of-self
invariant_of-self c =
    let p = c.args.self.now in
    let w = c.requires.wanted in
    let i = settled-idle p.older p.seat.me c.store_owner.new.seat.me
    (owner_code (word.Employed c.args.me)) c.store_owner.ensures.took (idle-of p) c.args.me
    c.args.carrier w.content w.emptied w.wants in
    record { bare = i.bare; unclaimed = i.unclaimed; single = i.single; older_is = i.older_is }

pub returns-clause-row : goal.returns-clause-row
returns-clause-row c = λ x emptied wanted.
    let p = c.args.self.now in
    settled-row p.older p.seat.me c.store_owner.new.seat.me (owner_code (word.Employed c.args.me))
    c.store_owner.ensures.took (idle-of p) c.args.me c.args.carrier x emptied wanted
