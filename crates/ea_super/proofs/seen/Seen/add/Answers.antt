use Rattle.ea_super.proofs.seen.Seen.add.Goals as goal

pub returns-in_ok-begin-in-Section-clause-known : goal.returns-in_ok-begin-in-Section-clause-known
returns-in_ok-begin-in-Section-clause-known c = λ n earlier k. rw c.in-Section.is
    (c.in_ok-begin-in-Section.ensures n c.in-Section.number earlier k)
