use Rattle.std.proofs.Common.{subst, sym}
use Rattle.ea_contents.specs.Playing.{HasMade, TellsOf}
use Rattle.ea_contents.proofs.playing.access.Goals as goal

pub returns-in-Write-clause-told : goal.returns-in-Write-clause-told
returns-in-Write-clause-told c = subst
    (λ a. TellsOf c.args.me a c.write.result c.args.session.now) (sym c.in-Write.is)
    c.write.ensures.told

pub returns-in-Write-clause-made : goal.returns-in-Write-clause-made
returns-in-Write-clause-made c = subst
    (λ a. HasMade c.args.me a c.args.session.now c.write.new.session) (sym c.in-Write.is)
    c.write.ensures.made

pub returns-in-Read-clause-told : goal.returns-in-Read-clause-told
returns-in-Read-clause-told c = subst
    (λ a. TellsOf c.args.me a c.read.result c.args.session.now) (sym c.in-Read.is) c.read.ensures
