use Rattle.std.proofs.Common.{◌≡◌, sym, ap, ◌∙◌, subst}
use Rattle.std.specs.Prelude.{None, Some}
use Rattle.ea_machine.specs.Machine.{run}
use Rattle.ea_machine.specs.Setup.{setup_of}
use Rattle.ea_sound.specs.Over.{LiesOver}
use Rattle.ea_contents.specs.Sessions.{kept}
use Rattle.ea_contents.proofs.Standing.{held-kept, same-extent}
use Rattle.ea_contents.proofs.session.Session.block_of.Goals as goal

pub unreachable-requires : goal.unreachable-requires
unreachable-requires c =
    let (d, t, turns, lists, at) = c.requires.stands in
    let x = held-kept d t turns lists c.args.self.now at c.args.name
    (c.requires.held d t turns lists at) in
    let never : None ≡ Some x.0 = sym c.in-None.is ∙ c.kept.ensures
    ∙ ap (λ l. kept l c.args.name) c.deref.ensures.value ∙ x.1 in cc

pub returns : goal.returns
returns c = λ d t turns lists at.
    let x = held-kept d t turns lists c.args.self.now at c.args.name
    (c.requires.held d t turns lists at) in
    subst (λ y. LiesOver (setup_of d t) c.args.name y (run (setup_of d t) turns))
    (same-extent x.0 c.in-Some.block (sym x.1 ∙ sym (c.kept.ensures
    ∙ ap (λ l. kept l c.args.name) c.deref.ensures.value) ∙ c.in-Some.is)) x.2
