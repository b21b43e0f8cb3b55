use Rattle.std.proofs.Common.{refl, ap, ◌∙◌}
use Rattle.ea_gen.specs.Places.{names_in}
use Rattle.ea_gen.proofs.Emptied.{names_push}
use Rattle.ea_gen.proofs.hand.Hand.add.Goals as goal

pub returns-clause-names : goal.returns-clause-names
returns-clause-names c = ap names_in c.in_ok-push.ensures.items
    ∙ names_push c.self.inside.places.items c.args.name
    ∙ rw (← c.self.view_is) refl
