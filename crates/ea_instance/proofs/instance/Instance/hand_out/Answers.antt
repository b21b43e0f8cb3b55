use Rattle.std.proofs.Common.{◌≡◌, ap, sym, subst, ◌∙◌}
use Rattle.std.specs.Prelude.{[], is_some, IfSome}
use Rattle.ea_model.specs.declared.carriers.Kind.TheVariants.{Multi}
use Rattle.ea_model.specs.Content.{Content}
use Rattle.ea_model.specs.Instance.{content_of}
use Rattle.ea_instance.proofs.HandingOut.{alone-gone, alone-there, among-many, many-multi}
use Rattle.ea_instance.proofs.instance.Instance.hand_out.Goals as goal

pub give_up_multi-requires-clause-multi : goal.give_up_multi-requires-clause-multi
give_up_multi-requires-clause-multi c = subst (λ n. IfSome (content_of c.args.self.now.contents n)
    (λ (x : Content). x.kind ≡ Multi)) (sym c.in-Some.ensures.number)
    (many-multi c.args.self.now c.stands.ensures.stands.orderly c.args.number c.requires.goes)

pub give_up_multi-requires-clause-empty : goal.give_up_multi-requires-clause-empty
give_up_multi-requires-clause-empty c = λ none.
    subst (λ n. IfSome (content_of c.args.self.now.contents n) (λ (x : Content). x.blocks ≡ []))
    (sym c.in-Some.ensures.number)
    (among-many c.args.self.now c.stands.ensures.stands.orderly c.args.number (λ x. x.blocks ≡ [])
    (c.requires.empty none))

pub give_up_single-requires-clause-there : goal.give_up_single-requires-clause-there
give_up_single-requires-clause-there c = alone-there c.args.self.now
    c.stands.ensures.stands.orderly c.args.number (sym c.find_multi.ensures.there ∙ ap is_some
    c.in_default.is)
    c.requires.there

pub give_up_single-requires-clause-gone : goal.give_up_single-requires-clause-gone
give_up_single-requires-clause-gone c = alone-gone c.args.self.now
    c.stands.ensures.stands.orderly c.args.number (sym c.find_multi.ensures.there ∙ ap is_some
    c.in_default.is)
    c.requires.gone
