use Rattle.std.proofs.Common.{◌≡◌, ap, ◌∙◌, sym, subst, []}
use Rattle.std.specs.Prelude.{IfSome, Some}
use Rattle.ea_model.specs.declared.carriers.Kind.TheVariants.{Multi}
use Rattle.ea_model.specs.Content.{Content}
use Rattle.ea_model.specs.Instance.{Instance, content_of}
use Rattle.ea_employed.specs.Binned.{has_bins}
use Rattle.ea_instance.proofs.Keeping.{found-multi, kept-dismissed, seen-dismissed}
use Rattle.ea_instance.proofs.Migrating.{bins-stay}
use Rattle.ea_instance.proofs.instance.Instance.give_up_multi.Goals as goal

pub leave-requires-clause-bins : goal.leave-requires-clause-bins
leave-requires-clause-bins c = λ bins.
    subst (λ (i : Instance). IfSome (content_of i.contents c.args.found.carrier.key.number) (λ (x :
    Content). x.blocks ≡ []))
    (sym c.self.view_is)
    (c.requires.empty (ap (λ (i : Instance). i.settings.acul) (sym c.self.view_is)
    ∙ bins-stay c.self.inside.settings c.self.invariant.stands.orderly.kept.valid
    (ap has_bins (sym c.self.invariant.strategy) ∙ bins)))

pub invariant_of-self : goal.invariant_of-self
invariant_of-self c = kept-dismissed _ _ _ _ _ _ _ c.self.invariant c.args.found.carrier.key.number
    c.leave.result c.leave.ensures.carrier _ c.leave.ensures.rest

pub into_multi-requires : goal.into_multi-requires
into_multi-requires c = subst (λ o. IfSome o (λ (x : Content). x.kind ≡ Multi))
    (ap (λ (i : Instance). content_of i.contents c.args.found.carrier.key.number) (sym
    c.self.view_is)
    ∙ c.leave.ensures.carrier) c.requires.multi

pub returns-clause-carrier : goal.returns-clause-carrier
returns-clause-carrier c = found-multi _ _ _ _ _ _ _ c.self.invariant _ c.self.view_is
    c.args.found.carrier.key.number c.leave.result c.leave.ensures.carrier ∙ ap Some (sym
    c.into_multi.ensures)

pub returns-clause-rest : goal.returns-clause-rest
returns-clause-rest c = seen-dismissed _ _ _ _ _ _ _ c.self.invariant
    c.args.found.carrier.key.number
    c.leave.result c.leave.ensures.carrier _ c.leave.ensures.rest _ c.self.view_is
