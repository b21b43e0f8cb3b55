use Rattle.std.proofs.Common.{◌≡◌, ap, sym, subst, ◌∙◌}
use Rattle.std.specs.Prelude.{IfSome, false, option_map}
use Rattle.ea_model.specs.Abandonment.{is_due}
use Rattle.ea_model.specs.Content.{Content}
use Rattle.ea_model.specs.Instance.{Instance}
use Rattle.ea_instance.proofs.Keeping.{found-multi, found-single}
use Rattle.ea_instance.proofs.Migrating.{singles-stay}
use Rattle.ea_instance.proofs.instance.Instance.due.Goals as goal

pub returns-in-Some : goal.returns-in-Some
returns-in-Some c =
    let i = c.args.self.now in
    let number = c.args.number in
    let there = sym c.carrier.ensures ∙ ap (option_map (λ x. x.now)) c.in-Some.is in
    let found = found-multi _ _ _ _ _ _ _ c.self.invariant _ c.self.view_is number _ there in
    subst (λ o. IfSome o (λ (x : Content). c.is_due.result ≡ is_due i.settings i.count i.contents
    x))
    (sym found)
    (c.is_due.ensures i.contents c.multi_figures-figures.ensures.figures
    ∙ ap (λ (j : Instance). is_due j.settings j.count i.contents c.in-Some.multi.now)
    c.self.view_is)

pub returns-in-None : goal.returns-in-None
returns-in-None c =
    let i = c.args.self.now in
    let number = c.args.number in
    let none = sym c.carrier.ensures ∙ ap (option_map (λ x. x.now)) c.in-None.is in
    subst (λ o. IfSome o (λ (x : Content). false ≡ is_due i.settings i.count i.contents x))
    (sym (found-single _ _ _ _ _ _ _ c.self.invariant _ c.self.view_is number none))
    (singles-stay i.settings i.count i.contents number c.self.inside.singles
    c.self.invariant.stands.orderly.alone)
