use Rattle.std.proofs.Common.{◌≡◌, ap, ◌∙◌, sym, subst, []}
use Rattle.std.specs.Prelude.{is_some, IfSome}
use Rattle.ea_model.specs.Content.{Content}
use Rattle.ea_model.specs.Employment.{dismissing}
use Rattle.ea_model.specs.Instance.{content_of, employed}
use Rattle.ea_instance.proofs.Following.{vacant-found}
use Rattle.ea_instance.proofs.Keeping.{dismissed-gone, found-multi, found-single}
use Rattle.ea_instance.proofs.Keeping.{kept-dismissed, kept-single-dismissed, seen-dismissed}
use Rattle.ea_instance.proofs.Keeping.{multi-none, multi-there, seen-single-dismissed}
use Rattle.ea_instance.proofs.instance.Instance.dismiss.Goals as goal

pub leave-employed-requires-clause-bins : goal.leave-employed-requires-clause-bins
leave-employed-requires-clause-bins c = λ bins.
    let n = c.args.number in
    let (x, there) = multi-there _ _ _ _ _ _ _ c.self.invariant _ c.self.view_is n
    (sym c.find_multi.ensures.there ∙ ap is_some c.in-Some.is) in
    let (y, found, empty) = vacant-found n (employed c.args.self.now) c.requires in
    subst (λ m. IfSome (content_of c.self.inside.carriers.contents m)
    (λ (z : Content). z.blocks ≡ [])) (sym c.in-Some.ensures.number)
    (subst (λ o. IfSome o (λ (z : Content). z.blocks ≡ []))
    (sym found ∙ found-multi _ _ _ _ _ _ _ c.self.invariant _ c.self.view_is n x there ∙ sym there)
    empty)

pub invariant_of-self : goal.invariant_of-self
invariant_of-self c = kept-dismissed _ _ _ _ _ _ _ c.self.invariant
    c.in-Some.found.carrier.key.number c.leave-employed.result c.leave-employed.ensures.carrier _
    c.leave-employed.ensures.rest

pub returns-in-Some : goal.returns-in-Some
returns-in-Some c =
    let is = seen-dismissed _ _ _ _ _ _ _ c.self.invariant c.in-Some.found.carrier.key.number
    c.leave-employed.result c.leave-employed.ensures.carrier _ c.leave-employed.ensures.rest _
    c.self.view_is
    ∙ ap (dismissing c.args.self.now) c.in-Some.ensures.number in
    record {
      dismissed = is;
      gone = dismissed-gone _ _ _ _ _ _ _ c.self.invariant c.args.number _ _ c.self.view_is is;
    }

pub leave-requires : goal.leave-requires
leave-requires c =
    let n = c.args.number in
    let none = multi-none _ _ _ _ _ _ _ c.self.invariant _ c.self.view_is n
    (sym c.find_multi.ensures.there ∙ ap is_some c.in_default.is) in
    let (y, found, empty) = vacant-found n (employed c.args.self.now) c.requires in (
      y,
      sym (found-single _ _ _ _ _ _ _ c.self.invariant _ c.self.view_is n none) ∙ found,
      empty,
    )

pub invariant_of-self-in_default : goal.invariant_of-self-in_default
invariant_of-self-in_default c = kept-single-dismissed _ _ _ _ _ _ _ c.self.invariant
    c.args.number c.leave.result c.leave.ensures.carrier _ c.leave.ensures.rest

pub returns-in_default : goal.returns-in_default
returns-in_default c =
    let is = seen-single-dismissed _ _ _ _ _ _ _ c.self.invariant c.args.number c.leave.result
    c.leave.ensures.carrier _ c.leave.ensures.rest _ c.self.view_is in
    record {
      dismissed = is;
      gone = dismissed-gone _ _ _ _ _ _ _ c.self.invariant c.args.number _ _ c.self.view_is is;
    }
