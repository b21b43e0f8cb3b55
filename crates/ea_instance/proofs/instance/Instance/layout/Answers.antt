use Rattle.std.proofs.Common.{sym, ap, ◌∙◌}
use Rattle.std.specs.Prelude.{Some, is_some, option_map}
use Rattle.std.proofs.lemmas.Bool.{false≢true}
use Rattle.std.proofs.lemmas.Result.{IfOk-weaker}
use Rattle.ea_model.specs.Instance.{content_of}
use Rattle.ea_instance.specs.Layouts.{layout_of}
use Rattle.ea_instance.proofs.Keeping.{found-multi, found-single}
use Rattle.ea_instance.proofs.instance.Instance.layout.Goals as goal

pub returns-in-Some : goal.returns-in-Some
returns-in-Some c =
    let there = sym c.carrier.ensures ∙ ap (option_map (λ x. x.now)) c.in-Some.is in
    let found = found-multi _ _ _ _ _ _ _ c.self.invariant _ c.self.view_is c.args.number _ there in
    IfOk-weaker c.multi_layout.result _ _ (λ l is. ap (option_map layout_of) found ∙ ap (λ x. Some
    (layout_of x)) (sym c.multi.view_is)
    ∙ ap Some (sym is)) c.multi_layout.ensures

pub unreachable-requires : goal.unreachable-requires
unreachable-requires c =
    let none = sym c.carrier.ensures ∙ ap (option_map (λ x. x.now)) c.in_default.is in
    let second = sym (c.item_of.ensures ∙ ap (λ cs. content_of cs c.args.number) c.as_slice.ensures)
    ∙ ap (option_map (λ x. x.now)) c.in-None.is in
    false≢true (sym (ap is_some (found-single _ _ _ _ _ _ _ c.self.invariant _ c.self.view_is
    c.args.number none
    ∙ second)) ∙ c.requires)

pub returns : goal.returns
returns c =
    let none = sym c.carrier.ensures ∙ ap (option_map (λ x. x.now)) c.in_default.is in
    let second = sym (c.item_of.ensures ∙ ap (λ cs. content_of cs c.args.number) c.as_slice.ensures)
    ∙ ap (option_map (λ x. x.now)) c.in-Some-item_of.is in
    let found = found-single _ _ _ _ _ _ _ c.self.invariant _ c.self.view_is c.args.number none ∙
    second in
    IfOk-weaker c.single_layout.result _ _
    (λ l is. ap (option_map layout_of) found ∙ ap Some (sym is)) c.single_layout.ensures
