use Rattle.std.proofs.Common.{sym, ap, ◌∙◌}
use Rattle.std.specs.Prelude.{is_some}
use Rattle.ea_model.specs.Instance.{content_of, has_content}
use Rattle.ea_model.proofs.Options.{is_some-map}
use Rattle.ea_instance.proofs.Keeping.{either-none, either-some, seen-found}
use Rattle.ea_instance.proofs.instance.Instance.employs.Goals as goal

pub returns-then-is_some : goal.returns-then-is_some
returns-then-is_some c =
    let number = c.args.carrier in
    let there = ap (λ i. has_content number i.contents) c.self.view_is ∙ sym
    c.find_multi.ensures.there
    ∙ sym c.is_some.ensures ∙ c.if-is_some.true in
    c.if-is_some.true
    ∙ sym (ap is_some (seen-found _ _ _ _ _ _ _ c.self.invariant _ c.self.view_is number)
    ∙ either-some _ _ there)

pub returns-else-is_some : goal.returns-else-is_some
returns-else-is_some c =
    let number = c.args.carrier in
    let none = ap (λ i. has_content number i.contents) c.self.view_is ∙ sym
    c.find_multi.ensures.there
    ∙ sym c.is_some.ensures ∙ c.if-is_some.false in
    let there = sym (ap is_some (c.item_of.ensures
    ∙ ap (λ cs. content_of cs number) c.as_slice.ensures))
    ∙ is_some-map _ c.item_of.result ∙ sym c.is_some-else-is_some.ensures in
    sym (ap is_some (seen-found _ _ _ _ _ _ _ c.self.invariant _ c.self.view_is number ∙ either-none
    _
    _ none) ∙ there)
