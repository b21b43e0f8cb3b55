use Rattle.std.proofs.Common.{sym, ap, ◌∙◌}
use Rattle.std.specs.Prelude.{Some, option_map}
use Rattle.ea_model.specs.Instance.{Instance, carrier_line, content_of}
use Rattle.ea_instance.proofs.Keeping.{found-multi, found-single}
use Rattle.ea_instance.proofs.instance.Instance.carrier_line.Goals as goal

pub returns-in-Some : goal.returns-in-Some
returns-in-Some c =
    let number = c.args.carrier in
    let there = sym c.carrier.ensures ∙ ap (option_map (λ x. x.now)) c.in-Some.is in
    ap Some (c.line.ensures
    ∙ ap (λ (i : Instance). carrier_line i.number c.in-Some.multi.now) c.self.view_is)
    ∙ sym (ap (option_map (carrier_line c.args.self.now.number))
    (found-multi _ _ _ _ _ _ _ c.self.invariant _ c.self.view_is number _ there))

pub returns-in-Some-item_of : goal.returns-in-Some-item_of
returns-in-Some-item_of c =
    let number = c.args.carrier in
    let none = sym c.carrier.ensures ∙ ap (option_map (λ x. x.now)) c.in_default.is in
    let second = sym (c.item_of.ensures ∙ ap (λ cs. content_of cs number) c.as_slice.ensures)
    ∙ ap (option_map (λ x. x.now)) c.in-Some-item_of.is in
    ap Some (c.single_line.ensures
    ∙ ap (λ (i : Instance). carrier_line i.number c.in-Some-item_of.single.now) c.self.view_is)
    ∙ sym (ap (option_map (carrier_line c.args.self.now.number))
    (found-single _ _ _ _ _ _ _ c.self.invariant _ c.self.view_is number none ∙ second))

pub returns-in-None : goal.returns-in-None
returns-in-None c =
    let number = c.args.carrier in
    let none = sym c.carrier.ensures ∙ ap (option_map (λ x. x.now)) c.in_default.is in
    let second = sym (c.item_of.ensures ∙ ap (λ cs. content_of cs number) c.as_slice.ensures)
    ∙ ap (option_map (λ x. x.now)) c.in-None.is in
    sym (ap (option_map (carrier_line c.args.self.now.number))
    (found-single _ _ _ _ _ _ _ c.self.invariant _ c.self.view_is number none ∙ second))
