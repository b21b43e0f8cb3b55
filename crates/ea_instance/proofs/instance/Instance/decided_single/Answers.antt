use Rattle.std.proofs.Common.{◌∙◌, ap, sym}
use Rattle.std.specs.Prelude.{option_map}
use Rattle.ea_model.specs.Instance.{content_of}
use Rattle.ea_instance.proofs.Reallocating.{decided-single, never-none}
use Rattle.ea_instance.proofs.instance.Instance.decided_single.Goals as goal

pub unreachable-requires : goal.unreachable-requires
unreachable-requires c =
    let number = c.args.spot.carrier in
    let second = sym (c.item_of.ensures ∙ ap (λ cs. content_of cs number) c.as_slice.ensures)
    ∙ ap (option_map (λ x. x.now)) c.in-None.is in
    never-none _ _ _ _ _ _ _ c.self.invariant c.args.spot c.args.need _ c.self.view_is
    c.requires.block c.requires.single second

pub returns : goal.returns
returns c =
    let number = c.args.spot.carrier in
    let second = sym (c.item_of.ensures ∙ ap (λ cs. content_of cs number) c.as_slice.ensures)
    ∙ ap (option_map (λ x. x.now)) c.in-Some.is in
    c.decide.ensures ∙ decided-single _ _ _ _ _ _ _ c.self.invariant c.args.spot c.args.need _
    c.self.view_is c.requires.block c.requires.single _ _ _ second c.allocated.ensures
    c.units-units.ensures.units
