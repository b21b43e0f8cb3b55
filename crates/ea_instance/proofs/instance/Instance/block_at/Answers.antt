use Rattle.std.proofs.Common.{ℕ, sym, ap, ◌∙◌}
use Rattle.std.specs.Prelude.{Option, option_map}
use Rattle.std.specs.Option.{option_and_then}
use Rattle.ea_model.specs.declared.carriers.Block.{Block}
use Rattle.ea_model.specs.Content.{Content, block_at, named}
use Rattle.ea_model.specs.Instance.{content_of}
use Rattle.ea_instance.proofs.Keeping.{found-multi, found-single}
use Rattle.ea_instance.proofs.instance.Instance.block_at.Goals as goal

-- the block at the offset of a content, if there is one
abbrev block_of : ℕ → Option Content → Option Block
block_of offset o = option_map named
    (option_and_then (λ (x : Content). block_at x.blocks offset) o)

pub returns-in-Some : goal.returns-in-Some
returns-in-Some c =
    let number = c.args.spot.carrier in
    let there = sym c.carrier.ensures ∙ ap (option_map (λ x. x.now)) c.in-Some.is in
    c.block_at.ensures
    ∙ sym (ap (block_of c.args.spot.offset)
    (found-multi _ _ _ _ _ _ _ c.self.invariant _ c.self.view_is number _ there))

pub returns-in-Some-item_of : goal.returns-in-Some-item_of
returns-in-Some-item_of c =
    let number = c.args.spot.carrier in
    let none = sym c.carrier.ensures ∙ ap (option_map (λ x. x.now)) c.in_default.is in
    let second = sym (c.item_of.ensures ∙ ap (λ cs. content_of cs number) c.as_slice.ensures)
    ∙ ap (option_map (λ x. x.now)) c.in-Some-item_of.is in
    c.block_at-in-Some-item_of.ensures
    ∙ sym (ap (block_of c.args.spot.offset)
    (found-single _ _ _ _ _ _ _ c.self.invariant _ c.self.view_is number none ∙ second))

pub returns-in-None : goal.returns-in-None
returns-in-None c =
    let number = c.args.spot.carrier in
    let none = sym c.carrier.ensures ∙ ap (option_map (λ x. x.now)) c.in_default.is in
    let second = sym (c.item_of.ensures ∙ ap (λ cs. content_of cs number) c.as_slice.ensures)
    ∙ ap (option_map (λ x. x.now)) c.in-None.is in
    sym (ap (block_of c.args.spot.offset)
    (found-single _ _ _ _ _ _ _ c.self.invariant _ c.self.view_is number none ∙ second))
