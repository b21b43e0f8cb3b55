use Rattle.std.proofs.Common.{◌<◌, ◌/◌, ◌%◌, None, sym, ap, ◌∙◌, get_or, length, arith}
use Rattle.std.proofs.lemmas.List.{get_or_read}
use Rattle.ea_machine.specs.Nodes.{spot_named}
use Rattle.ea_names.specs.declared.groups.TheConstants.{GROUP}
use Rattle.ea_names.proofs.GroupedNames.{group-at, group-full, items_of, none-named, not-empty}
use Rattle.ea_names.proofs.GroupedNames.{spot-in}
use Rattle.ea_names.proofs.names.Names.spot_of.Goals as goal

pub returns-then-is_empty : goal.returns-then-is_empty
returns-then-is_empty c =
    let vs = c.self.inside.groups.items in
    let name = c.args.name in
    let within : name / GROUP < length vs =
    omega (arith, ap (λ h. h.greatest) c.self.view_is, c.self.invariant.1, c.requires) in
    none-named vs (name / GROUP) c.index-group.result.now within c.index-group.ensures
    c.if-is_empty.ensures name (name % GROUP) c.self.invariant.2 (omega arith) (omega arith)
    ∙ ap (λ h. spot_named name h.held) c.self.view_is

pub index-requires : goal.index-requires
index-requires c =
    let vs = c.self.inside.groups.items in
    let g = c.index-group.result.now in
    let within : c.args.name / GROUP < length vs =
    omega (arith, ap (λ h. h.greatest) c.self.view_is, c.self.invariant.1, c.requires) in
    let full = group-full vs (c.args.name / GROUP) g within c.index-group.ensures c.self.invariant.2
    (not-empty g c.if-is_empty.ensures) in
    omega (arith, g.ok.0, full)

pub returns : goal.returns
returns c =
    let vs = c.self.inside.groups.items in
    let name = c.args.name in
    let i = name / GROUP in
    let j = name % GROUP in
    let g = c.index-group.result.now in
    let within : i < length vs =
    omega (arith, ap (λ h. h.greatest) c.self.view_is, c.self.invariant.1, c.requires) in
    let full = group-full vs i g within c.index-group.ensures c.self.invariant.2
    (not-empty g c.if-is_empty.ensures) in
    get_or_read g.items j _ (omega (arith, full)) c.index.ensures None
    ∙ ap (λ xs. get_or xs j None) (group-at vs i g within c.index-group.ensures)
    ∙ sym (spot-in name 0 i j (items_of vs) c.self.invariant.2 (omega arith) (omega arith))
    ∙ ap (λ h. spot_named name h.held) c.self.view_is
