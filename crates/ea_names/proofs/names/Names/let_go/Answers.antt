use Rattle.std.proofs.Common.{◌<◌, ◌/◌, ◌%◌, None, sym, ap, ◌∙◌, length, arith}
use Rattle.ea_machine.specs.Nodes.{without_name}
use Rattle.ea_names.specs.Holding.{has_place, held_in}
use Rattle.ea_names.specs.declared.groups.TheConstants.{GROUP}
use Rattle.ea_names.proofs.GroupedNames.{group-at, group-full, item-are, item-groups, item-length}
use Rattle.ea_names.proofs.GroupedNames.{item-places, items_of, let-go-in, none-gone, not-empty}
use Rattle.ea_names.proofs.names.Names.let_go.Goals as goal

pub returns-then-is_empty-clause-held : goal.returns-then-is_empty-clause-held
returns-then-is_empty-clause-held c =
    let vs = c.self.inside.groups.items in
    let name = c.args.name in
    let held = ap (λ h. h.held) c.self.view_is in
    let within : name / GROUP < length vs =
    omega (arith, ap (λ h. h.greatest) c.self.view_is, c.self.invariant.1, c.requires.place) in
    sym held
    ∙ none-gone vs (name / GROUP) c.index.result.now within c.index.ensures c.if-is_empty.ensures
    name (name % GROUP) c.self.invariant.2 (omega arith) (omega arith)
    ∙ ap (without_name name) held

pub index_mut-requires-2 : goal.index_mut-requires-2
index_mut-requires-2 c =
    let vs = c.self.inside.groups.items in
    let i = c.args.name / GROUP in
    let v = c.index_mut.result.now in
    let within : i < length vs =
    omega (arith, ap (λ h. h.greatest) c.self.view_is, c.self.invariant.1, c.requires.place) in
    let full = group-full vs i c.index.result.now within c.index.ensures c.self.invariant.2
    (not-empty c.index.result.now c.if-is_empty.ensures) in
    omega (
      arith,
      v.ok.0,
      full,
      ap length (group-at vs i v within c.index_mut.ensures.value
          ∙ sym (group-at vs i c.index.result.now within c.index.ensures)),
    )

pub invariant_of-self : goal.invariant_of-self
invariant_of-self c =
    let vs = c.self.inside.groups.items in
    let i = c.args.name / GROUP in
    let within : i < length vs =
    omega (arith, ap (λ h. h.greatest) c.self.view_is, c.self.invariant.1, c.requires.place) in
    let v = c.index_mut.result.now in
    let at = c.index_mut.ensures.value in
    let j = c.args.name % GROUP in (
      c.self.invariant.0,
      item-length vs i v within at j None ∙ c.self.invariant.1,
      item-are vs i v within at j None c.self.invariant.2,
    )

pub returns-clause-held : goal.returns-clause-held
returns-clause-held c =
    let vs = c.self.inside.groups.items in
    let name = c.args.name in
    let i = name / GROUP in
    let within : i < length vs =
    omega (arith, ap (λ h. h.greatest) c.self.view_is, c.self.invariant.1, c.requires.place) in
    ap (held_in 0) (item-groups vs i c.index_mut.result.now within c.index_mut.ensures.value
    (name % GROUP) None)
    ∙ let-go-in name 0 i (name % GROUP) (items_of vs) c.self.invariant.2 (omega arith) (omega arith)
    ∙ ap (λ h. without_name name h.held) c.self.view_is

pub returns-clause-places : goal.returns-clause-places
returns-clause-places c =
    let vs = c.self.inside.groups.items in
    let i = c.args.name / GROUP in
    let within : i < length vs =
    omega (arith, ap (λ h. h.greatest) c.self.view_is, c.self.invariant.1, c.requires.place) in
    item-places vs i c.index_mut.result.now within c.index_mut.ensures.value (c.args.name % GROUP)
    None
    ∙ ap (λ h. h.places) c.self.view_is

pub returns-clause-whole : goal.returns-clause-whole
returns-clause-whole c = λ whole name le.
    ap (λ ps. has_place ps name) (returns-clause-places c)
    ∙ whole name (omega (arith, le, ap (λ h. h.greatest) c.self.view_is))
