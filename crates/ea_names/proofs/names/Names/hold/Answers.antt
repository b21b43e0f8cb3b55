use Rattle.std.proofs.Common.{◌≡◌, ◌<◌, ◌/◌, ◌%◌, [], Some, None, sym, ap, ◌∙◌, get_or, length}
use Rattle.std.proofs.Common.{arith}
use Rattle.ea_machine.specs.Nodes.{spot_named, with_name}
use Rattle.ea_names.specs.Holding.{has_place, held_in}
use Rattle.ea_names.specs.declared.groups.TheConstants.{GROUP}
use Rattle.ea_names.proofs.GroupedNames.{group-at, groups-length, hold-in, item-are, item-groups}
use Rattle.ea_names.proofs.GroupedNames.{item-length, item-places, items_of, place-size, spot-in}
use Rattle.ea_names.proofs.names.Names.hold.Goals as goal

pub index_mut-requires-2 : goal.index_mut-requires-2
index_mut-requires-2 c =
    let vs = c.self.inside.groups.items in
    let i = c.args.name / GROUP in
    let v = c.index_mut.result.now in
    let place = place-size i (items_of vs) c.self.invariant.2
    (ap (λ h. has_place h.places c.args.name) c.self.view_is ∙ c.requires.place) in
    let within : i < length vs = omega (arith, place.0, groups-length vs) in
    omega (arith, v.ok.0, ap length (group-at vs i v within c.index_mut.ensures.value), place.1)

pub invariant_of-self : goal.invariant_of-self
invariant_of-self c =
    let vs = c.self.inside.groups.items in
    let i = c.args.name / GROUP in
    let j = c.args.name % GROUP in
    let v = c.index_mut.result.now in
    let place = place-size i (items_of vs) c.self.invariant.2
    (ap (λ h. has_place h.places c.args.name) c.self.view_is ∙ c.requires.place) in
    let within : i < length vs = omega (arith, place.0, groups-length vs) in
    let spot = Some c.args.spot in (
      c.self.invariant.0,
      item-length vs i v within c.index_mut.ensures.value j spot ∙ c.self.invariant.1,
      item-are vs i v within c.index_mut.ensures.value j spot c.self.invariant.2,
    )

pub returns-clause-held : goal.returns-clause-held
returns-clause-held c =
    let vs = c.self.inside.groups.items in
    let name = c.args.name in
    let i = name / GROUP in
    let j = name % GROUP in
    let v = c.index_mut.result.now in
    let are = c.self.invariant.2 in
    let held : held_in 0 (items_of vs) ≡ c.args.self.now.held = ap (λ h. h.held) c.self.view_is in
    let place = place-size i (items_of vs) are
    (ap (λ h. has_place h.places name) c.self.view_is ∙ c.requires.place) in
    let within : i < length vs = omega (arith, place.0, groups-length vs) in
    let free : get_or (get_or (items_of vs) i []) j None ≡ None =
    sym (spot-in name 0 i j (items_of vs) are (omega arith) (omega arith))
    ∙ ap (spot_named name) held ∙ c.requires.fresh in
    ap (held_in 0) (item-groups vs i v within c.index_mut.ensures.value j (Some c.args.spot))
    ∙ hold-in name 0 i j c.args.spot (items_of vs) are (omega arith) (omega arith) place.0
    (omega (arith, place.1)) free
    ∙ ap (with_name (record { name = name; spot = c.args.spot })) held

pub returns-clause-places : goal.returns-clause-places
returns-clause-places c =
    let vs = c.self.inside.groups.items in
    let i = c.args.name / GROUP in
    let place = place-size i (items_of vs) c.self.invariant.2
    (ap (λ h. has_place h.places c.args.name) c.self.view_is ∙ c.requires.place) in
    item-places vs i c.index_mut.result.now (omega (arith, place.0, groups-length vs))
    c.index_mut.ensures.value (c.args.name % GROUP) (Some c.args.spot)
    ∙ ap (λ h. h.places) c.self.view_is

pub returns-clause-whole : goal.returns-clause-whole
returns-clause-whole c = λ whole name le.
    ap (λ ps. has_place ps name) (returns-clause-places c)
    ∙ whole name (omega (arith, le, ap (λ h. h.greatest) c.self.view_is))
