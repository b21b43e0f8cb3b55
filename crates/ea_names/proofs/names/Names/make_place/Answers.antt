use Rattle.std.proofs.Common.{◌<◌, ◌/◌, true, set, sym, ap, ◌∙◌, length, length-set, arith, rules}
use Rattle.ea_names.specs.Holding.{has_place}
use Rattle.ea_names.specs.declared.groups.TheConstants.{GROUP}
use Rattle.ea_names.proofs.GroupedNames.{made-are, made-held, made-kept, made-place, made-places}
use Rattle.ea_names.proofs.GroupedNames.{place-there, places-there}
use Rattle.ea_names.proofs.names.Names.make_place.Goals as goal

pub invariant_of-self : goal.invariant_of-self
invariant_of-self c =
    let vs = c.self.inside.groups.items in
    let i = c.args.name / GROUP in
    let within : i < length vs =
    omega (arith, ap (λ h. h.greatest) c.self.view_is, c.self.invariant.1, c.requires) in
    let w = c.in_ok-self-inside.field-0 in (
      c.self.invariant.0,
      length-set vs i w ∙ c.self.invariant.1,
      made-are vs i c.index.result.now within c.index.ensures c.if-is_empty.ensures w
          (c.in_ok-self-inside.ensures.items_if_clones_equal (search rules)) c.self.invariant.2,
    )

pub returns-in_ok-self-inside-clause-places : goal.returns-in_ok-self-inside-clause-places
returns-in_ok-self-inside-clause-places c =
    let vs = c.self.inside.groups.items in
    let i = c.args.name / GROUP in
    let within : i < length vs =
    omega (arith, ap (λ h. h.greatest) c.self.view_is, c.self.invariant.1, c.requires) in
    let w = c.in_ok-self-inside.field-0 in
    made-places vs i c.index.result.now within c.index.ensures c.if-is_empty.ensures w
    (c.in_ok-self-inside.ensures.items_if_clones_equal (search rules))
    ∙ ap (λ h. set h.places i true) c.self.view_is

pub returns-in_ok-self-inside-clause-held : goal.returns-in_ok-self-inside-clause-held
returns-in_ok-self-inside-clause-held c =
    let vs = c.self.inside.groups.items in
    let i = c.args.name / GROUP in
    let within : i < length vs =
    omega (arith, ap (λ h. h.greatest) c.self.view_is, c.self.invariant.1, c.requires) in
    let w = c.in_ok-self-inside.field-0 in
    made-held vs i c.index.result.now within c.index.ensures c.if-is_empty.ensures w
    (c.in_ok-self-inside.ensures.items_if_clones_equal (search rules))
    ∙ ap (λ h. h.held) c.self.view_is

pub returns-else-is_empty-clause-places : goal.returns-else-is_empty-clause-places
returns-else-is_empty-clause-places c =
    let vs = c.self.inside.groups.items in
    let i = c.args.name / GROUP in
    let within : i < length vs =
    omega (arith, ap (λ h. h.greatest) c.self.view_is, c.self.invariant.1, c.requires) in
    let places = ap (λ h. h.places) c.self.view_is in
    sym places
    ∙ places-there vs i c.index.result.now within c.index.ensures c.if-is_empty.ensures
    ∙ ap (λ ps. set ps i true) places

pub returns-in_ok-self-inside-clause-place : goal.returns-in_ok-self-inside-clause-place
returns-in_ok-self-inside-clause-place c =
    let vs = c.self.inside.groups.items in
    let i = c.args.name / GROUP in
    let within : i < length vs =
    omega (arith, ap (λ h. h.greatest) c.self.view_is, c.self.invariant.1, c.requires) in
    let w = c.in_ok-self-inside.field-0 in
    made-place vs i c.index.result.now within c.index.ensures c.if-is_empty.ensures w
    (c.in_ok-self-inside.ensures.items_if_clones_equal (search rules))

pub returns-in_ok-self-inside-clause-kept : goal.returns-in_ok-self-inside-clause-kept
returns-in_ok-self-inside-clause-kept c =
    let vs = c.self.inside.groups.items in
    let i = c.args.name / GROUP in
    let within : i < length vs =
    omega (arith, ap (λ h. h.greatest) c.self.view_is, c.self.invariant.1, c.requires) in
    let w = c.in_ok-self-inside.field-0 in
    λ other has. made-kept vs i c.index.result.now within c.index.ensures c.if-is_empty.ensures w
    (c.in_ok-self-inside.ensures.items_if_clones_equal (search rules)) (other / GROUP)
    (ap (λ h. has_place h.places other) c.self.view_is ∙ has)

pub returns-else-is_empty-clause-place : goal.returns-else-is_empty-clause-place
returns-else-is_empty-clause-place c =
    let vs = c.self.inside.groups.items in
    let i = c.args.name / GROUP in
    let within : i < length vs =
    omega (arith, ap (λ h. h.greatest) c.self.view_is, c.self.invariant.1, c.requires) in
    sym (ap (λ h. has_place h.places c.args.name) c.self.view_is)
    ∙ place-there vs i c.index.result.now within c.index.ensures c.if-is_empty.ensures
