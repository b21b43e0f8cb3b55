use Rattle.std.proofs.Common.{arith, ap, ◌∙◌}
use Rattle.ea_keytree.specs.Keys.{KeysHeld}
use Rattle.ea_sizemap.proofs.Keying.{key_lt, seen, width_fits}
use Rattle.ea_sizemap.proofs.Changing.{put-few, put-IsMap, put-may, put-new, put-sizes, put-within}
use Rattle.ea_sizemap.proofs.Placing.{place-empty, place-within}
use Rattle.ea_sizemap.proofs.map.SizeMap.insert.Goals as goal

pub key-requires : goal.key-requires
key-requires c =
    let may = put-may c.self.invariant c.self.view_is c.requires.position c.requires.free
    c.requires.size.0 c.requires.size.1 in
    let within = put-within c.self.invariant c.self.view_is c.requires.position c.requires.free
    c.requires.size.0 c.requires.size.1 in
    omega (
      arith,
      key_lt c.self.inside.span c.args.size c.args.position c.self.inside.most may within,
      width_fits _ _ c.self.invariant.small c.self.invariant.few,
    )

pub take_place-place-requires-clause-free : goal.take_place-place-requires-clause-free
take_place-place-requires-clause-free c = c.self.invariant.are_free

pub take_place-place-requires-clause-room : goal.take_place-place-requires-clause-room
take_place-place-requires-clause-room c =
    let few = put-few c.self.invariant c.self.view_is c.requires.position c.requires.free
    c.requires.size.0 c.requires.size.1 in
    omega (arith, few, c.self.invariant.room)

pub insert-requires-clause-within : goal.insert-requires-clause-within
insert-requires-clause-within c = place-within _ _ _ c.take_place-place.ensures.free

pub insert-requires-clause-free : goal.insert-requires-clause-free
insert-requires-clause-free c = place-empty _ _ _ c.take_place-place.ensures.free

pub insert-requires-clause-key : goal.insert-requires-clause-key
insert-requires-clause-key c =
    let may = put-may c.self.invariant c.self.view_is c.requires.position c.requires.free
    c.requires.size.0 c.requires.size.1 in
    let within = put-within c.self.invariant c.self.view_is c.requires.position c.requires.free
    c.requires.size.0 c.requires.size.1 in
    omega (
      arith,
      key_lt c.self.inside.span c.args.size c.args.position c.self.inside.most may within,
      c.self.invariant.width,
      c.take_place-place.ensures.width,
      c.key.ensures,
    )

pub insert-requires-clause-new : goal.insert-requires-clause-new
insert-requires-clause-new c =
    let its = c.take_place-place.ensures in
    put-new c.self.invariant c.self.view_is c.requires.position c.requires.free c.requires.size.0
    c.requires.size.1 c.take_place-place.new.keys _ _ _ its.free its.same c.key.ensures

pub invariant_of-self : goal.invariant_of-self
invariant_of-self c =
    let its = c.take_place-place.ensures in
    put-IsMap c.self.invariant c.self.view_is c.requires.position c.requires.free c.requires.size.0
    c.requires.size.1 c.take_place-place.new.keys _ _ _ its.free its.same c.key.ensures its.sizes
    _ _ c.insert.ensures its.width its.room its.held its.few its.capacity

pub returns : goal.returns
returns c =
    let its = c.take_place-place.ensures in
    ap (seen c.self.inside.most c.self.inside.span)
    (ap (λ (x : KeysHeld). x.keys) c.insert.ensures)
    ∙ put-sizes c.self.invariant c.self.view_is c.requires.position c.requires.free
    c.requires.size.0 c.requires.size.1 c.take_place-place.new.keys _ _ _ its.free its.same
    c.key.ensures its.sizes
