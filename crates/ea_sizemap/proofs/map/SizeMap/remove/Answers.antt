use Rattle.std.proofs.Common.{arith, ap, ◌∙◌}
use Rattle.ea_keytree.specs.Keys.{KeysHeld}
use Rattle.ea_sizemap.proofs.Keying.{key_lt, seen, width_fits}
use Rattle.ea_sizemap.proofs.Changing.{take-contains, take-held, take-IsMap, take-room, take-sizes}
use Rattle.ea_sizemap.proofs.map.SizeMap.remove.Goals as goal

pub key-requires : goal.key-requires
key-requires c =
    let h = take-held c.self.invariant c.self.view_is c.requires.some c.requires.held in
    omega (
      arith,
      key_lt c.self.inside.span c.args.size c.args.position c.self.inside.most h.may h.within,
      width_fits _ _ c.self.invariant.small c.self.invariant.few,
    )

pub remove-place-requires : goal.remove-place-requires
remove-place-requires c =
    let h = take-held c.self.invariant c.self.view_is c.requires.some c.requires.held in
    take-contains c.self.invariant c.self.view_is h c.key.ensures

pub push_reserved-requires : goal.push_reserved-requires
push_reserved-requires c =
    let h = take-held c.self.invariant c.self.view_is c.requires.some c.requires.held in
    let some = take-room c.self.invariant c.self.view_is h c.key.ensures _
    c.remove-place.ensures.held in
    omega (arith, some)

pub invariant_of-self : goal.invariant_of-self
invariant_of-self c =
    let h = take-held c.self.invariant c.self.view_is c.requires.some c.requires.held in
    take-IsMap c.self.invariant c.self.view_is h c.key.ensures _
    c.remove-place.ensures.held _ _ _ c.remove-place.ensures.keys
    c.push_reserved.ensures.items c.push_reserved.ensures.capacity

pub returns : goal.returns
returns c =
    let h = take-held c.self.invariant c.self.view_is c.requires.some c.requires.held in
    ap (seen c.self.inside.most c.self.inside.span)
    (ap (λ (x : KeysHeld). x.keys) c.remove-place.ensures.keys)
    ∙ take-sizes c.self.invariant c.self.view_is h c.key.ensures _ c.remove-place.ensures.held
