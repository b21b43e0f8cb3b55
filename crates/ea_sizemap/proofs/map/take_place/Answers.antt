use Rattle.std.proofs.Common.{◌++◌, [], ◌∷◌, None, append-nil, ap, sym, ◌∙◌, subst, arith}
use Rattle.ea_sizemap.specs.Keyed.{sizes_in}
use Rattle.ea_sizemap.specs.Places.{AreFree, held_count}
use Rattle.ea_sizemap.proofs.Keying.{size_at-more, sizes-same}
use Rattle.ea_sizemap.proofs.Placing.{free-more, held_count-more, no_items}
use Rattle.ea_sizemap.proofs.map.take_place.Goals as goal

pub returns-clause-free : goal.returns-clause-free
returns-clause-free c =
    let none = no_items c.pop.new.self.items
    (omega (arith, c.in_default.ensures.len, c.in_default.ensures.cases.0)) in
    let was = c.in_default.ensures.items ∙ append-nil c.pop.new.self.items ∙ none in
    subst (λ xs. AreFree c.push.new.self.keys (xs ++ c.len-place.result ∷ [])) (sym none)
    (subst (λ ks. AreFree ks (c.len-place.result ∷ [])) (sym c.push.ensures.keys)
    (free-more _ _ c.len-place.ensures
    (subst (AreFree c.args.keys.now.keys) was c.requires.free)))

pub returns-clause-held : goal.returns-clause-held
returns-clause-held c = ap held_count c.push.ensures.keys ∙ held_count-more c.args.keys.now.keys

pub returns-clause-sizes : goal.returns-clause-sizes
returns-clause-sizes c = λ span. ap (sizes_in span) c.push.ensures.keys
    ∙ sizes-same span c.args.keys.now.keys (c.args.keys.now.keys ++ None ∷ [])
    (λ p. size_at-more span p c.args.keys.now.keys)
