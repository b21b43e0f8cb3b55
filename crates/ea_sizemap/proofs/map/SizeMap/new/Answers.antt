use Rattle.std.proofs.Common.{ap, ◌∙◌, sym, List, ℕ, ◌≡◌, ◌+◌, ◌*◌, arith, replicate}
use Rattle.ea_keytree.specs.Keys.{KeysHeld}
use Rattle.ea_sizemap.specs.Held.{Sizes}
use Rattle.ea_sizemap.specs.Keyed.{sizes_in}
use Rattle.ea_sizemap.proofs.Keying.{sizes-none}
use Rattle.ea_sizemap.proofs.Changing.{new-IsMap}
use Rattle.ea_sizemap.proofs.map.SizeMap.new.Goals as goal

pub invariant_of-result-2 : goal.invariant_of-result-2
invariant_of-result-2 c =
    let span : c.from.result ≡ c.args.positions = omega (arith, c.from.ensures) in
    let its = c.in_ok-reserve.ensures in
    new-IsMap _ _ _ _ _ (omega (arith, span)) (omega arith)
    (ap (λ (v : KeysHeld). v.width) c.keys.view_is ∙ its.width
    ∙ ap (λ (v : KeysHeld). v.width) c.new-keys.ensures ∙ c.width.ensures
    ∙ ap (λ n. (c.args.sizes + 1) * n) (sym span))
    (ap (λ (v : KeysHeld). v.keys) c.keys.view_is ∙ its.keys
    ∙ ap (λ (v : KeysHeld). v.keys) c.new-keys.ensures)
    (omega (arith, span, ap (λ (v : KeysHeld). v.room) c.keys.view_is, its.ok))
    c.in_ok-with_capacity.ensures.items
    (omega (arith, span, c.in_ok-with_capacity.ensures.capacity))

pub returns : goal.returns
returns c =
    let span : c.from.result ≡ c.args.positions = omega (arith, c.from.ensures) in
    let with_most : List ℕ → Sizes = λ ss. record { most = c.args.sizes; held = ss } in
    ap with_most
    (ap (sizes_in c.from.result)
    (ap (λ (v : KeysHeld). v.keys) c.keys.view_is ∙ c.in_ok-reserve.ensures.keys
    ∙ ap (λ (v : KeysHeld). v.keys) c.new-keys.ensures)
    ∙ sizes-none c.from.result
    ∙ ap (λ n. replicate n 0) span)
