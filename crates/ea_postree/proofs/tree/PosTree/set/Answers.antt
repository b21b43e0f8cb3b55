use Rattle.std.proofs.Common.{◌≡◌, ◌+◌, ◌<◌, drop, set, length, sym, ap, ◌∙◌, subst, arith}
use Rattle.std.specs.Vec.{with_item, with_items}
use Rattle.std.proofs.Math.ListN.{length-set}
use Rattle.std.proofs.lemmas.List.{with_items_is}
use Rattle.ea_postree.specs.Maxima.{values, IsKept}
use Rattle.ea_postree.proofs.Views.{kept-widened, kept_after, values-long, values-widened}
use Rattle.ea_postree.proofs.Views.{values_after}
use Rattle.ea_postree.proofs.tree.PosTree.set.Goals as goal

within : (c : goal.After-self-3-1) → c.args.position < c.self.inside.positions
within c =
    let t = c.self.inside in
    omega (
      arith,
      subst (λ vs. c.args.position < length vs) (sym c.self.view_is) c.requires,
      values-long t.positions t.leaves t.maxima.items,
    )

wide : (c : goal.After-self-3-1) → IsKept c.self.inside.positions
    c.widen-self-inside.result c.widen-self-inside.new.maxima.cap
    c.widen-self-inside.new.maxima.items
wide c =
    let t = c.self.inside in
    let w = c.widen-self-inside in
    kept-widened t.positions t.leaves w.result t.maxima.cap w.new.maxima.cap t.maxima.items
    w.new.maxima.items c.self.invariant w.ensures.tree w.ensures.same w.ensures.capacity

long : (c : goal.After-self-3-1)
    → length c.update_above.new.maxima ≡ length c.widen-self-inside.new.maxima.items
long c =
    let w = c.widen-self-inside in
    c.update_above.ensures.long
    ∙ ap length c.deref_mut.ensures.value
    ∙ length-set w.new.maxima.items (w.result + c.args.position) c.args.value

items : (c : goal.After-self-3-1) → (with_items (with_item c.widen-self-inside.new.maxima
    (c.widen-self-inside.result + c.args.position) c.args.value)
    c.update_above.new.maxima).items ≡ c.update_above.new.maxima
items c =
    let w = c.widen-self-inside in
    with_items_is (with_item w.new.maxima (w.result + c.args.position) c.args.value)
    c.update_above.new.maxima (omega (arith, long c, w.new.maxima.ok))

leaves : (c : goal.After-self-3-1)
    → drop c.widen-self-inside.result c.update_above.new.maxima
    ≡ drop c.widen-self-inside.result (set c.widen-self-inside.new.maxima.items
    (c.widen-self-inside.result + c.args.position) c.args.value)
leaves c =
    c.update_above.ensures.leaves
    ∙ ap (drop c.widen-self-inside.result) c.deref_mut.ensures.value

pub invariant_of-self : goal.invariant_of-self
invariant_of-self c =
    let w = c.widen-self-inside in
    subst (IsKept c.self.inside.positions w.result w.new.maxima.cap) (sym (items c))
    (kept_after c.self.inside.positions w.result w.new.maxima.cap w.new.maxima.items
    c.update_above.new.maxima c.args.position c.args.value (wide c) (within c)
    c.update_above.ensures.greater (leaves c) (long c))

pub returns : goal.returns
returns c =
    let t = c.self.inside in
    let w = c.widen-self-inside in
    ap (values t.positions w.result) (items c)
    ∙ values_after t.positions w.result w.new.maxima.items c.update_above.new.maxima
    c.args.position c.args.value (within c)
    (omega (arith, w.ensures.reaches, w.ensures.tree.long)) (leaves c)
    ∙ ap (λ vs. set vs c.args.position c.args.value)
    (values-widened t.positions t.leaves w.result t.maxima.items w.new.maxima.items
    w.ensures.same ∙ c.self.view_is)
