use Rattle.std.proofs.Common.{◌≡◌, ◌+◌, ◌*◌, ◌-◌, ◌++◌, ap, arith, drop, get_or, length, not, sym, take}
use Rattle.std.proofs.Common.{◌∙◌}
use Rattle.std.proofs.lemmas.List.{get_or-drop, take_all, with_items_is}
use Rattle.std.specs.Prelude.{if◌then◌else◌}
use Rattle.ea_postree.proofs.Views.{next-le, padded, zeros}
use Rattle.ea_postree.proofs.tree.widen.Goals as goal

pub unreachable-requires : goal.unreachable-requires
unreachable-requires c =
    let n = c.next_power_of_two-wider.ensures in
    let r = c.requires.room in
    let le = next-le c.next_power_of_two-wider.result r.0 n.power r.1 (omega (arith, n.upper_bound, r.2)) in
    let ok = c.resize.ensures.succeeds (omega (arith, le, r.3)) in
    let failed = c.is_err.ensures.negation ∙ ap not c.if-is_err.true in
    absurd cc

pub returns-clause-same : goal.returns-clause-same
returns-clause-same c =
    let v = c.resize.new.self in
    let old = c.args.maxima.now.items in
    let leaves = c.args.leaves in
    let wider = c.next_power_of_two-wider.result in
    let more = 2 * wider - length old in
    let done = c.is_err.ensures.negation ∙ ap not c.if-is_err.false in
    let resized : v.items ≡ old ++ zeros more =
    c.resize.ensures.items
    ∙ ap (λ b. if b then take (2 * wider) old ++ zeros (2 * wider - c.args.maxima.now.len) else old) done
    ∙ ap (λ n. take (2 * wider) old ++ zeros (2 * wider - n)) (omega (arith, c.args.maxima.now.ok))
    ∙ ap (λ xs. xs ++ zeros more) (take_all (2 * wider) old (omega (arith, c.requires.tree.long, c.if-place-leaves.false, c.next_power_of_two-wider.ensures.lower_bound))) in
    λ p.
    ap (λ m. get_or (drop wider m) p 0) (with_items_is v c.spread.new.maxima (omega (arith, c.spread.ensures.tree.long, v.ok)))
    ∙ c.spread.ensures.same p
    ∙ ap (λ m. get_or (drop leaves m) p 0) (c.deref_mut.ensures.value ∙ resized)
    ∙ get_or-drop leaves (old ++ zeros more) p 0
    ∙ padded old more (leaves + p)
    ∙ sym (get_or-drop leaves old p 0)
