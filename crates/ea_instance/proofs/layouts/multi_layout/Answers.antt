use Rattle.std.proofs.Common.{◌≡◌, ◌+◌, ◌<◌, ◌≤◌, ℕ, List, sym, ◌∙◌, subst, inl, inr, arith}
use Rattle.ea_model.specs.Content.{Content}
use Rattle.ea_mbc.specs.declared.parts.Part.TheVariants as part
use Rattle.ea_instance.proofs.PartWalks.{IsWalked, ends, next, part_of, same-layout}
use Rattle.ea_instance.proofs.layouts.multi_layout.Goals as goal

pub part_at-requires : goal.part_at-requires
part_at-requires c = (next c.args.carrier.now c.loop-at.at c.loop-at.blocks.items
    c.loop-at.gaps.items (omega (arith, c.loop-at-test.true, c.units-units.ensures))
    c.loop-at.invariant).begins

-- a block comes, or a gap, behind the parts that were walked

some-block : (x : Content) (at units n : ℕ) (blocks holes : List ℕ) → units ≡ x.units → at < units
    → IsWalked x at blocks holes → part_of x at ≡ part.Block n → (0 < n) × (at + n ≤ units)
some-block x at units n blocks holes e less w is =
    let s = (next x at blocks holes (omega (arith, less, e)) w).some n (inl is) in
    (s.0, omega (arith, s.1, e))

some-gap : (x : Content) (at units n : ℕ) (blocks holes : List ℕ) → units ≡ x.units → at < units
    → IsWalked x at blocks holes → part_of x at ≡ part.Gap n → (0 < n) × (at + n ≤ units)
some-gap x at units n blocks holes e less w is =
    let s = (next x at blocks holes (omega (arith, less, e)) w).some n (inr is) in
    (s.0, omega (arith, s.1, e))

pub overflow_add-at : goal.overflow_add-at
overflow_add-at c = omega (
  arith,
  (some-block c.args.carrier.now c.loop-at.at c.units-units.result
      c.in-Block.size c.loop-at.blocks.items c.loop-at.gaps.items c.units-units.ensures
      c.loop-at-test.true c.loop-at.invariant (sym c.part_at.ensures ∙ c.in-Block.is)).1,
)

pub loop-at-smaller-in-Block : goal.loop-at-smaller-in-Block
loop-at-smaller-in-Block c =
    let s = some-block c.args.carrier.now c.loop-at.at c.units-units.result
    c.in-Block.size c.loop-at.blocks.items c.loop-at.gaps.items c.units-units.ensures
    c.loop-at-test.true c.loop-at.invariant (sym c.part_at.ensures ∙ c.in-Block.is) in
    omega (arith, s.0, s.1)

pub loop-at-preserved-in-Block : goal.loop-at-preserved-in-Block
loop-at-preserved-in-Block c =
    subst (λ bs. IsWalked c.args.carrier.now (c.loop-at.at + c.in-Block.size) bs
    c.loop-at.gaps.items) (sym c.in_ok-push-in-Block.ensures.ok)
    ((next c.args.carrier.now c.loop-at.at c.loop-at.blocks.items c.loop-at.gaps.items
    (omega (arith, c.loop-at-test.true, c.units-units.ensures)) c.loop-at.invariant).block
    c.in-Block.size (sym c.part_at.ensures ∙ c.in-Block.is))

pub overflow_add-at-in-Gap : goal.overflow_add-at-in-Gap
overflow_add-at-in-Gap c = omega (
  arith,
  (some-gap c.args.carrier.now c.loop-at.at
      c.units-units.result c.in-Gap.size c.loop-at.blocks.items c.loop-at.gaps.items
      c.units-units.ensures c.loop-at-test.true c.loop-at.invariant
      (sym c.part_at.ensures ∙ c.in-Gap.is)).1,
)

pub loop-at-smaller : goal.loop-at-smaller
loop-at-smaller c =
    let s = some-gap c.args.carrier.now c.loop-at.at c.units-units.result
    c.in-Gap.size c.loop-at.blocks.items c.loop-at.gaps.items c.units-units.ensures
    c.loop-at-test.true c.loop-at.invariant (sym c.part_at.ensures ∙ c.in-Gap.is) in
    omega (arith, s.0, s.1)

pub loop-at-preserved : goal.loop-at-preserved
loop-at-preserved c =
    subst (λ gs. IsWalked c.args.carrier.now (c.loop-at.at + c.in-Gap.size)
    c.loop-at.blocks.items gs) (sym c.in_ok-push-in-Gap.ensures.ok)
    ((next c.args.carrier.now c.loop-at.at c.loop-at.blocks.items c.loop-at.gaps.items
    (omega (arith, c.loop-at-test.true, c.units-units.ensures)) c.loop-at.invariant).hole
    c.in-Gap.size (sym c.part_at.ensures ∙ c.in-Gap.is))

pub returns : goal.returns
returns c =
    let e = ends c.args.carrier.now c.loop-at.at c.loop-at.blocks.items c.loop-at.gaps.items
    c.loop-at.invariant (omega (arith, c.loop-at-test.false, c.units-units.ensures)) in
    same-layout _ _ _ _ _ _ c.number.ensures e.0 e.1
