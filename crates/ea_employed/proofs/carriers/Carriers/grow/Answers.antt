use Rattle.std.proofs.Common.{◌≡◌, arith, length, set, ℕ, ◌+◌, ◌<◌, ◌≤◌, ◌∙◌, ap, refl, sym, subst}
use Rattle.ea_model.specs.Instance.{changed}
use Rattle.std.specs.Prelude.{IfSome, IsNone, IsSome}
use Rattle.ea_model.specs.Content.{Content, resized, size_of, taken_of}
use Rattle.ea_mbc.specs.Gaps.{room_at}
use Rattle.ea_employed.specs.Laid.{AreLaid}
use Rattle.ea_employed.specs.Listed.{CarrierList}
use Rattle.ea_employed.proofs.BinsAfter.{can-cut, cut-noted}
use Rattle.ea_employed.proofs.Changing.{found-at, found-block, found-content, growing}
use Rattle.ea_employed.proofs.Changing.{growing-between, resizing-low, IsResizing}
use Rattle.ea_employed.proofs.Counting.{AreBounded, laid-figures, resized-counted, resized-within}
use Rattle.ea_employed.proofs.Finding.{in-set}
use Rattle.ea_employed.proofs.Listed.{IsListed-changed}
use Rattle.ea_employed.proofs.Resizing.{growing-IsCut, resized_by-keeps}
use Rattle.ea_employed.proofs.carriers.Carriers.grow.Goals as goal
use Rattle.ea_employed.proofs.carriers.Carriers.grow.Goals.{In-Some}

pub address-address-requires-clause-within : goal.address-address-requires-clause-within
address-address-requires-clause-within c =
    (found-at _ c.args.self.now c.args.found c.args.offset c.index.result.now c.self.view_is
    c.requires.laid c.requires.found c.requires.block c.index.ensures).within

pub grow-requires-clause-begins : goal.grow-requires-clause-begins
grow-requires-clause-begins c = subst (λ b. IsSome b)
    (found-block _ c.args.self.now c.args.found c.args.offset c.index_mut.result.now
    c.behind-self.inside.carrier c.behind-self.inside.kind c.self.view_is c.requires.laid
    c.requires.found c.index_mut.ensures.value c.behind-self.view_is) c.requires.block

pub grow-requires-clause-more : goal.grow-requires-clause-more
grow-requires-clause-more c = subst (λ b. size_of b < c.args.need)
    (found-block _ c.args.self.now c.args.found c.args.offset c.index_mut.result.now
    c.behind-self.inside.carrier c.behind-self.inside.kind c.self.view_is c.requires.laid
    c.requires.found c.index_mut.ensures.value c.behind-self.view_is) c.requires.more

pub unreachable-requires : goal.unreachable-requires
unreachable-requires c =
    let enough = subst (λ o. IfSome o (λ m. c.args.need ≤ room_at m c.args.offset))
    (found-content _ c.args.self.now c.args.found c.args.offset c.index_mut.result.now
    c.behind-self.inside.carrier c.behind-self.inside.kind c.self.view_is c.requires.laid
    c.requires.found c.index_mut.ensures.value c.behind-self.view_is) c.requires.fits in
    let low = c.grow.ensures.fits.0 (subst (λ o. IsNone o) (sym c.in_default.is) refl) in
    omega (arith, low, enough)

-- the units that a block there takes
abbrev taken : ℕ → ℕ → Content → ℕ
taken offset need m = taken_of (room_at m offset) need

laid : (c : In-Some) → AreLaid c.self.inside.list.items
laid c = subst (λ (l : CarrierList). AreLaid l.contents) (sym c.self.view_is) c.requires.laid

grown : (c : In-Some) → IsResizing c.args.found.carrier.key.number c.args.offset
    (taken c.args.offset c.args.need) c.args.name c.address-address.result c.in-Some.block
    c.self.inside.list.items
    (set c.self.inside.list.items c.args.found.index (record c.grow.new.self {
      kind = c.behind-self.inside.kind;
    }))
grown c = growing _ c.args.self.now c.args.found c.args.offset c.index.result.now
    c.index_mut.result.now c.self.view_is c.requires.laid c.requires.found c.requires.block
    c.index.ensures c.index_mut.ensures.value _ _ _ c.behind-self.view_is
    c.args.need c.args.name c.address-address.result c.in-Some.block c.address-address.ensures
    c.in-Some.ensures.grown c.requires.more c.requires.even c.requires.fits
    c.in-Some.ensures.was c.in-Some.ensures.after c.in-Some.ensures.size
    c.in-Some.ensures.largest c.in-Some.ensures.gap_resized

between : (c : In-Some) → (c.in-Some.block.was < c.in-Some.block.size)
    × (c.in-Some.block.size ≤ c.in-Some.block.was + c.in-Some.block.after)
between c = growing-between c.args.found.carrier.key.number c.args.offset c.args.need c.args.name
    c.address-address.result c.in-Some.block _ _ _ c.self.view_is (grown c) c.requires.more
    c.requires.fits

pub update-requires : goal.update-requires
update-requires c =
    in-set _ c.args.self.now c.self.inside.set.held c.args.found c.self.view_is
    c.self.invariant.listed.held c.requires.found

pub note_placed-requires : goal.note_placed-requires
note_placed-requires c =
    let after = (goal.at.note_placed-requires c).In-Some in
    can-cut _ _ _ _ _ (growing-IsCut c.args.found.carrier.key.number c.args.offset
    (taken c.args.offset c.args.need) c.args.name c.address-address.result c.in-Some.block _ _
    (laid after) (grown after) (between after).0 (between after).1)
    c.self.inside.bins c.self.invariant.listed.gaps

pub invariant_of-self-2 : goal.invariant_of-self-2
invariant_of-self-2 c =
    let after = (goal.at.invariant_of-self-2 c).In-Some in
    let n = c.args.found.carrier.key.number in
    let units : Content → ℕ = taken c.args.offset c.args.need in
    let w = grown after in
    let cut = growing-IsCut n c.args.offset units c.args.name c.address-address.result
    c.in-Some.block _ _ (laid after) w (between after).0 (between after).1 in
    record {
      listed =
          IsListed-changed (λ m. resized m c.args.offset (units m) c.args.name)
          (resized_by-keeps c.args.offset units c.args.name) n w.content _ _ _ _ _ _ _ _
          _ w.there (laid after).rising c.self.invariant.listed w.is w.block.largest
          c.update.ensures.updated c.note_placed.ensures.fit c.note_placed.ensures.places
          (cut-noted _ _ _ _ _ cut c.self.inside.bins c.self.invariant.listed.gaps
          c.note_placed.new.bins c.note_placed.ensures.cut);
      room = c.self.invariant.room;
      counted =
          resized-counted n c.args.offset units c.args.name _ _ _ _ (laid after) w
          _ _ c.self.invariant.counted c.with_size-self-inside.ensures;
    }

pub with_size-self-inside-requires : goal.with_size-self-inside-requires
with_size-self-inside-requires c =
    let after = (goal.at.with_size-self-inside-requires c).In-Some in
    let n = c.args.found.carrier.key.number in
    let units : Content → ℕ = taken c.args.offset c.args.need in
    let few = ap (λ (l : CarrierList). length l.contents) c.self.view_is in
    let bounded = subst AreBounded (sym c.self.invariant.counted)
    (laid-figures c.self.inside.list.items (laid after) (omega (arith, few, c.requires.few))) in
    let low = resizing-low n c.args.offset units c.args.name c.address-address.result
    c.in-Some.block _ _ (laid after) (grown after) in (
      resized-within n c.args.offset units c.args.name c.address-address.result c.in-Some.block _ _
          (laid after) (grown after) _ c.self.invariant.counted,
      omega (
        arith,
        bounded.blocks_size,
        (between after).1,
        low,
      ),
    )

pub overflow_sub-more : goal.overflow_sub-more
overflow_sub-more c =
    let more = between (goal.at.overflow_sub-more c).In-Some in
    omega (arith, more.0)

pub overflow_add-address : goal.overflow_add-address
overflow_add-address c =
    let after = (goal.at.overflow_add-address c).In-Some in
    omega (
      arith,
      resizing-low c.args.found.carrier.key.number c.args.offset
          (taken c.args.offset c.args.need) c.args.name c.address-address.result c.in-Some.block
          _ _ (laid after) (grown after),
    )

pub returns-clause-grown : goal.returns-clause-grown
returns-clause-grown c =
    ap (λ cs. record {
      strategy = c.self.inside.strategy;
      units = c.self.inside.units;
      contents = cs;
    }) (grown (goal.at.returns-clause-grown c).In-Some).is
    ∙ ap (λ (l : CarrierList). record l {
      contents =
          changed
          (λ m. resized m c.args.offset (taken c.args.offset c.args.need m)
          c.args.name) c.args.found.carrier.key.number l.contents;
    }) c.self.view_is

pub returns-clause-size : goal.returns-clause-size
returns-clause-size c =
    subst (λ o. IfSome o (λ m. c.in-Some.block.size ≡ taken_of (room_at m c.args.offset)
    c.args.need))
    (sym (found-content _ c.args.self.now c.args.found c.args.offset c.index_mut.result.now
    c.behind-self.inside.carrier c.behind-self.inside.kind c.self.view_is c.requires.laid
    c.requires.found c.index_mut.ensures.value c.behind-self.view_is))
    c.in-Some.ensures.size
