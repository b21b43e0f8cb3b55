use Rattle.std.proofs.Common.{◌+◌, ◌≤◌, ◌∙◌, ap, arith, rules, set, sym, subst}
use Rattle.std.specs.Prelude.{IsSome}
use Rattle.ea_model.specs.declared.units.TheConstants.{MIN_BLOCK}
use Rattle.ea_model.specs.Content.{resized, size_of}
use Rattle.ea_model.specs.Instance.{changed}
use Rattle.ea_employed.specs.Laid.{AreLaid}
use Rattle.ea_employed.specs.Listed.{CarrierList}
use Rattle.ea_employed.proofs.BinsAfter.{can-join, join-noted}
use Rattle.ea_employed.proofs.Changing.{found-at, found-block, resizing-low, shrinking}
use Rattle.ea_employed.proofs.Changing.{shrinking-below, IsResizing}
use Rattle.ea_employed.proofs.Counting.{resized-counted, resized-within}
use Rattle.ea_employed.proofs.Finding.{in-set}
use Rattle.ea_employed.proofs.Listed.{IsListed-changed}
use Rattle.ea_employed.proofs.Places.{has-room}
use Rattle.ea_employed.proofs.Resizing.{resized_by-keeps, shrinking-IsJoin}
use Rattle.ea_employed.proofs.carriers.Carriers.shrink.Goals as goal
use Rattle.ea_employed.proofs.carriers.Carriers.shrink.Goals.{After-shrink-block}

pub address-address-requires-clause-within : goal.address-address-requires-clause-within
address-address-requires-clause-within c =
    (found-at _ c.args.self.now c.args.found c.args.offset c.index.result.now c.self.view_is
    c.requires.laid c.requires.found c.requires.block c.index.ensures).within

pub shrink-block-requires-clause-begins : goal.shrink-block-requires-clause-begins
shrink-block-requires-clause-begins c = subst (λ b. IsSome b)
    (found-block _ c.args.self.now c.args.found c.args.offset c.index_mut.result.now
    c.behind-self.inside.carrier c.behind-self.inside.kind c.self.view_is c.requires.laid
    c.requires.found c.index_mut.ensures.value c.behind-self.view_is) c.requires.block

pub shrink-block-requires-clause-fewer : goal.shrink-block-requires-clause-fewer
shrink-block-requires-clause-fewer c = subst (λ b. c.args.need + MIN_BLOCK ≤ size_of b)
    (found-block _ c.args.self.now c.args.found c.args.offset c.index_mut.result.now
    c.behind-self.inside.carrier c.behind-self.inside.kind c.self.view_is c.requires.laid
    c.requires.found c.index_mut.ensures.value c.behind-self.view_is) c.requires.fewer

laid : (c : After-shrink-block) → AreLaid c.self.inside.list.items
laid c = subst (λ (l : CarrierList). AreLaid l.contents) (sym c.self.view_is) c.requires.laid

shrunk : (c : After-shrink-block) → IsResizing c.args.found.carrier.key.number c.args.offset
    (λ m. c.args.need) c.args.name c.address-address.result c.shrink-block.result
    c.self.inside.list.items
    (set c.self.inside.list.items c.args.found.index (record c.shrink-block.new.self {
      kind = c.behind-self.inside.kind;
    }))
shrunk c = shrinking _ c.args.self.now c.args.found c.args.offset c.index.result.now
    c.index_mut.result.now c.self.view_is c.requires.laid c.requires.found c.requires.block
    c.index.ensures c.index_mut.ensures.value _ _ _ c.behind-self.view_is
    c.args.need c.args.name c.address-address.result c.shrink-block.result c.address-address.ensures
    c.shrink-block.ensures.shrunk c.requires.fewer c.requires.even c.requires.least
    c.shrink-block.ensures.was c.shrink-block.ensures.after c.shrink-block.ensures.size
    c.shrink-block.ensures.largest c.shrink-block.ensures.gap_resized

below : (c : After-shrink-block) → c.shrink-block.result.size + MIN_BLOCK
    ≤ c.shrink-block.result.was
below c = shrinking-below c.args.found.carrier.key.number c.args.offset c.args.need c.args.name
    c.address-address.result c.shrink-block.result _ _ _ c.self.view_is (shrunk c) c.requires.fewer

pub update-requires : goal.update-requires
update-requires c =
    in-set _ c.args.self.now c.self.inside.set.held c.args.found c.self.view_is
    c.self.invariant.listed.held c.requires.found

pub note_released-requires-clause-held : goal.note_released-requires-clause-held
note_released-requires-clause-held c =
    let after = (goal.at.note_released-requires-clause-held c).After-shrink-block in
    let fewer = below after in
    can-join _ _ _ _ _ _ (shrinking-IsJoin c.args.found.carrier.key.number c.args.offset
    (λ m. c.args.need) c.args.name c.address-address.result c.shrink-block.result _ _ (laid after)
    (shrunk after) (omega (arith, fewer))) c.self.inside.bins c.self.invariant.listed.gaps

pub invariant_of-self : goal.invariant_of-self
invariant_of-self c =
    let after = (goal.at.invariant_of-self c).After-shrink-block in
    let n = c.args.found.carrier.key.number in
    let w = shrunk after in
    let fewer = below after in
    let join = shrinking-IsJoin n c.args.offset (λ m. c.args.need) c.args.name
    c.address-address.result c.shrink-block.result _ _ (laid after) w (omega (arith, fewer)) in
    record {
      listed =
          IsListed-changed (λ m. resized m c.args.offset c.args.need c.args.name)
          (resized_by-keeps c.args.offset (λ m. c.args.need) c.args.name) n w.content
          _ _ _ _ _ _ _ _ _ w.there (laid after).rising c.self.invariant.listed w.is
          w.block.largest c.update.ensures.updated c.note_released.ensures.fit
          c.note_released.ensures.places
          (join-noted _ _ _ _ _ _ join c.self.inside.bins
          c.self.invariant.listed.gaps c.note_released.new.bins
          c.note_released.ensures.joined);
      room = c.self.invariant.room;
      counted =
          resized-counted n c.args.offset (λ m. c.args.need) c.args.name _ _ _ _ (laid after) w
          _ _ c.self.invariant.counted c.with_size-self-inside.ensures;
    }

pub note_released-requires-clause-room : goal.note_released-requires-clause-room
note_released-requires-clause-room c =
    has-room _ _ _ _ _ c.self.invariant.listed
    (laid (goal.at.note_released-requires-clause-room c).After-shrink-block).sound

pub with_size-self-inside-requires : goal.with_size-self-inside-requires
with_size-self-inside-requires c =
    let after = (goal.at.with_size-self-inside-requires c).After-shrink-block in
    let fewer = below after in
    let within = resized-within c.args.found.carrier.key.number c.args.offset (λ m. c.args.need)
    c.args.name c.address-address.result c.shrink-block.result _ _ (laid after) (shrunk after) _
    c.self.invariant.counted in
    (within, search (rules, within, fewer))

pub overflow_sub-rest : goal.overflow_sub-rest
overflow_sub-rest c =
    let fewer = below (goal.at.overflow_sub-rest c).After-shrink-block in
    omega (arith, fewer)

pub overflow_add-address : goal.overflow_add-address
overflow_add-address c =
    let after = (goal.at.overflow_add-address c).After-shrink-block in
    omega (
      arith,
      below after,
      resizing-low c.args.found.carrier.key.number c.args.offset (λ m. c.args.need) c.args.name
          c.address-address.result c.shrink-block.result _ _ (laid after) (shrunk after),
    )

pub returns : goal.returns
returns c =
    ap (λ cs. record {
      strategy = c.self.inside.strategy;
      units = c.self.inside.units;
      contents = cs;
    }) (shrunk (goal.at.returns c).After-shrink-block).is
    ∙ ap (λ (l : CarrierList). record l {
      contents =
          changed (λ m. resized m c.args.offset c.args.need c.args.name)
          c.args.found.carrier.key.number l.contents;
    }) c.self.view_is
