use Rattle.std.proofs.Common.{◌∙◌, ap, refl, set, sym, subst}
use Rattle.std.specs.Prelude.{false, IsSome}
use Rattle.std.specs.Option.{option_map_or}
use Rattle.std.proofs.lemmas.Grind.{get_or-set_at}
use Rattle.ea_model.specs.Content.{Content, is_vacant, released}
use Rattle.ea_model.specs.Instance.{changed, content_of, figures}
use Rattle.ea_model.proofs.Rising.{changed-found}
use Rattle.ea_laws.specs.Kept.{number_of}
use Rattle.ea_laws.proofs.Changed.{released-keeps}
use Rattle.ea_employed.specs.Laid.{AreLaid}
use Rattle.ea_employed.specs.Counted.{with_block}
use Rattle.ea_employed.specs.Listed.{CarrierList}
use Rattle.ea_employed.proofs.BinsAfter.{can-join, join-noted, releasing-IsJoin}
use Rattle.ea_employed.proofs.Changing.{found-at, found-block, releasing, IsReleasing}
use Rattle.ea_employed.proofs.Counting.{cancel-block, figures-released, within-block}
use Rattle.ea_employed.proofs.Finding.{in-set}
use Rattle.ea_employed.proofs.Listed.{IsListed-changed}
use Rattle.ea_employed.proofs.Places.{has-room}
use Rattle.ea_employed.proofs.carriers.Carriers.release.Goals as goal
use Rattle.ea_employed.proofs.carriers.Carriers.release.Goals.{After-release-freed}

pub address-address-requires-clause-within : goal.address-address-requires-clause-within
address-address-requires-clause-within c =
    (found-at _ c.args.self.now c.args.found c.args.offset c.index.result.now c.self.view_is
    c.requires.laid c.requires.found c.requires.block c.index.ensures).within

pub release-freed-requires : goal.release-freed-requires
release-freed-requires c = subst (λ b. IsSome b)
    (found-block _ c.args.self.now c.args.found c.args.offset c.index_mut.result.now
    c.behind-self.inside.carrier c.behind-self.inside.kind c.self.view_is c.requires.laid
    c.requires.found c.index_mut.ensures.value c.behind-self.view_is) c.requires.block

laid : (c : After-release-freed) → AreLaid c.self.inside.list.items
laid c = subst (λ (l : CarrierList). AreLaid l.contents) (sym c.self.view_is) c.requires.laid

freed : (c : After-release-freed) → IsReleasing c.args.found.carrier.key.number c.args.offset
    c.address-address.result c.release-freed.result c.self.inside.list.items
    (set c.self.inside.list.items c.args.found.index (record c.release-freed.new.self {
      kind = c.behind-self.inside.kind;
    }))
freed c = releasing _ c.args.self.now c.args.found c.args.offset c.index.result.now
    c.index_mut.result.now c.self.view_is c.requires.laid c.requires.found c.requires.block
    c.index.ensures c.index_mut.ensures.value _ _ _ c.behind-self.view_is c.address-address.result
    c.release-freed.result c.address-address.ensures c.release-freed.ensures.released
    c.release-freed.ensures.size c.release-freed.ensures.gaps c.release-freed.ensures.largest
    c.release-freed.ensures.gaps_joined

pub update-requires : goal.update-requires
update-requires c =
    in-set _ c.args.self.now c.self.inside.set.held c.args.found c.self.view_is
    c.self.invariant.listed.held c.requires.found

pub note_released-requires-clause-held : goal.note_released-requires-clause-held
note_released-requires-clause-held c =
    let after = (goal.at.note_released-requires-clause-held c).After-release-freed in
    can-join _ _ _ _ _ _ (releasing-IsJoin c.args.found.carrier.key.number c.args.offset
    c.address-address.result c.release-freed.result _ _ (laid after) (freed after))
    c.self.inside.bins c.self.invariant.listed.gaps

pub note_released-requires-clause-room : goal.note_released-requires-clause-room
note_released-requires-clause-room c =
    has-room _ _ _ _ _ c.self.invariant.listed
    (laid (goal.at.note_released-requires-clause-room c).After-release-freed).sound

pub without_block-self-inside-requires : goal.without_block-self-inside-requires
without_block-self-inside-requires c =
    let after = (goal.at.without_block-self-inside-requires c).After-release-freed in
    let w = freed after in
    within-block c.release-freed.result.size _ _
    (figures-released c.args.found.carrier.key.number w.content _ c.args.offset _ (laid after)
    w.there w.block w.size ∙ sym c.self.invariant.counted)

pub invariant_of-self : goal.invariant_of-self
invariant_of-self c =
    let after = (goal.at.invariant_of-self c).After-release-freed in
    let n = c.args.found.carrier.key.number in
    let w = freed after in
    let join = releasing-IsJoin n c.args.offset c.address-address.result c.release-freed.result _ _
    (laid after) w in
    record {
      listed =
          IsListed-changed (λ m. released m c.args.offset) (released-keeps _) n w.content
          _ _ _ _ _ _ _ _ _ w.there (laid after).rising c.self.invariant.listed w.is w.largest
          c.update.ensures.updated c.note_released.ensures.fit
          c.note_released.ensures.places
          (join-noted _ _ _ _ _ _ join c.self.inside.bins
          c.self.invariant.listed.gaps c.note_released.new.bins
          c.note_released.ensures.joined);
      room = c.self.invariant.room;
      counted =
          cancel-block c.release-freed.result.size _ _
          (c.without_block-self-inside.ensures ∙ c.self.invariant.counted
          ∙ sym (ap (λ cs. with_block c.release-freed.result.size (figures cs)) w.is
          ∙ figures-released n w.content _ c.args.offset _ (laid after) w.there w.block w.size));
    }

pub returns-clause-vacant : goal.returns-clause-vacant
returns-clause-vacant c =
    let w = freed (goal.at.returns-clause-vacant c).After-release-freed in
    let n = c.args.found.carrier.key.number in
    let f = found-at _ c.args.self.now c.args.found c.args.offset c.index_mut.result.now
    c.self.view_is c.requires.laid c.requires.found c.requires.block c.index_mut.ensures.value in
    c.is_vacant-vacant.ensures.vacant
    ∙ ap is_vacant (c.index-2.ensures ∙ get_or-set_at _ _ _ _ _ refl f.at.within
    ∙ ap (λ (m : Content). record m { kind = c.behind-self.inside.kind })
    c.release-freed.ensures.released
    ∙ ap (λ m. released m c.args.offset) c.behind-self.view_is)
    ∙ sym (ap (λ o. option_map_or is_vacant o false) (ap (λ xs. content_of xs n) w.is
    ∙ changed-found number_of (λ m. released m c.args.offset) n (λ m. refl)
    c.index_mut.result.now c.self.inside.list.items f.at.there))

pub returns-clause-released : goal.returns-clause-released
returns-clause-released c =
    ap (λ cs. record {
      strategy = c.self.inside.strategy;
      units = c.self.inside.units;
      contents = cs;
    }) (freed (goal.at.returns-clause-released c).After-release-freed).is
    ∙ ap (λ (l : CarrierList). record l {
      contents =
          changed (λ m. released m c.args.offset) c.args.found.carrier.key.number l.contents;
    }) c.self.view_is
