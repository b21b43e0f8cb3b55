use Rattle.std.proofs.Common.{◌≡◌, ◌∙◌, ap, refl, sym, subst}
use Rattle.std.specs.Option.{option_map_or}
use Rattle.std.specs.Prelude.{false, is_some, [], IfSome, IsSome, Option, Some}
use Rattle.ea_model.specs.declared.carriers.Kind.TheVariants.{Single}
use Rattle.ea_model.specs.Content.{Content, is_vacant, released}
use Rattle.ea_model.specs.Instance.{block_in, changed, content_of, employed, has_vacant}
use Rattle.ea_model.proofs.Rising.{changed-found, item_at-All}
use Rattle.ea_laws.specs.Kept.{number_of, IsLaidOut, IsLaidOutAlone}
use Rattle.ea_laws.proofs.Blocks.{releasing-gone, releasing-others}
use Rattle.ea_employed.specs.Listed.{CarrierList}
use Rattle.ea_instance.specs.Kept.{KeepsCarriers, seen_as}
use Rattle.ea_instance.proofs.Following.{shared-not_single, single-emptied, single-vacant}
use Rattle.ea_instance.proofs.Following.{some-content}
use Rattle.ea_instance.proofs.Keeping.{block-multi, block-single, found-multi, found-single}
use Rattle.ea_instance.proofs.Keeping.{kept-released, kept-single-released, multi-none}
use Rattle.ea_instance.proofs.Keeping.{multi-there, seen-released, seen-single-released}
use Rattle.ea_instance.proofs.instance.Instance.release.Goals as goal
use Rattle.ea_instance.proofs.instance.Instance.release.Goals.{After-release}

-- a singleblock carrier is left without blocks
abbrev IsEmptied : Option Content → Type 0
IsEmptied o = IfSome o (λ c. c.kind ≡ Single → c.blocks ≡ [])

pub release-requires-clause-block : goal.release-requires-clause-block
release-requires-clause-block c =
    let spot = c.args.spot in
    let (x, there) = multi-there _ _ _ _ _ _ _ c.self.invariant _ c.self.view_is spot.carrier
    (sym c.find_multi.ensures.there ∙ ap is_some c.in-Some.is) in
    subst (λ n. IsSome (block_in c.self.inside.carriers.contents (record {
      carrier = n;
      offset = spot.offset;
    }))) (sym c.in-Some.ensures.number) (subst IsSome
    (sym (ap (λ i. block_in (employed i) spot) c.self.view_is)
    ∙ block-multi _ _ _ _ _ _ _ c.self.invariant spot x there) c.requires)

-- the carrier that was found is the one of the spot
told : (c : After-release) → c.release.new.self ≡ record c.self.inside.carriers {
  contents =
      changed (λ y. released y c.args.spot.offset) c.args.spot.carrier
      c.self.inside.carriers.contents;
}
told c = subst (λ n. c.release.new.self ≡ record c.self.inside.carriers {
  contents =
      changed (λ y. released y c.args.spot.offset) n c.self.inside.carriers.contents;
}) c.in-Some.ensures.number c.release.ensures.released

pub invariant_of-self : goal.invariant_of-self
invariant_of-self c =
    let spot = c.args.spot in
    subst (KeepsCarriers c.self.inside.settings c.self.inside.number c.self.inside.own
    c.release.new.self c.self.inside.singles c.self.inside.created)
    (sym c.saturating_sub-self-inside.ensures)
    (kept-released _ _ _ _ _ _ _ c.self.invariant spot _ c.self.view_is
    (sym c.find_multi.ensures.there ∙ ap is_some c.in-Some.is) _ (told (goal.at.invariant_of-self
    c).After-release))

pub returns-in-Some-clause-released : goal.returns-in-Some-clause-released
returns-in-Some-clause-released c =
    let spot = c.args.spot in
    ap (seen_as c.self.inside.settings c.self.inside.number c.self.inside.own c.release.new.self
    c.self.inside.singles c.self.inside.created) c.saturating_sub-self-inside.ensures
    ∙ seen-released _ _ _ _ _ _ _ c.self.invariant spot _ c.self.view_is
    (sym c.find_multi.ensures.there ∙ ap is_some c.in-Some.is) _ (told
    (goal.at.returns-in-Some-clause-released c).After-release)

pub returns-in-Some-clause-vacant : goal.returns-in-Some-clause-vacant
returns-in-Some-clause-vacant c =
    let spot = c.args.spot in
    let (x, there) = multi-there _ _ _ _ _ _ _ c.self.invariant _ c.self.view_is spot.carrier
    (sym c.find_multi.ensures.there ∙ ap is_some c.in-Some.is) in
    let f : Content → Content = λ y. released y spot.offset in
    let now : content_of c.release.new.self.contents spot.carrier ≡ Some (f x) =
    ap (λ (l : CarrierList). content_of l.contents spot.carrier) (told
    (goal.at.returns-in-Some-clause-vacant c).After-release)
    ∙ changed-found number_of f spot.carrier (λ y. refl) x c.self.inside.carriers.contents there in
    let found = found-multi _ _ c.self.inside.own c.release.new.self c.self.inside.singles
    c.self.inside.created _ (kept-released _ _ _ _ _ _ _ c.self.invariant spot _ c.self.view_is
    (sym c.find_multi.ensures.there ∙ ap is_some c.in-Some.is) _ (told
    (goal.at.returns-in-Some-clause-vacant c).After-release)) _ refl spot.carrier (f x) now in
    c.release.ensures.vacant
    ∙ ap (λ n. has_vacant n c.release.new.self.contents) c.in-Some.ensures.number
    ∙ ap (λ o. option_map_or is_vacant o false) (now ∙ sym found)

pub returns-in-Some-clause-emptied : goal.returns-in-Some-clause-emptied
returns-in-Some-clause-emptied c =
    let spot = c.args.spot in
    let (x, there) = multi-there _ _ _ _ _ _ _ c.self.invariant _ c.self.view_is spot.carrier
    (sym c.find_multi.ensures.there ∙ ap is_some c.in-Some.is) in
    let f : Content → Content = λ y. released y spot.offset in
    let now : content_of c.release.new.self.contents spot.carrier ≡ Some (f x) =
    ap (λ (l : CarrierList). content_of l.contents spot.carrier) (told
    (goal.at.returns-in-Some-clause-emptied c).After-release)
    ∙ changed-found number_of f spot.carrier (λ y. refl) x c.self.inside.carriers.contents there in
    let found = found-multi _ _ c.self.inside.own c.release.new.self c.self.inside.singles
    c.self.inside.created _ (kept-released _ _ _ _ _ _ _ c.self.invariant spot _ c.self.view_is
    (sym c.find_multi.ensures.there ∙ ap is_some c.in-Some.is) _ (told
    (goal.at.returns-in-Some-clause-emptied c).After-release)) _ refl spot.carrier (f x) now in
    let laid = item_at-All number_of IsLaidOut spot.carrier x c.self.inside.carriers.contents
    c.self.invariant.stands.orderly.laid there in
    subst IsEmptied (sym found) (λ single. absurd (shared-not_single x.kind laid.shared single))

pub returns-in-Some-clause-gone : goal.returns-in-Some-clause-gone
returns-in-Some-clause-gone c =
    let spot = c.args.spot in
    ap (λ i. block_in (employed i) spot) (seen-released _ _ _ _ _ _ _ c.self.invariant spot _
    c.self.view_is
    (sym c.find_multi.ensures.there ∙ ap is_some c.in-Some.is) _ (told
    (goal.at.returns-in-Some-clause-gone c).After-release))
    ∙ releasing-gone c.args.self.now spot

pub returns-in-Some-clause-others : goal.returns-in-Some-clause-others
returns-in-Some-clause-others c =
    let spot = c.args.spot in
    λ at other. ap (λ i. block_in (employed i) at) (seen-released _ _ _ _ _ _ _ c.self.invariant
    spot
    _ c.self.view_is
    (sym c.find_multi.ensures.there ∙ ap is_some c.in-Some.is) _ (told
    (goal.at.returns-in-Some-clause-others c).After-release))
    ∙ releasing-others c.args.self.now spot at other

pub release-requires-2-clause-block : goal.release-requires-2-clause-block
release-requires-2-clause-block c =
    let spot = c.args.spot in
    let none = multi-none _ _ _ _ _ _ _ c.self.invariant _ c.self.view_is spot.carrier
    (sym c.find_multi.ensures.there ∙ ap is_some c.in_default.is) in
    let some = subst IsSome
    (sym (ap (λ i. block_in (employed i) spot) c.self.view_is)
    ∙ block-single _ _ _ _ _ _ _ c.self.invariant spot none) c.requires in
    some

pub invariant_of-self-2 : goal.invariant_of-self-2
invariant_of-self-2 c =
    let spot = c.args.spot in
    kept-single-released _ _ _ _ _ _ _ c.self.invariant spot _ c.self.view_is
    (sym c.find_multi.ensures.there ∙ ap is_some c.in_default.is) _ c.release-2.ensures

pub returns-clause-released : goal.returns-clause-released
returns-clause-released c =
    let spot = c.args.spot in
    seen-single-released _ _ _ _ _ _ _ c.self.invariant spot _ c.self.view_is
    (sym c.find_multi.ensures.there ∙ ap is_some c.in_default.is) _ c.release-2.ensures

pub returns-clause-vacant : goal.returns-clause-vacant
returns-clause-vacant c =
    let spot = c.args.spot in
    let none = multi-none _ _ _ _ _ _ _ c.self.invariant _ c.self.view_is spot.carrier
    (sym c.find_multi.ensures.there ∙ ap is_some c.in_default.is) in
    let some = subst IsSome
    (sym (ap (λ i. block_in (employed i) spot) c.self.view_is)
    ∙ block-single _ _ _ _ _ _ _ c.self.invariant spot none) c.requires in
    let ss = c.self.inside.singles in
    let (y, there, block) = some-content ss spot some in
    let f : Content → Content = λ x. released x spot.offset in
    let found = found-single _ _ c.self.inside.own c.self.inside.carriers c.release-2.new.self
    c.self.inside.created _ (kept-single-released _ _ _ _ _ _ _ c.self.invariant spot _
    c.self.view_is
    (sym c.find_multi.ensures.there ∙ ap is_some c.in_default.is) _ c.release-2.ensures) _ refl
    spot.carrier none
    ∙ ap (λ cs. content_of cs spot.carrier) c.release-2.ensures
    ∙ changed-found number_of f spot.carrier (λ x. refl) y ss there in
    let alone = item_at-All number_of IsLaidOutAlone spot.carrier y ss
    c.self.invariant.stands.orderly.alone there in
    single-vacant y spot.offset alone block
    ∙ ap (λ o. option_map_or is_vacant o false) (sym found)

pub returns-clause-emptied : goal.returns-clause-emptied
returns-clause-emptied c =
    let spot = c.args.spot in
    let none = multi-none _ _ _ _ _ _ _ c.self.invariant _ c.self.view_is spot.carrier
    (sym c.find_multi.ensures.there ∙ ap is_some c.in_default.is) in
    let some = subst IsSome
    (sym (ap (λ i. block_in (employed i) spot) c.self.view_is)
    ∙ block-single _ _ _ _ _ _ _ c.self.invariant spot none) c.requires in
    let ss = c.self.inside.singles in
    let (y, there, block) = some-content ss spot some in
    let f : Content → Content = λ x. released x spot.offset in
    let found = found-single _ _ c.self.inside.own c.self.inside.carriers c.release-2.new.self
    c.self.inside.created _ (kept-single-released _ _ _ _ _ _ _ c.self.invariant spot _
    c.self.view_is
    (sym c.find_multi.ensures.there ∙ ap is_some c.in_default.is) _ c.release-2.ensures) _ refl
    spot.carrier none
    ∙ ap (λ cs. content_of cs spot.carrier) c.release-2.ensures
    ∙ changed-found number_of f spot.carrier (λ x. refl) y ss there in
    let alone = item_at-All number_of IsLaidOutAlone spot.carrier y ss
    c.self.invariant.stands.orderly.alone there in
    subst IsEmptied (sym found) (λ single. single-emptied y spot.offset alone block)

pub returns-clause-gone : goal.returns-clause-gone
returns-clause-gone c =
    let spot = c.args.spot in
    ap (λ i. block_in (employed i) spot) (seen-single-released _ _ _ _ _ _ _ c.self.invariant spot _
    c.self.view_is
    (sym c.find_multi.ensures.there ∙ ap is_some c.in_default.is) _ c.release-2.ensures)
    ∙ releasing-gone c.args.self.now spot

pub returns-clause-others : goal.returns-clause-others
returns-clause-others c =
    let spot = c.args.spot in
    λ at other. ap (λ i. block_in (employed i) at) (seen-single-released _ _ _ _ _ _ _
    c.self.invariant spot _ c.self.view_is
    (sym c.find_multi.ensures.there ∙ ap is_some c.in_default.is) _ c.release-2.ensures)
    ∙ releasing-others c.args.self.now spot at other
