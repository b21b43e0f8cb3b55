use Rattle.std.proofs.Common.{◌≡◌, ◌≢◌, ◌+◌, ◌≤◌, true, arith, length, map, All, ◌∙◌, ap, sym}
use Rattle.std.proofs.Common.{subst}
use Rattle.std.specs.Prelude.{sum_by}
use Rattle.std.proofs.lemmas.List.Elements.{All-map}
use Rattle.ea_model.specs.Content.{Content, gaps_of, largest, Tiled}
use Rattle.ea_model.specs.Instance.{figures}
use Rattle.ea_cset.specs.declared.keys.CarrierKey.{CarrierKey}
use Rattle.ea_cset.specs.declared.keys.CarrierFit.{CarrierFit}
use Rattle.ea_laws.specs.Kept.{ContentsApart, IsLaidOut}
use Rattle.ea_laws.proofs.Apart.{other-bases}
use Rattle.ea_laws.proofs.Contents.{absent-All}
use Rattle.ea_employed.specs.Binned.{has_bins}
use Rattle.ea_employed.specs.Laid.{AreLaid}
use Rattle.ea_employed.specs.Counted.{with_carrier}
use Rattle.ea_employed.specs.Listed.{CarrierList, held_of}
use Rattle.ea_employed.proofs.BinsAfter.{entered-free, entered-gaps, entered-size}
use Rattle.ea_employed.proofs.Counting.{AreBounded, figures-entered, laid-figures}
use Rattle.ea_employed.proofs.Listed.{IsListed-entered}
use Rattle.ea_employed.proofs.Places.{has-room}
use Rattle.ea_employed.proofs.carriers.Carriers.enter.Goals as goal
use Rattle.ea_employed.proofs.carriers.Carriers.enter.Goals.{After-laid_out}

whole : (c : After-laid_out) → IsLaidOut c.args.employed
whole c = record {
  whole = c.requires.whole;
  shared = c.requires.shared;
  tiled = subst (λ (m : Content). Tiled 8 m.units m.blocks) c.employed.view_is
      c.laid_out.ensures.tiled;
  low = c.requires.low;
}

pub add-requires-clause-number : goal.add-requires-clause-number
add-requires-clause-number c =
    let x = c.args.employed in
    let cs = c.self.inside.list.items in
    let other : CarrierList → Type 0 =
    λ l. All (λ (y : Content). y.number ≢ x.number) l.contents in
    subst (All (λ (h : CarrierFit). h.key.number ≢ c.carrier_key-key.result.number))
    (sym c.self.invariant.listed.held)
    (subst (λ (k : CarrierKey). All (λ (h : CarrierFit). h.key.number ≢ k.number) (map held_of cs))
    (sym c.carrier_key-key.ensures)
    (All-map (λ (h : CarrierFit). h.key.number ≢ x.number) held_of cs
    (subst other (sym c.self.view_is)
    (absent-All x.number c.args.self.now.contents c.requires.number))))

pub add-requires-clause-base : goal.add-requires-clause-base
add-requires-clause-base c =
    let x = c.args.employed in
    let cs = c.self.inside.list.items in
    let sound = whole (goal.at.add-requires-clause-base c).After-laid_out in
    let laid = subst (λ (l : CarrierList). AreLaid l.contents) (sym c.self.view_is)
    c.requires.laid in
    let apart = subst (λ (l : CarrierList). All (ContentsApart x) l.contents)
    (sym c.self.view_is) c.requires.apart in
    subst (All (λ (h : CarrierFit). h.key.base ≢ c.carrier_key-key.result.base))
    (sym c.self.invariant.listed.held)
    (subst (λ (k : CarrierKey). All (λ (h : CarrierFit). h.key.base ≢ k.base) (map held_of cs))
    (sym c.carrier_key-key.ensures)
    (All-map (λ (h : CarrierFit). h.key.base ≢ x.base) held_of cs
    (other-bases x cs sound laid.sound apart)))

pub note_entered-requires-clause-address : goal.note_entered-requires-clause-address
note_entered-requires-clause-address c = λ some.
    let x = c.args.employed in
    let sound = whole (goal.at.note_entered-requires-clause-address c).After-laid_out in
    let laid = subst (λ (l : CarrierList). AreLaid l.contents) (sym c.self.view_is)
    c.requires.laid in
    let apart = subst (λ (l : CarrierList). All (ContentsApart x) l.contents)
    (sym c.self.view_is) c.requires.apart in
    entered-free x sound c.requires.empty c.address-address.result c.largest-size.result
    c.address-address.ensures (c.largest-size.ensures
    ∙ ap (λ m. largest (gaps_of m)) c.employed.view_is) _ c.self.inside.bins laid apart
    c.self.invariant.listed.gaps some

pub note_entered-requires-clause-size : goal.note_entered-requires-clause-size
note_entered-requires-clause-size c =
    let x = c.args.employed in
    let sound = whole (goal.at.note_entered-requires-clause-size c).After-laid_out in
    entered-size x sound c.requires.empty c.address-address.result c.largest-size.result
    c.address-address.ensures (c.largest-size.ensures
    ∙ ap (λ m. largest (gaps_of m)) c.employed.view_is)

pub note_entered-requires-clause-room : goal.note_entered-requires-clause-room
note_entered-requires-clause-room c =
    let laid = subst (λ (l : CarrierList). AreLaid l.contents) (sym c.self.view_is)
    c.requires.laid in
    has-room _ _ _ _ _ c.self.invariant.listed laid.sound

pub invariant_of-self : goal.invariant_of-self
invariant_of-self c =
    let x = c.args.employed in
    let sound = whole (goal.at.invariant_of-self c).After-laid_out in
    record {
      listed = IsListed-entered _ _ _ _ x _ _ _ _ _ _ c.self.invariant.listed
          (subst (λ (l : CarrierList). has_bins l.strategy ≡ true
          → sum_by (λ m. m.units) l.contents + x.units ≤ l.units) (sym c.self.view_is)
          c.requires.few) c.enter_within.ensures.items
          c.carrier_key-key.ensures (c.largest-size.ensures
          ∙ ap (λ m. largest (gaps_of m)) c.employed.view_is) c.add.ensures.added
          c.note_entered.ensures.fit c.note_entered.ensures.places
          (entered-gaps x sound c.requires.empty c.address-address.result c.largest-size.result
          c.address-address.ensures (c.largest-size.ensures
          ∙ ap (λ m. largest (gaps_of m)) c.employed.view_is) _ _ c.note_entered.new.bins
          c.enter_within.ensures.items
          (c.note_entered.ensures.entered _ c.self.invariant.listed.gaps));
      room = omega (arith, c.self.invariant.room, c.enter_within.ensures.capacity);
      counted =
          c.with_carrier-self-inside.ensures
          ∙ ap (with_carrier c.units-units.result) c.self.invariant.counted
          ∙ ap (λ u. with_carrier u (figures c.self.inside.list.items))
          (c.units-units.ensures ∙ ap (λ (m : Content). m.units) c.employed.view_is)
          ∙ sym (ap figures c.enter_within.ensures.items
          ∙ figures-entered x c.self.inside.list.items c.requires.empty);
    }

pub with_carrier-self-inside-requires : goal.with_carrier-self-inside-requires
with_carrier-self-inside-requires c =
    let laid = subst (λ (l : CarrierList). AreLaid l.contents) (sym c.self.view_is)
    c.requires.laid in
    let few = ap (λ (l : CarrierList). length l.contents) c.self.view_is in
    let bounded = subst AreBounded (sym c.self.invariant.counted)
    (laid-figures c.self.inside.list.items laid (omega (arith, few, c.requires.room))) in
    let units = c.units-units.ensures ∙ ap (λ (m : Content). m.units) c.employed.view_is in (
      omega (arith, bounded.carriers),
      omega (arith, bounded.carriers_size, units, c.requires.low),
    )
