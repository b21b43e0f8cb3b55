use Rattle.std.proofs.Common.{◌≡◌, ◌≢◌, false, arith, length, map, All, ◌∙◌, ap, refl, sym, subst}
use Rattle.std.proofs.lemmas.List.Elements.{All-map}
use Rattle.ea_model.specs.Content.{Content, gaps_of, largest}
use Rattle.ea_model.specs.Instance.{figures}
use Rattle.ea_cset.specs.declared.keys.CarrierKey.{CarrierKey}
use Rattle.ea_cset.specs.declared.keys.CarrierFit.{CarrierFit}
use Rattle.ea_laws.specs.Kept.{ContentsApart}
use Rattle.ea_laws.proofs.Apart.{other-bases}
use Rattle.ea_laws.proofs.Contents.{absent-All}
use Rattle.ea_employed.specs.Binned.{has_bins}
use Rattle.ea_employed.specs.Laid.{AreLaid}
use Rattle.ea_employed.specs.Counted.{with_whole}
use Rattle.ea_employed.specs.Listed.{CarrierList, held_of}
use Rattle.ea_employed.proofs.Counting.{AreBounded, allocated_in, blocks_in}
use Rattle.ea_employed.proofs.Counting.{figures-with, laid-bounded, laid-figures}
use Rattle.ea_employed.proofs.Listed.{IsListed-entered, no_bins-Hold}
use Rattle.ea_employed.proofs.carriers.Carriers.adopt.Goals as goal

pub add-requires-clause-number : goal.add-requires-clause-number
add-requires-clause-number c =
    let x = c.args.employed in
    let cs = c.self.inside.list.items in
    subst (All (λ (h : CarrierFit). h.key.number ≢ c.carrier_key-key.result.number))
    (sym c.self.invariant.listed.held)
    (subst (λ (k : CarrierKey). All (λ (h : CarrierFit). h.key.number ≢ k.number) (map held_of cs))
    (sym c.carrier_key-key.ensures)
    (All-map (λ (h : CarrierFit). h.key.number ≢ x.number) held_of cs
    (subst (λ (l : CarrierList). All (λ (y : Content). y.number ≢ x.number) l.contents)
    (sym c.self.view_is) (absent-All x.number c.args.self.now.contents c.requires.number))))

pub add-requires-clause-base : goal.add-requires-clause-base
add-requires-clause-base c =
    let x = c.args.employed in
    let cs = c.self.inside.list.items in
    let laid = subst (λ (l : CarrierList). AreLaid l.contents) (sym c.self.view_is)
    c.requires.laid in
    let apart = subst (λ (l : CarrierList). All (ContentsApart x) l.contents)
    (sym c.self.view_is) c.requires.apart in
    subst (All (λ (h : CarrierFit). h.key.base ≢ c.carrier_key-key.result.base))
    (sym c.self.invariant.listed.held)
    (subst (λ (k : CarrierKey). All (λ (h : CarrierFit). h.key.base ≢ k.base) (map held_of cs))
    (sym c.carrier_key-key.ensures)
    (All-map (λ (h : CarrierFit). h.key.base ≢ x.base) held_of cs
    (other-bases x cs c.requires.carrier laid.sound apart)))

pub with_whole-self-inside-requires : goal.with_whole-self-inside-requires
with_whole-self-inside-requires c =
    let laid = subst (λ (l : CarrierList). AreLaid l.contents) (sym c.self.view_is)
    c.requires.laid in
    let few = ap (λ (l : CarrierList). length l.contents) c.self.view_is in
    let bounded = subst AreBounded (sym c.self.invariant.counted)
    (laid-figures c.self.inside.list.items laid (omega (arith, few, c.requires.room))) in
    let one = laid-bounded c.args.employed c.requires.carrier in
    let len = c.len-blocks.ensures ∙ ap blocks_in c.employed.view_is in
    let sum = c.allocated-size.ensures.blocks ∙ ap allocated_in c.employed.view_is in
    let units = c.units-units.ensures ∙ ap (λ (m : Content). m.units) c.employed.view_is in (
      omega (arith, bounded.blocks, one.blocks, len),
      omega (arith, bounded.blocks_size, one.sum, sum),
      omega (arith, bounded.carriers),
      omega (arith, bounded.carriers_size, one.units, units),
    )

none : (c : goal.After-self-1) → has_bins c.self.inside.strategy ≡ false
none c = ap (λ (l : CarrierList). has_bins l.strategy) c.self.view_is ∙ c.requires.strategy

pub invariant_of-self : goal.invariant_of-self
invariant_of-self c =
    let x = c.args.employed in
    let cs = c.self.inside.list.items in
    record {
      listed = IsListed-entered _ _ _ _ x _ _ _ _ _ _ c.self.invariant.listed
          (λ yes. absurd (let no = none c in cc))
          c.enter_within.ensures.items c.carrier_key-key.ensures
          (c.largest-fit.ensures ∙ ap (λ m. largest (gaps_of m)) c.employed.view_is)
          c.add.ensures.added refl (λ _ kept. kept)
          (no_bins-Hold c.self.inside.strategy c.self.inside.units cs c.self.inside.set
          c.self.inside.bins c.self.invariant.listed (none c) _);
      room = omega (arith, c.self.invariant.room, c.enter_within.ensures.capacity);
      counted =
          c.with_whole-self-inside.ensures
          ∙ ap (with_whole c.len-blocks.result c.allocated-size.result c.units-units.result)
          c.self.invariant.counted
          ∙ ap (λ n. with_whole n c.allocated-size.result c.units-units.result (figures cs))
          (c.len-blocks.ensures ∙ ap blocks_in c.employed.view_is)
          ∙ ap (λ n. with_whole (blocks_in x) n c.units-units.result (figures cs))
          (c.allocated-size.ensures.blocks ∙ ap allocated_in c.employed.view_is)
          ∙ ap (λ n. with_whole (blocks_in x) (allocated_in x) n (figures cs))
          (c.units-units.ensures ∙ ap (λ (m : Content). m.units) c.employed.view_is)
          ∙ sym (ap figures c.enter_within.ensures.items ∙ figures-with x cs);
    }
