use Rattle.std.proofs.Common.{◌≡◌, ℕ, List, arith, length, set, ◌∙◌, ap, sym, subst}
use Rattle.ea_model.specs.declared.carriers.Candidate.{Candidate}
use Rattle.ea_mbc.specs.declared.carrier.Placed.{Placed}
use Rattle.ea_model.specs.Content.{Content, placed, taken_of}
use Rattle.ea_model.specs.Instance.{changed, content_of, figures, size_for}
use Rattle.ea_cset.specs.Carriers.{refitted}
use Rattle.ea_laws.proofs.Changed.{placed-keeps}
use Rattle.ea_employed.specs.Laid.{AreLaid}
use Rattle.ea_employed.specs.Counted.{with_block}
use Rattle.ea_employed.specs.Listed.{CarrierList}
use Rattle.ea_employed.proofs.BinsAfter.{can-cut, cut-noted, placing-IsCut}
use Rattle.ea_employed.proofs.Changing.{placing, IsPlacing}
use Rattle.ea_employed.proofs.Counting.{figures-placed, laid-figures, placed-most, AreBounded}
use Rattle.ea_employed.proofs.Finding.{choice-number, choice-within}
use Rattle.ea_employed.proofs.Listed.{IsListed-changed}
use Rattle.ea_employed.proofs.carriers.Carriers.place.Goals as goal
use Rattle.ea_employed.proofs.carriers.Carriers.place.Goals.{After-place-placed}

sized : (x : Candidate) (need name : ℕ) (p : Placed) (l now : CarrierList) (new : List Content)
    → l ≡ now → IsPlacing need name x p l.contents new
    → p.size ≡ size_for (content_of now.contents x.number) x.offset need
sized x need name p l now new same w =
    w.size ∙ ap (λ n. taken_of n need) (sym w.chosen.gap)
    ∙ ap (λ o. size_for o x.offset need) (sym w.there)
    ∙ ap (λ (m : CarrierList). size_for (content_of m.contents x.number) x.offset need) same

laid : (c : After-place-placed) → AreLaid c.self.inside.list.items
laid c = subst (λ (l : CarrierList). AreLaid l.contents) (sym c.self.view_is) c.requires.laid

made : (c : After-place-placed) → IsPlacing c.args.need c.args.name c.args.choice.candidate
    c.place-placed.result c.self.inside.list.items
    (set c.self.inside.list.items c.args.choice.index (record c.place-placed.new.self {
      kind = c.behind-self.inside.kind;
    }))
made c = placing _ c.args.self.now c.args.need c.args.name c.args.choice _ _ _ _
    c.place-placed.result c.self.view_is c.requires.laid c.requires.choice c.index_mut.ensures.value
    c.behind-self.view_is c.place-placed.ensures.placed c.place-placed.ensures.size
    c.place-placed.ensures.largest c.place-placed.ensures.gap_taken

pub at-found-requires : goal.at-found-requires
at-found-requires c =
    choice-within c.args.need _ c.args.self.now c.args.choice c.self.inside.set.held c.self.view_is
    c.self.invariant.listed.held c.requires.choice

pub note_placed-requires : goal.note_placed-requires
note_placed-requires c =
    let after = (goal.at.note_placed-requires c).After-place-placed in
    can-cut _ _ _ _ _ (placing-IsCut c.args.need c.args.name c.args.choice.candidate
    c.place-placed.result _ _ (laid after) c.requires.even c.requires.least (made after))
    c.self.inside.bins c.self.invariant.listed.gaps

pub invariant_of-self : goal.invariant_of-self
invariant_of-self c =
    let after = (goal.at.invariant_of-self c).After-place-placed in
    let x = c.args.choice.candidate in
    let w = made after in
    let cut = placing-IsCut c.args.need c.args.name x c.place-placed.result _ _ (laid after)
    c.requires.even c.requires.least w in
    let set = c.self.inside.set in
    let number = choice-number c.args.need _ c.args.self.now c.args.choice set.held
    c.self.view_is c.self.invariant.listed.held c.requires.choice c.at-found.result
    c.at-found.ensures.stands c.at-found.ensures.index in
    record {
      listed =
          IsListed-changed (λ m. placed m x.offset c.args.need c.args.name) (placed-keeps _ _ _)
          x.number w.content _ _ _ _ _ _ _ _ _ w.there (laid after).rising c.self.invariant.listed
          w.is w.largest (c.update.ensures.updated
          ∙ ap (λ n. record set { held = refitted n c.place-placed.result.largest set.held })
          number) c.note_placed.ensures.fit c.note_placed.ensures.places
          (cut-noted _ _ _ _ _ cut c.self.inside.bins c.self.invariant.listed.gaps
          c.note_placed.new.bins c.note_placed.ensures.cut);
      room = c.self.invariant.room;
      counted =
          c.with_block-self-inside.ensures
          ∙ ap (with_block c.place-placed.result.size) c.self.invariant.counted
          ∙ sym (ap figures w.is
          ∙ figures-placed x.number w.content _ x.offset c.args.need c.args.name _
          (laid after).rising w.there
          (w.size ∙ ap (λ g. taken_of g c.args.need) (sym w.chosen.gap)));
    }

pub with_block-self-inside-requires : goal.with_block-self-inside-requires
with_block-self-inside-requires c =
    let after = (goal.at.with_block-self-inside-requires c).After-place-placed in
    let few = ap (λ (l : CarrierList). length l.contents) c.self.view_is in
    let bounded = subst AreBounded (sym c.self.invariant.counted)
    (laid-figures c.self.inside.list.items (laid after) (omega (arith, few, c.requires.few))) in
    let most = placed-most c.args.need c.args.name c.args.choice.candidate c.place-placed.result _ _
    (laid after) c.requires.even c.requires.least (made after) in
    (omega (arith, bounded.blocks), omega (arith, bounded.blocks_size, most))

pub returns-clause-size : goal.returns-clause-size
returns-clause-size c =
    sized c.args.choice.candidate c.args.need c.args.name c.place-placed.result _ _ _
    c.self.view_is (made (goal.at.returns-clause-size c).After-place-placed)

pub returns-clause-placed : goal.returns-clause-placed
returns-clause-placed c =
    ap (λ cs. record {
      strategy = c.self.inside.strategy;
      units = c.self.inside.units;
      contents = cs;
    }) (made (goal.at.returns-clause-placed c).After-place-placed).is
    ∙ ap (λ (l : CarrierList). record l {
      contents =
          changed (λ m. placed m c.args.choice.candidate.offset c.args.need c.args.name)
          c.args.choice.candidate.number l.contents;
    }) c.self.view_is
