use Rattle.std.proofs.Common.{◌≡◌, ℕ, ap, refl, subst, sym, arith, ◌∙◌}
use Rattle.std.specs.Prelude.{IfSome}
use Rattle.ea_model.specs.declared.carriers.Spot.{Spot}
use Rattle.ea_model.specs.declared.reallocation.Decision.{Decision}
use Rattle.ea_model.specs.declared.reallocation.Decision.TheVariants.{GrowHere, ShrinkHere, Stay}
use Rattle.ea_model.specs.Content.{resized, taken_of}
use Rattle.ea_model.specs.Instance.{changed, decision_at, resized_by, resized_to}
use Rattle.ea_mbc.specs.Gaps.{room_at}
use Rattle.ea_employed.specs.Listed.{CarrierList}
use Rattle.ea_instance.specs.Kept.{KeepsCarriers, seen_as}
use Rattle.ea_instance.proofs.Keeping.{kept-few}
use Rattle.ea_instance.proofs.Reallocating.{begins-multi, called, carried-out, decided-multi}
use Rattle.ea_instance.proofs.Reallocating.{count_after, same-size, units_by, IsCalled}
use Rattle.ea_instance.proofs.Reallocating.{IsCarriedOut, IsInPlace}
use Rattle.ea_instance.proofs.instance.Instance.resize_multi.Goals as goal
use Rattle.ea_instance.proofs.instance.Instance.resize_multi.Goals.{After-decide}

-- the block of the carrier that was found
abbrev at : ℕ → ℕ → Spot
at number offset = record { carrier = number; offset = offset }

pub block_and_gap-block-requires : goal.block_and_gap-block-requires
block_and_gap-block-requires c =
    begins-multi _ _ _ _ _ _ _ c.self.invariant (at c.args.found.carrier.key.number c.args.offset)
    c.args.need _ c.self.view_is c.requires.block c.at.result.now c.at.ensures

decided : (c : After-decide) → c.decide.result ≡ decision_at c.args.self.now
    (at c.args.found.carrier.key.number c.args.offset) c.args.need
decided c =
    c.decide.ensures ∙ decided-multi _ _ _ _ _ _ _ c.self.invariant
    (at c.args.found.carrier.key.number c.args.offset) c.args.need _ c.self.view_is c.requires.block
    c.at.result.now c.at.ensures _ _ c.block_and_gap-block.ensures.size
    c.block_and_gap-block.ensures.after

needs : (c : After-decide) → IsCalled c.self.inside.carriers
    (at c.args.found.carrier.key.number c.args.offset) c.args.need c.decide.result
needs c =
    called _ _ _ _ _ _ _ c.self.invariant (at c.args.found.carrier.key.number c.args.offset)
    c.args.need _ c.self.view_is c.requires.block c.at.result.now c.at.ensures c.decide.result
    (decided c)

made : (c : After-decide) (d : Decision) → c.decide.result ≡ d → IsInPlace d → (new : CarrierList)
    → new ≡ record c.self.inside.carriers {
      contents =
          changed (λ x. resized x c.args.offset (units_by d c.args.offset c.args.need x)
          c.args.name) c.args.found.carrier.key.number c.self.inside.carriers.contents;
    } → IsCarriedOut c.self.inside.settings c.self.inside.number c.self.inside.own
    c.self.inside.singles c.self.inside.created (count_after d c.self.inside.count) (at
    c.args.found.carrier.key.number c.args.offset)
    c.args.need c.args.name c.args.self.now c.at.result.now d new
made c d arm place new is =
    carried-out _ _ _ _ _ _ _ c.self.invariant (at c.args.found.carrier.key.number c.args.offset)
    c.args.need _ c.self.view_is c.requires.block c.at.result.now c.at.ensures c.decide.result
    (decided c) c.args.name c.requires.least c.requires.even d arm place new is

pub rename-requires-clause-block : goal.rename-requires-clause-block
rename-requires-clause-block c = (needs (goal.at.rename-requires-clause-block c).After-decide).block

pub invariant_of-self : goal.invariant_of-self
invariant_of-self c = (made (goal.at.invariant_of-self c).After-decide Stay c.in-Stay.is tt
    c.rename.new.self c.rename.ensures.renamed).kept

pub returns-in-Stay-clause-resized : goal.returns-in-Stay-clause-resized
returns-in-Stay-clause-resized c = (made (goal.at.returns-in-Stay-clause-resized c).After-decide
    Stay c.in-Stay.is tt c.rename.new.self c.rename.ensures.renamed).seen

pub returns-in-Stay-clause-size : goal.returns-in-Stay-clause-size
returns-in-Stay-clause-size c =
    c.rename.ensures.size
    ∙ same-size _ _ _ _ _ _ _ c.self.invariant (at c.args.found.carrier.key.number c.args.offset)
    c.args.need _ c.self.view_is c.requires.block c.at.result.now c.at.ensures
    ∙ (made (goal.at.returns-in-Stay-clause-size c).After-decide Stay c.in-Stay.is tt
    c.rename.new.self c.rename.ensures.renamed).told

pub shrink-requires-clause-block : goal.shrink-requires-clause-block
shrink-requires-clause-block c = (needs (goal.at.shrink-requires-clause-block c).After-decide).block

pub shrink-requires-clause-fewer : goal.shrink-requires-clause-fewer
shrink-requires-clause-fewer c = (needs (goal.at.shrink-requires-clause-fewer c).After-decide).fewer
    c.in-ShrinkHere.is

pub invariant_of-self-in-ShrinkHere : goal.invariant_of-self-in-ShrinkHere
invariant_of-self-in-ShrinkHere c =
    subst (KeepsCarriers c.self.inside.settings c.self.inside.number c.self.inside.own
    c.shrink.new.self c.self.inside.singles c.self.inside.created) (sym
    c.saturating_sub-self-inside.ensures)
    ((made (goal.at.invariant_of-self-in-ShrinkHere c).After-decide
    ShrinkHere c.in-ShrinkHere.is tt c.shrink.new.self c.shrink.ensures).kept)

pub returns-in-ShrinkHere-clause-resized : goal.returns-in-ShrinkHere-clause-resized
returns-in-ShrinkHere-clause-resized c =
    ap (seen_as c.self.inside.settings c.self.inside.number c.self.inside.own c.shrink.new.self
    c.self.inside.singles c.self.inside.created) c.saturating_sub-self-inside.ensures
    ∙ (made (goal.at.returns-in-ShrinkHere-clause-resized
    c).After-decide ShrinkHere c.in-ShrinkHere.is tt c.shrink.new.self c.shrink.ensures).seen

pub grow-requires-clause-few : goal.grow-requires-clause-few
grow-requires-clause-few c =
    omega (arith, kept-few _ _ _ _ _ _ _ c.self.invariant)

pub grow-requires-clause-block : goal.grow-requires-clause-block
grow-requires-clause-block c = (needs (goal.at.grow-requires-clause-block c).After-decide).block

pub grow-requires-clause-more : goal.grow-requires-clause-more
grow-requires-clause-more c = (needs (goal.at.grow-requires-clause-more c).After-decide).more
    c.in-GrowHere.is

pub grow-requires-clause-fits : goal.grow-requires-clause-fits
grow-requires-clause-fits c = (needs (goal.at.grow-requires-clause-fits c).After-decide).fits
    c.in-GrowHere.is

pub invariant_of-self-in-GrowHere : goal.invariant_of-self-in-GrowHere
invariant_of-self-in-GrowHere c =
    subst (KeepsCarriers c.self.inside.settings c.self.inside.number c.self.inside.own
    c.grow.new.self c.self.inside.singles c.self.inside.created) (sym
    c.saturating_sub-self-inside-in-GrowHere.ensures)
    ((made (goal.at.invariant_of-self-in-GrowHere c).After-decide
    GrowHere c.in-GrowHere.is tt c.grow.new.self c.grow.ensures.grown).kept)

pub returns-in-GrowHere-clause-resized : goal.returns-in-GrowHere-clause-resized
returns-in-GrowHere-clause-resized c =
    ap (seen_as c.self.inside.settings c.self.inside.number c.self.inside.own c.grow.new.self
    c.self.inside.singles c.self.inside.created) c.saturating_sub-self-inside-in-GrowHere.ensures
    ∙ (made (goal.at.returns-in-GrowHere-clause-resized
    c).After-decide GrowHere c.in-GrowHere.is tt c.grow.new.self c.grow.ensures.grown).seen

pub returns-in-GrowHere-clause-size : goal.returns-in-GrowHere-clause-size
returns-in-GrowHere-clause-size c =
    subst (λ o. IfSome o (λ m. c.grow.result ≡ taken_of (room_at m c.args.offset) c.args.need))
    c.at.ensures c.grow.ensures.size
    ∙ (made (goal.at.returns-in-GrowHere-clause-size c).After-decide GrowHere c.in-GrowHere.is tt
    c.grow.new.self c.grow.ensures.grown).told

pub returns-in-Stay-clause-moves : goal.returns-in-Stay-clause-moves
returns-in-Stay-clause-moves c = (
  λ none. absurd cc,
  λ move. absurd (let same = sym c.in-Stay.is
      ∙ decided (goal.at.returns-in-Stay-clause-moves c).After-decide ∙ move in cc),
)

pub returns-in-ShrinkHere-clause-moves : goal.returns-in-ShrinkHere-clause-moves
returns-in-ShrinkHere-clause-moves c = (
  λ none. absurd cc,
  λ move. absurd (let same = sym c.in-ShrinkHere.is
      ∙ decided (goal.at.returns-in-ShrinkHere-clause-moves c).After-decide ∙ move in cc),
)

pub returns-in-GrowHere-clause-moves : goal.returns-in-GrowHere-clause-moves
returns-in-GrowHere-clause-moves c = (
  λ none. absurd cc,
  λ move. absurd (let same = sym c.in-GrowHere.is
      ∙ decided (goal.at.returns-in-GrowHere-clause-moves c).After-decide ∙ move in cc),
)

pub returns-in-ShrinkHere-clause-size : goal.returns-in-ShrinkHere-clause-size
returns-in-ShrinkHere-clause-size c =
    (made (goal.at.returns-in-ShrinkHere-clause-size c).After-decide ShrinkHere
    c.in-ShrinkHere.is tt c.shrink.new.self c.shrink.ensures).told

pub returns-in-Move-clause-moves : goal.returns-in-Move-clause-moves
returns-in-Move-clause-moves c = (
  λ none. sym (decided (goal.at.returns-in-Move-clause-moves c).After-decide) ∙ c.in-Move.is,
  λ move. refl,
)

pub returns-in-Move-clause-resized : goal.returns-in-Move-clause-resized
returns-in-Move-clause-resized c =
    let spot = at c.args.found.carrier.key.number c.args.offset in
    let now = c.args.self.now in
    ap (λ d. resized_by d now spot (resized_to now spot c.args.need) c.args.name)
    (sym c.in-Move.is ∙ decided (goal.at.returns-in-Move-clause-resized c).After-decide)
