use Rattle.std.proofs.Common.{arith, sym, ap, ◌∙◌}
use Rattle.ea_employed.specs.Choices.{candidate_of}
use Rattle.ea_instance.proofs.Keeping.{blocks-placed, finds-all, finds-none, kept-few, kept-placed}
use Rattle.ea_instance.proofs.Keeping.{none-chosen, place-chosen, seen-placed}
use Rattle.ea_instance.proofs.instance.Instance.try_alloc.Goals as goal

pub place-size-requires-clause-few : goal.place-size-requires-clause-few
place-size-requires-clause-few c =
    omega (arith, kept-few _ _ _ _ _ _ _ c.self.invariant)

pub invariant_of-self : goal.invariant_of-self
invariant_of-self c =
    kept-placed _ _ _ _ _ _ _ c.self.invariant c.args.need c.in_ok-choice.choice _ c.self.view_is
    c.in_ok-choice.ensures.chosen c.in_ok-choice.ensures.choice c.args.name c.requires.even
    c.requires.least _ c.place-size.ensures.placed _ c.raised-self-inside.ensures

pub returns-clause-place : goal.returns-clause-place
returns-clause-place c =
    place-chosen _ _ _ _ _ _ _ c.self.invariant c.args.need c.in_ok-choice.choice _ c.self.view_is
    c.in_ok-choice.ensures.chosen c.in_ok-choice.ensures.choice c.place-size.result
    c.place-size.ensures.size

pub returns-clause-placed : goal.returns-clause-placed
returns-clause-placed c =
    seen-placed _ _ _ _ _ _ _ c.self.invariant c.args.need c.in_ok-choice.choice _ c.self.view_is
    c.in_ok-choice.ensures.chosen c.in_ok-choice.ensures.choice c.args.name c.requires.even
    c.requires.least _ c.place-size.ensures.placed _ c.raised-self-inside.ensures

pub returns-clause-blocks : goal.returns-clause-blocks
returns-clause-blocks c =
    blocks-placed _ _ _ _ _ _ _ c.self.invariant c.args.need c.in_ok-choice.choice _ c.self.view_is
    c.in_ok-choice.ensures.chosen c.in_ok-choice.ensures.choice c.args.name c.requires.even
    c.requires.least _ c.place-size.ensures.placed _ c.raised-self-inside.ensures
    c.place-size.result c.place-size.ensures.size

pub returns-in_err-choice-clause-none : goal.returns-in_err-choice-clause-none
returns-in_err-choice-clause-none c =
    finds-none c.args.self.now c.args.need _
    (c.from_residual.ensures
    ∙ none-chosen _ _ _ _ _ _ _ c.self.invariant c.args.need _ c.self.view_is
    (ap candidate_of (sym c.in_err-choice.was) ∙ c.chosen.ensures.chosen))

pub returns-in_err-choice-clause-all : goal.returns-in_err-choice-clause-all
returns-in_err-choice-clause-all c =
    finds-all c.args.self.now c.args.need _
    (c.from_residual.ensures
    ∙ none-chosen _ _ _ _ _ _ _ c.self.invariant c.args.need _ c.self.view_is
    (ap candidate_of (sym c.in_err-choice.was) ∙ c.chosen.ensures.chosen))

pub returns-clause-none : goal.returns-clause-none
returns-clause-none c =
    finds-none c.args.self.now c.args.need _
    (place-chosen _ _ _ _ _ _ _ c.self.invariant c.args.need c.in_ok-choice.choice _ c.self.view_is
    c.in_ok-choice.ensures.chosen c.in_ok-choice.ensures.choice c.place-size.result
    c.place-size.ensures.size)

pub returns-clause-all : goal.returns-clause-all
returns-clause-all c =
    finds-all c.args.self.now c.args.need _
    (place-chosen _ _ _ _ _ _ _ c.self.invariant c.args.need c.in_ok-choice.choice _ c.self.view_is
    c.in_ok-choice.ensures.chosen c.in_ok-choice.ensures.choice c.place-size.result
    c.place-size.ensures.size)
