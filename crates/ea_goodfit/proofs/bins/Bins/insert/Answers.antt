use Rattle.std.proofs.Common.{◌∷◌, sym, ap, ◌∙◌, subst}
use Rattle.std.specs.Prelude.{AllPairs, length}
use Rattle.std.specs.List.Sorted.{IsPermutation}
use Rattle.ea_model.proofs.Rising.{length-entered, rising-entered}
use Rattle.ea_goodfit.specs.Gaps.{HeldGaps, address_of, is_held, IsBelow}
use Rattle.ea_goodfit.proofs.Lists.{held-entered}
use Rattle.ea_goodfit.proofs.Permuted.{entered-permuted}
use Rattle.ea_goodfit.proofs.bins.Bins.insert.Goals as goal

pub returns-clause-count : goal.returns-clause-count
returns-clause-count c = ap (λ (s : HeldGaps). length s.held) c.enter.ensures.held
    ∙ length-entered address_of c.args.gap c.args.self.now.held

pub returns-clause-rising : goal.returns-clause-rising
returns-clause-rising c =
    subst (λ (s : HeldGaps). AllPairs IsBelow s.held) (sym c.enter.ensures.held)
    (rising-entered address_of c.args.gap c.args.self.now.held c.enter.ensures.rising
    c.requires.address)

pub returns-clause-gaps : goal.returns-clause-gaps
returns-clause-gaps c = λ g. ap (λ (s : HeldGaps). is_held g s.held) c.enter.ensures.held
    ∙ held-entered g c.args.gap c.args.self.now.held

pub returns-clause-order : goal.returns-clause-order
returns-clause-order c =
    subst (λ (s : HeldGaps). IsPermutation s.held (c.args.gap ∷ c.args.self.now.held))
    (sym c.enter.ensures.held) (entered-permuted c.args.gap c.args.self.now.held)
