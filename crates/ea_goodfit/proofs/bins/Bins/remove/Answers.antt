use Rattle.std.proofs.Common.{◌≢◌, sym, ap, ◌∙◌, subst, arith}
use Rattle.std.specs.Prelude.{All, AllPairs, length}
use Rattle.std.specs.List.Sorted.{IsPermutation}
use Rattle.std.proofs.lemmas.List.Kept.{AllPairs-filter}
use Rattle.std.proofs.lemmas.List.Sorted.{length_permutation}
use Rattle.ea_model.proofs.Rising.{without-free}
use Rattle.ea_goodfit.specs.Gaps.{HeldGaps, address_of, is_held, IsBelow}
use Rattle.ea_goodfit.proofs.Lists.{held-without}
use Rattle.ea_goodfit.proofs.Permuted.{held-permuted, left-permuted}
use Rattle.ea_goodfit.proofs.bins.Bins.remove.Goals as goal

pub returns-clause-count : goal.returns-clause-count
returns-clause-count c =
    let gone = held-permuted c.args.gap c.args.self.now.held c.take_out.ensures.rising c.requires in
    omega (
      arith,
      ap (λ (s : HeldGaps). length s.held) c.take_out.ensures.held,
      length_permutation _ _ gone,
    )

pub returns-clause-rising : goal.returns-clause-rising
returns-clause-rising c =
    subst (λ (s : HeldGaps). AllPairs IsBelow s.held) (sym c.take_out.ensures.held)
    (AllPairs-filter IsBelow _ c.args.self.now.held c.take_out.ensures.rising)

pub returns-clause-free : goal.returns-clause-free
returns-clause-free c =
    subst (λ (s : HeldGaps). All (λ g. g.address ≢ c.args.gap.address) s.held)
    (sym c.take_out.ensures.held)
    (without-free address_of c.args.gap.address c.args.self.now.held)

pub returns-clause-gaps : goal.returns-clause-gaps
returns-clause-gaps c = λ g. ap (λ (s : HeldGaps). is_held g s.held) c.take_out.ensures.held
    ∙ held-without g c.args.gap.address c.args.self.now.held

pub returns-clause-order : goal.returns-clause-order
returns-clause-order c = λ rest m.
    subst (λ (s : HeldGaps). IsPermutation s.held rest) (sym c.take_out.ensures.held)
    (left-permuted c.args.gap c.args.self.now.held c.take_out.ensures.rising c.requires rest m)
