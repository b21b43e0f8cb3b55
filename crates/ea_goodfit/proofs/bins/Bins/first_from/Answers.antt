use Rattle.std.proofs.Common.{◌<◌, ◌^◌, subst, refl, arith}
use Rattle.std.specs.Prelude.{All, AllPairs, IfSome}
use Rattle.ea_goodfit.specs.Gaps.{HeldGaps, IsBelow}
use Rattle.ea_goodfit.specs.Keys.{IsNext, key_of}
use Rattle.ea_goodfit.proofs.Holding.{key_within, next_gap, next_some, none_next}
use Rattle.ea_goodfit.proofs.bins.Bins.first_from.Goals as goal

pub returns-in_err-found-clause-none : goal.returns-in_err-found-clause-none
returns-in_err-found-clause-none c = λ _.
    subst (λ (s : HeldGaps). All (λ g. key_of s.fit g < c.args.bound) s.held) c.self.view_is
    (none_next _ _ _ _ _ _ _ c.self.invariant c.args.bound (c.in_err-found.ensures.none.0 refl))

pub returns-clause-next : goal.returns-clause-next
returns-clause-next c =
    subst (λ (s : HeldGaps). IfSome c.index.result.now (IsNext s.fit c.args.bound s.held))
    c.self.view_is
    (next_gap _ _ _ _ _ _ _ c.self.invariant c.args.bound c.in_ok-found.found c.index.result.now
    c.in_ok-found.ensures.found c.index.ensures)

pub returns-in_err-found-clause-rising : goal.returns-in_err-found-clause-rising
returns-in_err-found-clause-rising c =
    subst (λ (s : HeldGaps). AllPairs IsBelow s.held) c.self.view_is c.self.invariant.rising

pub returns-in_err-found-clause-bounded : goal.returns-in_err-found-clause-bounded
returns-in_err-found-clause-bounded c =
    subst (λ (s : HeldGaps). All (λ g. g.address < 2 ^ 32) s.held) c.self.view_is
    c.self.invariant.bounded

pub index-requires : goal.index-requires
index-requires c =
    let within = key_within _ _ _ _ _ _ _ c.self.invariant _ c.in_ok-found.ensures.found.within in
    omega (arith, within)

pub returns-clause-none : goal.returns-clause-none
returns-clause-none c = λ none. absurd
    (next_some _ _ _ _ _ _ _ c.self.invariant c.args.bound c.in_ok-found.found
    c.index.result.now c.in_ok-found.ensures.found c.index.ensures none)

pub returns-clause-rising : goal.returns-clause-rising
returns-clause-rising c =
    subst (λ (s : HeldGaps). AllPairs IsBelow s.held) c.self.view_is c.self.invariant.rising

pub returns-clause-bounded : goal.returns-clause-bounded
returns-clause-bounded c =
    subst (λ (s : HeldGaps). All (λ g. g.address < 2 ^ 32) s.held) c.self.view_is
    c.self.invariant.bounded
