use Rattle.std.proofs.Common.{rules, ◌-◌, ◌≤◌, subst, refl, arith}
use Rattle.std.specs.Prelude.{IfOk, IfErr, get_or}
use Rattle.std.proofs.lemmas.List.Sorted.{answers_always}
use Rattle.ea_cset.specs.declared.ranking.Rank.{Rank}
use Rattle.ea_cset.specs.Ranks.{rank_key, IsLastUpTo}
use Rattle.ea_cset.proofs.Lasts.{last-at, last-some}
use Rattle.ea_cset.proofs.Rising.{no_rank}
use Rattle.ea_cset.proofs.Searched.{searched, IsPlace, IsBetween}
use Rattle.ea_cset.proofs.ranking.last_in.Goals as goal

here : (c : goal.After-result-1) (d : Rank)
    → IsLastUpTo c.args.key c.args.ranks.now (get_or c.args.ranks.now c.in-Ok.place d)
here c =
    let r = c.binary_search_by_key.ensures in
    let key = c.args.key in
    let rs = c.args.ranks.now in
    let i = c.in-Ok.place in
    let p : IsPlace rank_key key rs i = (subst (λ r. IfOk r (IsPlace rank_key key rs)) c.in-Ok.is
    (searched rank_key key rs c.requires.rising _
    r.bound (r.position rank_key (answers_always _ _ _ (λ f a r g called. search rules)))).0) in
    last-at key rs c.requires.rising i p.within (λ d. omega (arith, p.has_it d))
    (λ k d lt within. omega (arith, p.has_it d, c.requires.rising i k d lt within))

pub returns-in-Ok-clause-last : goal.returns-in-Ok-clause-last
returns-in-Ok-clause-last c = here c _

pub returns-in-Ok-clause-none : goal.returns-in-Ok-clause-none
returns-in-Ok-clause-none c =
    (λ e. absurd cc, λ a. absurd (last-some c.args.key c.args.ranks.now _ (here c no_rank) a))

pub returns-in-Err-eq0-clause-none : goal.returns-in-Err-eq0-clause-none
returns-in-Err-eq0-clause-none c =
    let r = c.binary_search_by_key.ensures in
    let key = c.args.key in
    let rs = c.args.ranks.now in
    let b : IsBetween rank_key key rs c.in-Err-eq0.field-0 =
    (subst (λ r. IfErr r (IsBetween rank_key key rs)) c.in-Err-eq0.is
    (searched rank_key key rs c.requires.rising _
    r.bound (r.position rank_key (answers_always _ _ _ (λ f a r g called. search rules)))).1) in
    (λ e. λ k d within. b.above k d (omega (arith, c.in-Err-eq0.field-0-test)) within, λ a. refl)

before : (c : goal.After-result-in-Err-1) (d : Rank)
    → IsLastUpTo c.args.key c.args.ranks.now (get_or c.args.ranks.now (c.in-Err.place - 1) d)
before c =
    let r = c.binary_search_by_key.ensures in
    let key = c.args.key in
    let rs = c.args.ranks.now in
    let i = c.in-Err.place in
    let b : IsBetween rank_key key rs i = (subst (λ r. IfErr r (IsBetween rank_key key rs))
    c.in-Err.is (searched rank_key key rs c.requires.rising _
    r.bound (r.position rank_key (answers_always _ _ _ (λ f a r g called. search rules)))).1) in
    let some : 1 ≤ i = omega (arith, c.in-Err.place-test.1) in
    last-at key rs c.requires.rising (i - 1) (omega (arith, b.within, some))
    (λ d. omega (arith, b.below (i - 1) d (omega (arith, some))))
    (λ k d lt within. b.above k d (omega (arith, lt)) within)

pub returns-in-Err-clause-last : goal.returns-in-Err-clause-last
returns-in-Err-clause-last c = before c _

pub returns-in-Err-clause-none : goal.returns-in-Err-clause-none
returns-in-Err-clause-none c =
    (λ e. absurd cc, λ a. absurd (last-some c.args.key c.args.ranks.now _ (before c no_rank) a))
