use Rattle.std.proofs.Common.{◌≡◌, rules, true, false, ap, sym, ◌∙◌, subst}
use Rattle.std.specs.Prelude.{IfOk, IfErr, is_some}
use Rattle.std.proofs.lemmas.List.Sorted.{answers_always}
use Rattle.ea_cset.specs.Ranks.{rank_key}
use Rattle.ea_cset.proofs.Rising.{no_rank}
use Rattle.ea_cset.proofs.Searched.{searched, place-index, free-none, between-free}
use Rattle.ea_cset.proofs.Searched.{IsPlace, IsBetween}
use Rattle.ea_cset.proofs.ranking.rank_in.Goals as goal

pub unreachable-requires : goal.unreachable-requires
unreachable-requires c =
    let r = c.binary_search_by_key.ensures in
    let free = free-none rank_key c.args.key c.args.ranks.now
    (between-free rank_key c.args.key c.args.ranks.now _
    (subst (λ r. IfErr r (IsBetween rank_key c.args.key c.args.ranks.now)) c.in-Err.is
    (searched rank_key c.args.key c.args.ranks.now c.requires.rising _
    r.bound (r.position rank_key (answers_always _ _ _ (λ f a r g called. search rules)))).1)) in
    let held : false ≡ true = sym (ap is_some free) ∙ c.requires.there in
    absurd cc

pub returns-clause-index : goal.returns-clause-index
returns-clause-index c =
    let r = c.binary_search_by_key.ensures in
    place-index rank_key c.args.key c.args.ranks.now c.requires.rising no_rank c.in-Ok.place
    (subst (λ r. IfOk r (IsPlace rank_key c.args.key c.args.ranks.now)) c.in-Ok.is
    (searched rank_key c.args.key c.args.ranks.now c.requires.rising _
    r.bound (r.position rank_key (answers_always _ _ _ (λ f a r g called. search rules)))).0)
