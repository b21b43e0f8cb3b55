use Rattle.std.proofs.Common.{rules, subst}
use Rattle.std.specs.Prelude.{IfOk, IfErr}
use Rattle.std.proofs.lemmas.List.Sorted.{answers_always}
use Rattle.ea_cset.specs.Ranks.{rank_key}
use Rattle.ea_cset.proofs.Rising.{no_rank}
use Rattle.ea_cset.proofs.Searched.{searched, between-index, IsPlace, IsBetween}
use Rattle.ea_cset.proofs.ranking.place_for.Goals as goal

pub unreachable-requires : goal.unreachable-requires
unreachable-requires c =
    let r = c.binary_search_by_key.ensures in
    let p : IsPlace rank_key c.args.key c.args.ranks.now c.in-Ok.field-0 =
    (subst (λ r. IfOk r (IsPlace rank_key c.args.key c.args.ranks.now)) c.in-Ok.is
    (searched rank_key c.args.key c.args.ranks.now c.requires.rising _
    r.bound (r.position rank_key (answers_always _ _ _ (λ f a r g called. search rules)))).0) in
    c.requires.new _ no_rank p.within (p.has_it no_rank)

pub returns-clause-index : goal.returns-clause-index
returns-clause-index c =
    let r = c.binary_search_by_key.ensures in
    between-index rank_key c.args.key c.args.ranks.now no_rank _
    (subst (λ r. IfErr r (IsBetween rank_key c.args.key c.args.ranks.now)) c.in-Err.is
    (searched rank_key c.args.key c.args.ranks.now c.requires.rising _
    r.bound (r.position rank_key (answers_always _ _ _ (λ f a r g called. search rules)))).1)
