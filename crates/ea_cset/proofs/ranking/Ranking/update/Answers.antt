use Rattle.std.proofs.Common.{◌≡◌, ◌<◌, AllPairs, length, get_or, set, sym, ap, ◌∙◌, subst, refl}
use Rattle.std.proofs.Common.{arith}
use Rattle.std.specs.List.{position_or_len}
use Rattle.std.proofs.Math.ListN.{length-set}
use Rattle.ea_model.specs.Keyed.{changed_at, has_key, IsBelow}
use Rattle.ea_model.proofs.Rising.{rising-changed, set-changed}
use Rattle.ea_cset.specs.declared.ranking.Rank.{Rank}
use Rattle.ea_cset.specs.Ranks.{rank_key, refit, AreFits, Ranks}
use Rattle.ea_cset.proofs.Ranked.{fits-set}
use Rattle.ea_cset.proofs.ranking.Ranking.update.Goals as goal

within : (c : goal.After-set) → c.rank_in-place.result < length c.self.inside.ranks.items
within c = subst (λ xs. c.rank_in-place.result < length xs) c.deref.ensures.value
    c.rank_in-place.ensures.within

updated : (c : goal.After-set)
    → set c.self.inside.ranks.items c.rank_in-place.result (refit c.args.fit c.index_mut.result.now)
    ≡ changed_at rank_key (refit c.args.fit) c.args.key c.self.inside.ranks.items
updated c =
    let rs = c.self.inside.ranks.items in
    let i = c.rank_in-place.result in
    let index : i ≡ position_or_len (has_key rank_key c.args.key) rs = c.rank_in-place.ensures.index
    ∙ ap (position_or_len (has_key rank_key c.args.key)) c.deref.ensures.value in
    ap (λ (r : Rank). set rs i (refit c.args.fit r)) c.index_mut.ensures.value
    ∙ ap (λ k. set rs k (refit c.args.fit (get_or rs k c.index_mut.result.now))) index
    ∙ set-changed rank_key (refit c.args.fit) c.args.key c.index_mut.result.now rs
    c.self.invariant.rising (subst (λ k. k < length rs) index (within c))

pub invariant_of-self : goal.invariant_of-self
invariant_of-self c =
    let rs = c.self.inside.ranks.items in
    let i = c.rank_in-place.result in
    let r = refit c.args.fit c.index_mut.result.now in
    record {
      rising =
          subst (AllPairs (IsBelow rank_key)) (sym (updated c))
          (rising-changed rank_key (refit c.args.fit) c.args.key (λ x. refl) rs
          c.self.invariant.rising);
      within = omega (arith, c.self.invariant.within, length-set rs i r);
      reserved = c.self.invariant.reserved;
      small = c.self.invariant.small;
      long =
          ap length c.set.ensures ∙ length-set c.self.inside.tree i c.args.fit
          ∙ c.self.invariant.long;
      written =
          subst (AreFits (set rs i r)) (sym c.set.ensures)
          (fits-set rs i r c.self.inside.tree (within c)
          (omega (arith, c.self.invariant.within, c.self.invariant.long))
          c.self.invariant.written);
    }

pub returns-clause-updated : goal.returns-clause-updated
returns-clause-updated c =
    ap (λ xs. record { ranks = xs; room = c.self.inside.room }) (updated c)
    ∙ ap (λ (r : Ranks). record r {
      ranks = changed_at rank_key (refit c.args.fit) c.args.key r.ranks;
    }) c.self.view_is
