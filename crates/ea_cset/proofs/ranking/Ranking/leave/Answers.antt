use Rattle.std.proofs.Common.{◌≡◌, ◌+◌, ◌<◌, length, sym, ap, ◌∙◌, subst}
use Rattle.std.specs.Prelude.{remove}
use Rattle.std.specs.List.{position_or_len}
use Rattle.ea_model.specs.Keyed.{has_key, without}
use Rattle.ea_model.proofs.Rising.{remove-without}
use Rattle.ea_cset.specs.Ranks.{rank_key, IsWritten, Ranks}
use Rattle.ea_cset.proofs.Ranked.{written-remove}
use Rattle.ea_cset.proofs.ranking.Ranking.leave.Goals as goal

pub write_fits-requires-clause-others : goal.write_fits-requires-clause-others
write_fits-requires-clause-others c =
    let rs = c.self.inside.ranks.items in
    let i = c.rank_in-place.result in
    let within = subst (λ xs. i < length xs) c.deref.ensures.value c.rank_in-place.ensures.within in
    subst (λ xs. IsWritten i (c.len.result + 1) xs c.self.inside.tree)
    (sym (c.deref-2.ensures.value ∙ c.remove.ensures.items))
    (subst (λ n. IsWritten i (n + 1) (remove rs i) c.self.inside.tree)
    (sym (c.len.ensures ∙ sym c.deref-2.ensures.len
    ∙ ap length (c.deref-2.ensures.value ∙ c.remove.ensures.items)))
    (written-remove rs i c.self.inside.tree within c.self.invariant.written))

pub returns-clause-rest : goal.returns-clause-rest
returns-clause-rest c =
    let rs = c.self.inside.ranks.items in
    let i = c.rank_in-place.result in
    let index : i ≡ position_or_len (has_key rank_key c.args.key) rs = c.rank_in-place.ensures.index
    ∙ ap (position_or_len (has_key rank_key c.args.key)) c.deref.ensures.value in
    let within = subst (λ xs. i < length xs) c.deref.ensures.value c.rank_in-place.ensures.within in
    ap (λ xs. record { ranks = xs; room = c.self.inside.room }) (c.remove.ensures.items
    ∙ ap (remove rs) index
    ∙ remove-without rank_key c.args.key rs c.self.invariant.rising
    (subst (λ k. k < length rs) index within))
    ∙ ap (λ (r : Ranks). record r { ranks = without rank_key c.args.key r.ranks }) c.self.view_is
