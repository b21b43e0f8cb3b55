use Rattle.std.proofs.Common.{sym, ap, ◌∙◌, arith, refl}
use Rattle.std.specs.Prelude.{find, option_map, Some}
use Rattle.ea_cset.specs.declared.ranking.Rank.{Rank}
use Rattle.ea_cset.specs.Ranks.{fits, Ranks}
use Rattle.ea_cset.proofs.Ranked.{first-found, none-fits}
use Rattle.ea_cset.proofs.ranking.Ranking.first.Goals as goal

pub returns-in_err-place : goal.returns-in_err-place
returns-in_err-place c =
    c.from_residual.ensures
    ∙ sym (ap (λ (r : Ranks). option_map (λ (x : Rank). x.carrier)
    (find (fits c.args.need) r.ranks))
    (sym c.self.view_is)
    ∙ ap (option_map (λ (x : Rank). x.carrier))
    (none-fits c.args.need c.self.inside.ranks.items c.self.inside.tree
    (omega (arith, c.self.invariant.within, c.self.invariant.long)) c.self.invariant.written
    (c.in_err-place.ensures.none.0 refl)))

pub returns : goal.returns
returns c =
    let found = first-found c.args.need c.self.inside.ranks.items c.self.inside.tree
    c.in_ok-place.place (omega (arith, c.if-need-eq0.false)) c.self.invariant.written
    c.in_ok-place.ensures.found in
    sym (ap (λ (r : Ranks). option_map (λ (x : Rank). x.carrier) (find (fits c.args.need) r.ranks))
    (sym c.self.view_is)
    ∙ ap (option_map (λ (x : Rank). x.carrier)) (found.1 c.index.result.now)
    ∙ ap (λ (x : Rank). Some x.carrier) (sym c.index.ensures))
