use Rattle.std.proofs.Common.{◌≡◌, ◌≢◌, ◌≤◌, All, AllPairs, length, sym, ap, ◌∙◌, subst, arith}
use Rattle.std.specs.Prelude.{insert}
use Rattle.std.specs.List.{position_or_len}
use Rattle.ea_model.specs.Keyed.{entered, is_after, IsBelow}
use Rattle.ea_model.proofs.Rising.{length-entered, rising-entered}
use Rattle.ea_cset.specs.Ranks.{rank_key, AreFits, IsWritten, Ranks}
use Rattle.ea_cset.proofs.Ranked.{inserted-entered, written-insert}
use Rattle.ea_cset.proofs.ranking.Ranking.enter.Goals as goal

pub write_fits-requires-clause-others : goal.write_fits-requires-clause-others
write_fits-requires-clause-others c =
    let rs = c.self.inside.ranks.items in
    let i = c.place_for-place.result in
    let within = subst (λ xs. i ≤ length xs) c.deref.ensures.value
    c.place_for-place.ensures.within in
    subst (λ xs. IsWritten i c.len.result xs c.self.inside.tree)
    (sym (c.deref-2.ensures.value ∙ c.insert_within.ensures.items))
    (subst (λ n. IsWritten i n (insert rs i c.args.rank) c.self.inside.tree)
    (sym (c.len.ensures ∙ sym c.deref-2.ensures.len
    ∙ ap length (c.deref-2.ensures.value ∙ c.insert_within.ensures.items)))
    (written-insert rs i c.args.rank c.self.inside.tree within c.self.invariant.written))

items : (c : goal.After-write_fits) → c.insert_within.new.ranks.items
    ≡ entered rank_key c.args.rank c.self.inside.ranks.items
items c =
    c.insert_within.ensures.items
    ∙ inserted-entered c.args.rank c.self.inside.ranks.items c.place_for-place.result
    (c.place_for-place.ensures.index
    ∙ ap (position_or_len (is_after rank_key c.args.rank.key)) c.deref.ensures.value)

pub invariant_of-self : goal.invariant_of-self
invariant_of-self c =
    let rs = c.self.inside.ranks.items in
    record {
      rising =
          subst (AllPairs (IsBelow rank_key)) (sym (items c))
          (rising-entered rank_key c.args.rank rs c.self.invariant.rising
          (subst (λ (r : Ranks). All (λ x. x.key ≢ c.args.rank.key) r.ranks) (sym c.self.view_is)
          c.requires.new));
      within = omega (
        arith,
        ap length (items c),
        length-entered rank_key c.args.rank rs,
        c.requires.room,
        ap (λ (r : Ranks). length r.ranks) c.self.view_is,
        ap (λ (r : Ranks). r.room) c.self.view_is,
      );
      reserved = omega (arith, c.self.invariant.reserved, c.insert_within.ensures.capacity);
      small = c.self.invariant.small;
      long = c.write_fits.ensures.long ∙ c.self.invariant.long;
      written = subst (λ xs. AreFits xs c.write_fits.new.tree) c.deref-2.ensures.value
          c.write_fits.ensures.all;
    }

pub returns-clause-entered : goal.returns-clause-entered
returns-clause-entered c =
    ap (λ xs. record { ranks = xs; room = c.self.inside.room }) (items c)
    ∙ ap (λ (r : Ranks). record r { ranks = entered rank_key c.args.rank r.ranks }) c.self.view_is
