use Rattle.std.proofs.Common.{◌≡◌, ◌+◌, ◌<◌, [], ◌∷◌, ◌++◌, length, sym, ap, ◌∙◌, arith}
use Rattle.std.proofs.Common.{get_or}
use Rattle.std.proofs.lemmas.List.{append_assoc, length-append, length-set}
use Rattle.ea_types.proofs.Growing.{between, column-done, column-later}
use Rattle.ea_types.proofs.columns.add_row.Goals as goal

pub loop-item-preserved : goal.loop-item-preserved
loop-item-preserved g c =
    let i = c.loop-item.invariant in
    let item = c.in-Some.item in
    let rest = c.next.new.self.rest.items in
    let all : c.loop-item.yielded ++ item ∷ rest ≡ c.args.row.items =
    ap (λ xs. c.loop-item.yielded ++ xs) (sym c.in-Some.ensures.steps.0) ∙ i.all in
    let within : c.loop-item.place < length c.loop-item.columns =
    omega (arith, i.place, i.many, c.requires, ap length all, length-append c.loop-item.yielded (item ∷ rest)) in
    let at = λ (d : g.row.T.Denot). ap (λ n. get_or c.args.row.items n d) (sym i.place)
    ∙ between c.loop-item.yielded item rest c.args.row.items all d in
    record {
      able = tt;
      ends = tt;
      all = append_assoc c.loop-item.yielded (item ∷ []) rest ∙ all;
      many = length-set c.loop-item.columns c.loop-item.place c.push.new.self ∙ i.many;
      place = length-append c.loop-item.yielded (item ∷ []) ∙ ap (λ n. n + 1) i.place;
      done = column-done (λ v. v.items) c.loop-item.columns c.args.columns.now c.args.row.items
          c.loop-item.place item c.index-columns-place.result c.push.new.self within
          c.in_ok-push.ensures.items at i.many i.done i.later;
      later = column-later (λ v. v.items) c.loop-item.columns c.args.columns.now c.args.row.items
          c.loop-item.place item c.index-columns-place.result c.push.new.self within
          c.in_ok-push.ensures.items at i.many i.later;
    }
