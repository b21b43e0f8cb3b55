use Rattle.std.proofs.Common.{◌≡◌, [], ◌∷◌, ◌++◌, map, sym, ap, ◌∙◌, subst}
use Rattle.std.specs.Prelude.{All}
use Rattle.std.proofs.lemmas.List.{append_assoc, map-append}
use Rattle.std.proofs.lemmas.List.Elements.{All-head, All-tail}
use Rattle.ea_segments.specs.declared.pass.Pass.{Pass}
use Rattle.ea_segments.specs.declared.views.View.{View}
use Rattle.ea_segments.specs.Ruling.{acting}
use Rattle.ea_segments.proofs.Dealing.{joins}
use Rattle.ea_segments.proofs.Ending.{beside, beside-more, beside-none}
use Rattle.ea_segments.proofs.closing.take_in.Goals as goal

pub loop-other-init : goal.loop-other-init
loop-other-init c =
    let gives = c.into_iter-other-iterator.ensures.into_iter_gives.0 in
    record {
      all = gives;
      table = c.requires.seated;
      rest = subst (All (λ (p : Pass). p.seat.table_id ≡ c.args.table.now.shared.table_id))
          (sym gives) c.requires.others;
      view = beside-none c.args.seat.me.0 c.requires.idle;
    }

pub join_seat-requires : goal.join_seat-requires
join_seat-requires c =
    let i = c.loop-other.invariant in
    let same = λ (p : Pass). p.seat.table_id ≡ c.args.table.now.shared.table_id in (
      i.table,
      All-head same c.in-Some.other c.next.new.self.rest.items
          (subst (All same) c.in-Some.ensures.steps.0 i.rest),
      c.in-Some.other.bare,
      c.requires.words,
      joins c.args.table.now.shared.key c.loop-other.seat.id c.loop-other.seat.me.0
          c.in-Some.other.seat.id c.in-Some.other.seat.me.0
          (ap (λ (v : View). v.holds) i.view) c.in-Some.other.idle,
    )

pub loop-other-preserved : goal.loop-other-preserved
loop-other-preserved c =
    let i = c.loop-other.invariant in
    let same = λ (p : Pass). p.seat.table_id ≡ c.args.table.now.shared.table_id in
    let other = c.in-Some.other in
    let steps = c.in-Some.ensures.steps.0 in
    record {
      all = append_assoc c.loop-other.yielded (other ∷ []) c.next.new.self.rest.items
          ∙ ap (λ xs. c.loop-other.yielded ++ xs) (sym steps) ∙ i.all;
      table = c.join_seat.ensures.0 ∙ i.table;
      rest = All-tail same other c.next.new.self.rest.items (subst (All same) steps i.rest);
      view = beside-more c.args.seat.me.0 c.loop-other.seat.me.0 other.seat.me.0
          c.join_seat.new.seat.me.0
          (map (λ (p : Pass). acting p.seat.me.0) c.loop-other.yielded) i.view
          other.single (ap (λ m. m.0) c.join_seat.ensures.2)
          ∙ ap (beside c.args.seat.me.0)
          (sym (map-append (λ (p : Pass). acting p.seat.me.0) c.loop-other.yielded (other ∷ [])));
    }
