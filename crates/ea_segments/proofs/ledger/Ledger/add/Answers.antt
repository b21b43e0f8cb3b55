use Rattle.std.proofs.Common.{length, sym, ap, ◌∙◌, subst, arith}
use Rattle.std.proofs.lemmas.List.{length_push}
use Rattle.ea_segments.specs.Histories.{IsLegal, reply_at, stands}
use Rattle.ea_segments.proofs.Legal.{held-laid, held-push, legal-push}
use Rattle.ea_segments.proofs.ledger.Ledger.add.Goals as goal

pub carry_out-requires-clause-laid : goal.carry_out-requires-clause-laid
carry_out-requires-clause-laid c =
    let l = c.self.inside in (
      l.pages,
      held-laid l.pages l.history.items l.held.items c.self.invariant.legal
          c.self.invariant.held_is,
    )

legal : (c : goal.After-push_within)
    → IsLegal c.self.inside.pages c.push_within.new.self.items
legal c =
    let l = c.self.inside in
    subst (IsLegal l.pages) (sym c.push_within.ensures.items)
    (legal-push l.pages l.history.items c.args.call c.self.invariant.legal
    (c.requires.legal ∙ ap (λ a. reply_at a.pages (stands a.history) c.args.call)
    (sym c.self.view_is)))

pub invariant_of-self : goal.invariant_of-self
invariant_of-self c =
    let l = c.self.inside in
    let i = c.self.invariant in
    record {
      few = i.few;
      room = omega (
        arith,
        i.room,
        c.push_within.ensures.room,
        ap length c.push_within.ensures.items,
        length_push l.history.items c.args.call,
      );
      held_room = omega (arith, i.held_room, c.carry_out.ensures.capacity);
      held_is = c.carry_out.ensures.held
          ∙ held-push l.held.items l.history.items c.args.call c.len-turn.result i.held_is
          c.len-turn.ensures
          ∙ ap (λ cs. (stands cs).held) (sym c.push_within.ensures.items);
      legal = legal c;
    }

pub returns-clause-legal : goal.returns-clause-legal
returns-clause-legal c = legal c
