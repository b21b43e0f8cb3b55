use Rattle.std.proofs.Common.{sym, ap, ◌∙◌}
use Rattle.std.specs.Prelude.{if◌then◌else◌}
use Rattle.ea_search.proofs.Struck.{first-unlisted}
use Rattle.ea_search.proofs.lists.OwnLists.remove.Goals as goal

pub returns-else-not-strike-clause-lists : goal.returns-else-not-strike-clause-lists
returns-else-not-strike-clause-lists c = first-unlisted c.args.self.now c.self.inside.room
    c.args.number c.self.inside.pooled.items c.self.inside.traitors.items
    c.strike.new.numbers.items (sym c.self.view_is) c.strike.ensures.items
    (sym c.strike.ensures.found ∙ ap (λ b. if b then 1 else 0) c.if-not-strike.false) c.requires.once
