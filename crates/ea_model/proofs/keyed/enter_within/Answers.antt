use Rattle.std.proofs.Common.{ap, ◌∙◌}
use Rattle.std.specs.Prelude.{insert}
use Rattle.std.specs.List.{position_or_len}
use Rattle.ea_model.specs.Keyed.{is_after}
use Rattle.ea_model.proofs.Rising.{insert-entered}
use Rattle.ea_model.proofs.keyed.enter_within.Goals as goal

pub returns-clause-items : goal.returns-clause-items
returns-clause-items g c =
    let key_of = g.T.Keyed.key_of in
    let items = c.args.items.now.items in
    c.in-Ok.ensures.items
    ∙ ap (λ n. insert items n c.args.item) (c.index_after-index.ensures.index
    ∙ ap (λ k. position_or_len (is_after key_of k) c.deref.result.now) c.key.ensures
    ∙ ap (position_or_len (is_after key_of (key_of c.args.item))) c.deref.ensures.value)
    ∙ insert-entered key_of c.args.item items
