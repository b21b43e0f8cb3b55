use Rattle.std.proofs.Common.{◌<◌, length, ap, ◌∙◌, subst}
use Rattle.std.specs.Prelude.{remove}
use Rattle.std.specs.List.{position_or_len}
use Rattle.ea_model.specs.Keyed.{has_key}
use Rattle.ea_model.proofs.Rising.{remove-without}
use Rattle.ea_model.proofs.keyed.take_out.Goals as goal

pub returns-clause-rest : goal.returns-clause-rest
returns-clause-rest g c =
    let key_of = g.T.Keyed.key_of in
    let items = c.args.items.now.items in
    let index = c.index_of-index.ensures.index
    ∙ ap (position_or_len (has_key key_of c.args.key)) c.deref.ensures.value in
    let within = subst (λ xs. c.index_of-index.result < length xs) c.deref.ensures.value
    c.index_of-index.ensures.within in
    c.remove.ensures.items
    ∙ ap (remove items) index
    ∙ remove-without key_of c.args.key items c.requires.rising
    (subst (λ k. k < length items) index within)
