use Rattle.std.proofs.Common.{◌*◌, List, ap, ◌∙◌}
use Rattle.ea_model.specs.Content.{Content}
use Rattle.ea_model.specs.Instance.{changed}
use Rattle.ea_employed.proofs.Changed.{at_index, set_is_changed}
use Rattle.ea_employed.proofs.singles.Singles.shorten.Goals as goal

pub returns : goal.returns
returns c =
    let cs : List Content = c.self.inside.list.items in
    let item = c.index_mut.result.now in
    let f : Content → Content = λ m. record m { units = 512 * c.args.pages } in
    let at = at_index cs _ _ c.args.number item c.deref.ensures.value
    c.index_of-index.ensures.within c.index_of-index.ensures.item c.index_mut.ensures.value in
    set_is_changed f cs c.index_of-index.result c.args.number item _ at c.self.invariant.rising
    c.shrink_to.ensures ∙ ap (changed f c.args.number) c.self.view_is
