use Rattle.std.proofs.Common.{map, sym, ap, ◌∙◌}
use Rattle.std.specs.Prelude.{set}
use Rattle.ea_mem_shared.proofs.PlaceLists.{counts-set, places-set}
use Rattle.ea_mem_shared.specs.Places.{is_in_search, placed}
use Rattle.ea_mem_shared.proofs.carriers.Places.replace.Goals as goal

pub invariant_of-self : goal.invariant_of-self
invariant_of-self g c =
    let f = g.C.Carried.content in
    let items = c.self.inside.list.items in
    let n = c.args.number in
    let ps = map (placed f) items in
    let left = placed f c.args.place in
    let is = places-set f items _ n c.args.place (ap (set items n) c.replace.ensures.after) in
    c.note.ensures ∙ ap (λ xs. set xs n c.is_counted.result) c.self.invariant
    ∙ ap (set (map is_in_search ps) n) c.is_counted.ensures
    ∙ sym (ap (map is_in_search) is ∙ counts-set ps n left)

pub returns-clause-places : goal.returns-clause-places
returns-clause-places g c =
    places-set g.C.Carried.content c.self.inside.list.items _ c.args.number c.args.place
    (ap (set c.self.inside.list.items c.args.number) c.replace.ensures.after)
    ∙ ap (λ ps. set ps c.args.number (placed g.C.Carried.content c.args.place)) c.self.view_is
