use Rattle.std.proofs.Common.{◌≡◌, rules, sym, ap, ◌∙◌}
use Rattle.ea_machine.specs.Owners.{Pooled, word_of}
use Rattle.ea_mem_shared.proofs.PlaceLists.{tried-won}
use Rattle.ea_mem_shared.specs.Places.{after_try, place_at, placed}
use Rattle.ea_mem_shared.proofs.carriers.Places.try_take.Goals as goal

pub returns-clause-places : goal.returns-clause-places
returns-clause-places g c =
    let f = g.C.Carried.content in
    let n = c.args.number in
    let left = placed f c.args.left in
    let at : place_at c.args.self.now n
    ≡ Pooled c.in-Pooled.instance c.in-Pooled.largest (f c.in-Pooled.content) =
    sym c.replace.ensures.was ∙ ap (placed f) c.in-Pooled.is in
    let same : word_of (place_at c.args.self.now n) ≡ c.args.seen = search rules in
    c.replace.ensures.places
    ∙ sym (ap (λ r. after_try r n left c.args.self.now)
    (tried-won c.args.seen (place_at c.args.self.now n) _ _ _ at same))
