use Rattle.std.proofs.Common.{◌<◌, get_or, false, refl, ap, ◌∙◌, subst}
use Rattle.ea_keytree.specs.Keys.{IsLastUpTo}
use Rattle.ea_mem_shared.proofs.Lasts.{has-found, has-none}
use Rattle.ea_mem_shared.proofs.counted.Counted.has.Goals as goal

pub returns-in-Some : goal.returns-in-Some
returns-in-Some c =
    let keys = c.self.inside.numbers.keys in
    has-found keys c.self.invariant.1 c.args.number c.in-Some.found
    (subst (λ k. IsLastUpTo k keys c.in-Some.found) c.from.ensures c.in-Some.ensures.found)
    ∙ ap (λ xs. get_or xs c.args.number false) c.self.view_is

pub returns-in-None : goal.returns-in-None
returns-in-None c =
    has-none c.self.inside.numbers.keys c.self.invariant.1 c.args.number
    (λ q k e. subst (λ n. n < k) c.from.ensures (c.in-None.ensures.none.0 refl q k e))
    ∙ ap (λ xs. get_or xs c.args.number false) c.self.view_is
