use Rattle.std.proofs.Common.{◌<◌, refl, subst}
use Rattle.ea_keytree.specs.Keys.{IsLastUpTo}
use Rattle.ea_mem_shared.proofs.Lasts.{last-found, last-none}
use Rattle.ea_mem_shared.specs.Counted.{IsLast, is_counted}
use Rattle.ea_mem_shared.proofs.counted.Counted.last_upto.Goals as goal

pub returns-in-Some : goal.returns-in-Some
returns-in-Some c =
    let keys = c.self.inside.numbers.keys in
    subst (λ xs. IsLast (is_counted xs) c.args.number c.in-Some.found.position) c.self.view_is
    (last-found keys c.self.invariant.1 c.args.number c.in-Some.found
    (subst (λ k. IsLastUpTo k keys c.in-Some.found) c.from.ensures c.in-Some.ensures.found))

pub returns-in-None : goal.returns-in-None
returns-in-None c =
    subst (λ xs. IsLast (is_counted xs) c.args.number 0) c.self.view_is
    (last-none c.self.inside.numbers.keys c.self.invariant.1 c.args.number
    (λ q k e. subst (λ n. n < k) c.from.ensures (c.in-None.ensures.none.0 refl q k e)))
