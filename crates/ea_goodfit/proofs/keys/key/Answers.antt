use Rattle.std.proofs.Common.{◌<◌, sym, subst, ◌+◌, ◌*◌, ◌^◌, ◌≡◌, arith}
use Rattle.ea_goodfit.specs.Keys.{key_of, width_of}
use Rattle.ea_goodfit.proofs.KeyOrder.{key_of-within}
use Rattle.ea_goodfit.proofs.keys.key.Goals as goal

pub returns-clause-within : goal.returns-clause-within
returns-clause-within c = λ fits.
    let is : c.from.result * 2 ^ 32 + c.from-2.result ≡ key_of c.args.fit c.args.gap =
    omega (arith, c.from.ensures, c.class.ensures, c.from-2.ensures, c.place.ensures.place) in
    subst (λ n. n < width_of c.args.fit) (sym is)
    (key_of-within c.args.fit c.args.gap c.place.ensures.bounded fits)
