use Rattle.std.proofs.Common.{arith}
use Rattle.std.proofs.lemmas.Fmt.{length-decimal-le}
use Rattle.ea_report.proofs.tails.Tail.sum.Goals as goal

pub digits-requires : goal.digits-requires
digits-requires c =
    omega (arith, length-decimal-le 20 c.args.n (omega arith) (omega arith) (omega arith))

pub text-requires : goal.text-requires
text-requires c =
    omega (arith, length-decimal-le 20 c.args.n (omega arith) (omega arith) (omega arith))

pub returns-clause-len : goal.returns-clause-len
returns-clause-len c =
    omega (arith, length-decimal-le 20 c.args.n (omega arith) (omega arith) (omega arith))
