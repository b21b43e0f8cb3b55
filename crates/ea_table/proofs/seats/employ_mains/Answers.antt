use Rattle.std.proofs.Common.{◌≡◌, ◌+◌, ◌*◌, set, ap, ◌∙◌, arith}
use Rattle.ea_model.specs.declared.units.TheConstants.{NUMBERS}
use Rattle.ea_table.specs.Words.{owner_at}
use Rattle.ea_table.proofs.MainWords.{one-main}
use Rattle.ea_table.proofs.seats.employ_mains.Goals as goal

pub loop-before-preserved : goal.loop-before-preserved
loop-before-preserved c =
    let n = c.args.schedulers in
    let g = c.args.greatest in
    let k = c.loop-before.before in
    let ws = c.loop-before.words in
    let at : c.first_number.result ≡ NUMBERS * k + 1 =
    omega (arith, c.first_number.ensures.first) in
    one-main n g k c.loop-before-test.true ws _ c.loop-before.invariant
    (ap (λ p. set ws p c.encode.result) c.owner_place-place.ensures
    ∙ ap (λ m. set ws (owner_at n g m) c.encode.result) at
    ∙ ap (set ws (owner_at n g (NUMBERS * k + 1))) c.encode.ensures)
