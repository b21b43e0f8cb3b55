use Rattle.std.proofs.Common.{◌<◌, ap, arith, length, subst}
use Rattle.std.specs.Prelude.{sum_by}
use Rattle.std.proofs.lemmas.List.Sums.{sum_by-remove}
use Rattle.ea_model.specs.Content.{Content}
use Rattle.ea_mbc.proofs.spare.Spare.take.Goals as goal

pub invariant_of-self-clause-few : goal.invariant_of-self-clause-few
invariant_of-self-clause-few c =
    let units = λ (m : Content). m.units in
    let xs = c.args.self.now.carriers.items in
    let place = c.in_ok-place.place in
    omega (
      arith,
      c.args.self.now.few,
      ap (sum_by units) c.remove.ensures.items,
      sum_by-remove units xs place c.remove.result
          (subst (λ ys. place < length ys) c.deref.ensures.value c.in_ok-place.ensures.within),
    )
