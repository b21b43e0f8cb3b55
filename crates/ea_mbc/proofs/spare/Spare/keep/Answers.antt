use Rattle.std.proofs.Common.{List, ap, sym, ◌∙◌, get_or, length, length-append, arith}
use Rattle.std.specs.Prelude.{option_to_list, sum_by}
use Rattle.std.proofs.lemmas.List.{get_or_append_left}
use Rattle.std.proofs.lemmas.List.Sums.{sum_by-append, sum_by-cons}
use Rattle.ea_model.specs.Content.{Content}
use Rattle.ea_mbc.proofs.spare.Spare.keep.Goals as goal

pub put_first-requires : goal.put_first-requires
put_first-requires c = record { room = c.is_full.ensures.room c.loop-self-test.false }

pub invariant_of-self-clause-empty : goal.invariant_of-self-clause-empty
invariant_of-self-clause-empty c k d h =
    let left = c.pop.new.self.items in
    let gone = option_to_list c.pop.result in
    ap (λ (m : Content). length m.blocks) (sym (ap (λ (l : List Content). get_or l k d)
    c.pop.ensures.items ∙ get_or_append_left left gone d k h))
    ∙ c.loop-self.self.empty k d (omega (
      arith,
      h,
      ap (λ (l : List Content). length l) c.pop.ensures.items,
      length-append left gone,
    ))

pub invariant_of-self-clause-few : goal.invariant_of-self-clause-few
invariant_of-self-clause-few c =
    let units = λ (m : Content). m.units in
    omega (
      arith,
      c.loop-self.self.few,
      ap (sum_by units) c.pop.ensures.items,
      sum_by-append units c.pop.new.self.items (option_to_list c.pop.result),
    )

pub invariant_of-self-2-clause-few : goal.invariant_of-self-2-clause-few
invariant_of-self-2-clause-few c =
    let units = λ (m : Content). m.units in
    omega (
      arith,
      c.is_full.ensures.few c.loop-self-test.false,
      ap (sum_by units) c.put_first.ensures.items,
      sum_by-cons units c.args.carrier c.loop-self.self.carriers.items,
      c.units-units.ensures,
    )
