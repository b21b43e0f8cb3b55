use Rattle.std.proofs.Common.{List, ap, ◌∙◌, sym, subst, arith}
use Rattle.std.proofs.lemmas.List.Kept.{AllPairs-filter}
use Rattle.ea_model.specs.Content.{Content}
use Rattle.ea_model.specs.Instance.{content_of}
use Rattle.ea_model.specs.Keyed.{IsBelow}
use Rattle.ea_laws.specs.Kept.{number_of, IsRising}
use Rattle.ea_employed.proofs.Changed.{no_blocks}
use Rattle.ea_employed.proofs.Counting.{left-counted, left-within}
use Rattle.ea_employed.proofs.singles.Singles.leave.Goals as goal

pub without_carrier-self-inside-requires : goal.without_carrier-self-inside-requires
without_carrier-self-inside-requires c =
    let none = no_blocks c.args.number c.requires.0 c.take_out-carrier.result
    c.self.inside.list.items
    (ap (λ (xs : List Content). content_of xs c.args.number) c.self.view_is ∙ c.requires.1)
    c.take_out-carrier.ensures.item c.requires.2 in
    left-within c.args.number c.take_out-carrier.result c.self.inside.list.items c.units.result _
    c.self.invariant.rising c.take_out-carrier.ensures.item none c.units.ensures.units
    c.self.invariant.counted

pub invariant_of-self : goal.invariant_of-self
invariant_of-self c =
    let none = no_blocks c.args.number c.requires.0 c.take_out-carrier.result
    c.self.inside.list.items
    (ap (λ (xs : List Content). content_of xs c.args.number) c.self.view_is ∙ c.requires.1)
    c.take_out-carrier.ensures.item c.requires.2 in
    record {
      room = omega (arith, c.self.invariant.room, c.take_out-carrier.ensures.capacity);
      rising = subst IsRising (sym c.take_out-carrier.ensures.rest)
          (AllPairs-filter (IsBelow number_of) _ c.self.inside.list.items
          c.self.invariant.rising);
      counted = left-counted c.args.number c.take_out-carrier.result c.self.inside.list.items _
          c.units.result _ _ c.self.invariant.rising c.take_out-carrier.ensures.item none
          c.take_out-carrier.ensures.rest c.units.ensures.units c.self.invariant.counted
          c.without_carrier-self-inside.ensures;
    }
