use Rattle.std.proofs.Common.{◌≡◌, false, map, sym, ap, ◌∙◌, arith}
use Rattle.std.specs.Prelude.{replicate}
use Rattle.ea_machine.specs.Owners.{Absent}
use Rattle.ea_mem_shared.proofs.Lasts.{map-replicate}
use Rattle.ea_mem_shared.proofs.PlaceLists.{all-absent}
use Rattle.ea_mem_shared.specs.Places.{is_in_search, place_at}
use Rattle.ea_mem_shared.proofs.carriers.Places.new.Goals as goal

pub invariant_of-result : goal.invariant_of-result
invariant_of-result g c =
    let all : c.loop-number._number ≡ c.args.count = omega (
      arith,
      c.loop-number-test.false,
      c.loop-number.auto._number-end,
    ) in
    c.in_ok-counted.ensures
    ∙ sym (ap (map is_in_search) c.loop-number.invariant
    ∙ map-replicate is_in_search c.loop-number._number Absent
    ∙ ap (λ k. replicate k false) all)

pub returns-clause-absent : goal.returns-clause-absent
returns-clause-absent g c = λ n.
    ap (λ ps. place_at ps n) c.loop-number.invariant ∙ all-absent c.loop-number._number n
