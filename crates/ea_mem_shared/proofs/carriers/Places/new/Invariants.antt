use Rattle.std.proofs.Common.{◌≡◌, map}
use Rattle.std.specs.Prelude.{replicate}
use Rattle.ea_machine.specs.Owners.{Absent}
use Rattle.ea_mem_shared.specs.Places.{placed}
use Rattle.ea_mem_shared.proofs.carriers.Places.new.Given as goal

abbrev pub invariant-loop-number : goal.invariant-loop-number
invariant-loop-number g l =
    map (placed g.C.Carried.content) l.list.items ≡ replicate l._number Absent
