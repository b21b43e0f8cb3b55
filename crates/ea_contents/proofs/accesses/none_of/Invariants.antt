use Rattle.std.proofs.Common.{◌≡◌, [], replicate}
use Rattle.ea_contents.specs.Reading.{lists_of}
use Rattle.ea_contents.proofs.accesses.none_of.Given as goal

abbrev pub invariant-loop : goal.invariant-loop
invariant-loop l = lists_of l.lists.items ≡ replicate l.counter []
