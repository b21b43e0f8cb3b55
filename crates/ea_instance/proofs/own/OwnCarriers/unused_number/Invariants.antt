use Rattle.std.proofs.Common.{drop}
use Rattle.ea_instance.proofs.Numbering.{IsNext}
use Rattle.ea_instance.proofs.own.OwnCarriers.unused_number.Given as goal

-- the candidate and the carriers that are left give the lowest unused number of all
abbrev pub invariant-loop-carrier : goal.invariant-loop-carrier
invariant-loop-carrier l = IsNext l.first l.number (drop l.carrier-index l.carrier-items)
    l.self.carriers
