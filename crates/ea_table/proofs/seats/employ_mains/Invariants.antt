use Rattle.ea_shared.specs.Carriers.{main_upto}
use Rattle.ea_table.specs.Start.{HasOwners}
use Rattle.ea_table.proofs.seats.employ_mains.Given as goal

abbrev pub invariant-loop-before : goal.invariant-loop-before
invariant-loop-before l =
    HasOwners l.fn.schedulers l.fn.greatest l.words (main_upto l.before)
