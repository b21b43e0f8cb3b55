use Rattle.std.specs.Prelude.{take}
use Rattle.ea_sound.proofs.Schedules.{turns_from}
use Rattle.ea_types.specs.Given.{HasTaken}
use Rattle.ea_types.proofs.given.TypedRun.take_all.Given as goal

abbrev pub invariant-loop-turns : goal.invariant-loop-turns
invariant-loop-turns l = HasTaken (turns_from (take l.turns-index l.schedule)) l.initial.self
    l.self
