use Rattle.std.specs.Prelude.{take}
use Rattle.ea_sound.proofs.Schedules.{turns_from}
use Rattle.ea_contents.proofs.Played.{Taken}
use Rattle.ea_contents.proofs.playing.Play.take_all.Given as goal

abbrev pub invariant-loop-turns : goal.invariant-loop-turns
invariant-loop-turns l = Taken (turns_from (take l.turns-index l.schedule)) l.initial.self l.self
