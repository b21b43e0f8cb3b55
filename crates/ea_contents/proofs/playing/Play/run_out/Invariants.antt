use Rattle.ea_contents.specs.Playing.{turns_to}
use Rattle.ea_contents.proofs.Played.{IsEnding}
use Rattle.ea_contents.proofs.playing.Play.run_out.Given as goal

abbrev pub invariant-loop-alloc : goal.invariant-loop-alloc
invariant-loop-alloc l = IsEnding l.me l.initial.self l.self

abbrev pub decreases-loop-alloc : goal.decreases-loop-alloc
decreases-loop-alloc l = turns_to l.me l.self
