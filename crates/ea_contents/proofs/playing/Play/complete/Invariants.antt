use Rattle.ea_contents.proofs.Played.{IsCompleting}
use Rattle.ea_contents.proofs.playing.Play.complete.Given as goal

abbrev pub invariant-loop-before : goal.invariant-loop-before
invariant-loop-before l = IsCompleting l.before l.initial.self l.self
