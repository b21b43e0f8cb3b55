use Rattle.std.proofs.Common.{inl, inr}
use Rattle.ea_sound.specs.MachineLaws.{Protocol}
use Rattle.ea_top.proofs.Asking.{each_trace, never_declined, of_good}
use Rattle.ea_top.proofs.top.run.Goals as goal

pub returns-clause-statuses : goal.returns-clause-statuses
returns-clause-statuses g c = elim c.run_part.ensures.statuses [
  | inl most ↦ most
  | inr seven ↦ absurd (never_declined c.args.words.now _ (c.run_part.ensures.declined_input seven))
]

pub returns-clause-protocol : goal.returns-clause-protocol
returns-clause-protocol g c = λ zero.
    each_trace c.args.words.now Protocol (c.run_part.ensures.promised zero)

pub returns-clause-complete : goal.returns-clause-complete
returns-clause-complete g c = λ good calm dry.
    of_good c.args.words.now _ _ (c.run_part.ensures.complete good calm dry)
