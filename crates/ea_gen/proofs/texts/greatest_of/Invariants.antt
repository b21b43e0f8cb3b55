use Rattle.std.proofs.Common.{◌≡◌, max, drop}
use Rattle.ea_model.specs.Trace
use Rattle.ea_gen.proofs.texts.greatest_of.Given as goal

abbrev pub invariant-loop-op : goal.invariant-loop-op
invariant-loop-op l =
    max l.greatest (Trace.greatest_of (drop l.op-index l.text)) ≡ Trace.greatest_of l.fn.text
