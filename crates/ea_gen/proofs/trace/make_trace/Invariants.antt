use Rattle.std.proofs.Common.{◌≡◌, ◌+◌, ◌-◌, ◌++◌, length, map}
use Rattle.std.specs.List.{flat_map}
use Rattle.ea_model.specs.Trace.{greatest_of}
use Rattle.ea_gen.specs.Generated.{generated, texts_from}
use Rattle.ea_gen.proofs.trace.make_trace.Given as goal

abbrev pub invariant-loop-before : goal.invariant-loop-before
invariant-loop-before l = record {
  texts : map (λ t. t.items) l.texts.items
      ++ texts_from l.seed l.schedulers l.count (l.schedulers - l.before) (l.before + 1)
      l.given.items ≡ generated l.seed l.schedulers l.count;
  greatest : l.greatest ≡ greatest_of (flat_map (λ t. t) (map (λ t. t.items) l.texts.items));
  length : length l.texts.items ≡ l.before;
}
