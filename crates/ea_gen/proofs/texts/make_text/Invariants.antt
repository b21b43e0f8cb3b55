use Rattle.std.proofs.Common.{◌≡◌, ◌+◌, ◌-◌, ◌++◌}
use Rattle.ea_gen.specs.Generated.{base_of, given_to, operations_from, text_of}
use Rattle.ea_gen.specs.Makers.{making}
use Rattle.ea_gen.proofs.texts.make_text.Given as goal

abbrev pub invariant-loop : goal.invariant-loop
invariant-loop l = record {
  text : l.text.items ++ operations_from (l.section.count - l.counter) (making l.maker)
      ≡ text_of l.seed l.section l.fn.given.items;
  gives : l.gives.items ≡ given_to (l.section.scheduler + 1) l.text.items;
  name : l.maker.name ≡ base_of l.section + 1 + l.counter;
}
