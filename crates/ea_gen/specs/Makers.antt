-- The scheduler that a maker makes operations for.
use Rattle.std.specs.Prelude.{drop}
use Rattle.ea_gen.specs.Generated.{Making}
use Rattle.ea_gen.specs.declared.maker.Maker.{Maker}

abbrev pub making : Maker → Making
making m = record {
  section = m.section;
  number = m.number;
  name = m.name;
  hand = m.hand.names;
  waiting = drop m.taken m.given.items;
}
