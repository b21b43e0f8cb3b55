-- Carriers in which gaps are chosen.
use Rattle.std.specs.Prelude.{Bool, true, false}
use Rattle.ea_model.specs.declared.carriers.Kind.{Kind}
use Rattle.ea_model.specs.declared.carriers.Kind.TheVariants.{Main, Multi, Single}

-- a carrier of many blocks
abbrev pub is_shared : Kind → Bool
is_shared Main = true
is_shared Multi = true
is_shared Single = false
