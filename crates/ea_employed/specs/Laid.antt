-- The carriers of an instance, laid out, as each call finds them.
use Rattle.std.specs.Prelude.{List, AllPairs, All}
use Rattle.ea_model.specs.Content.{Content}
use Rattle.ea_laws.specs.Kept.{ContentsApart, IsLaidOut, IsRising}

-- the carriers stand by rising number, are laid out and lie apart
pub record AreLaid (cs : List Content) : Type 0 where
  pub rising : IsRising cs
  pub sound : All IsLaidOut cs
  pub apart : AllPairs ContentsApart cs
